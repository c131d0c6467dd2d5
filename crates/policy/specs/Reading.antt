-- What a policy file is read as, or its first fault: the lines of each `do` are in the order of the faults.
use Rattle.std.specs.Prelude.{◌≡◌, ℕ, ℤ, pos, Bool, true, false, not, ◌&&◌, ◌||◌, ◌==◌, nat_le, nat_lt, if◌then◌else◌, List, [], ◌∷◌, codes, length, Option, Some, None, is_some, is_none, option_and_then, unwrap_or, Result, Ok, Err, ok_or}
use Rattle.std.specs.Char.{is_ascii_alphanumeric}
use Rattle.std.specs.FinSet.{from_list}
use Rattle.std.specs.Int.{is_in_range}
use Rattle.std.specs.List.{list_any, list_all}
use Rattle.std.specs.Str.{bytes_eq, is_utf8}
use Rattle.toml.specs.Parse.{parse_document}
use Rattle.toml.specs.Data.{Data, Members, Items, no_items, item, get_member, as_integer, as_str, as_table, as_array}
use Rattle.calendar.specs.Named.{moment_named}
use Rattle.names.specs.Labels.{is_name}
use Rattle.names.specs.Canonical.{reads_as_itself}
use Rattle.policy.specs.declared.key.Key.{Key}
use Rattle.policy.specs.declared.key.Key.TheVariants as keys
use Rattle.policy.specs.declared.key.Key.TheVariants.{Zone, Reserved, RegistrarId, RegistrarPassword, PriceCreate, PriceRenew, PriceTransfer, SoaMname, SoaRname, SoaRefresh, SoaRetry, SoaExpire, SoaMinimum, SoaTtl}
use Rattle.policy.specs.declared.fault.PolicyFault.{PolicyFault}
use Rattle.policy.specs.declared.fault.PolicyFault.TheVariants.{NotToml, Missing, Range, Twice, Memory}
use Rattle.policy.specs.declared.days.Days.{Days}
use Rattle.policy.specs.declared.days.LengthTable.{LengthTable}
use Rattle.policy.specs.declared.days.LengthTable.TheVariants.{First, Dated}
use Rattle.policy.specs.declared.days.Period.{Period}
use Rattle.policy.specs.declared.days.Period.TheVariants.{Add, AutoRenew, Renew, Transfer, Redemption, Restore, PendingDelete, Answer, Lock}
use Rattle.policy.specs.declared.schedule.DatedDays.{DatedDays}
use Rattle.policy.specs.declared.schedule.Schedule.{Schedule}
use Rattle.policy.specs.declared.prices.Prices.{Prices}
use Rattle.policy.specs.declared.soa.Soa.{Soa}
use Rattle.policy.specs.declared.registrar.Registrars.{Registrars}
use Rattle.policy.specs.declared.policy.PolicyFile.{PolicyFile}
use Rattle.policy.specs.Rules.{PolicyRules}
use Rattle.policy.specs.Keys.{table_of, name_of}

infixl 10 ◌>>=◌
abbrev pub ◌>>=◌ : {A B : Type 0} → Result A PolicyFault → (A → Result B PolicyFault) → Result B PolicyFault
(Ok x) >>= f = f x
(Err fault) >>= f = Err fault

-- reading fails so, unless memory ran out
abbrev pub Fails : {Y : Type 0} → PolicyFault → Result Y PolicyFault → Type 0
Fails NotToml read = read ≡ Err NotToml
Fails (Missing key) read = read ≡ Err (Missing key)
Fails (Range key) read = read ≡ Err (Range key)
Fails (Twice id) read = read ≡ Err (Twice id)
Fails Memory read = Unit {0}

-- what a function returned, seen by view, is what reading gives, unless memory ran out
abbrev pub Gives : {X Y : Type 0} → (X → Y) → Result X PolicyFault → Result Y PolicyFault → Type 0
Gives view (Ok x) read = read ≡ Ok (view x)
Gives view (Err fault) read = Fails fault read

-- ---- one key

abbrev pub or_missing : {A : Type 0} → Key → Option A → Result A PolicyFault
or_missing key (Some d) = Ok d
or_missing key None = Err (Missing key)

-- a table that is missing, or that is none, is the fault of the key
abbrev pub in_table : Key → Option Members → Result Data PolicyFault
in_table key (Some members) = or_missing key (get_member (name_of key) members)
in_table key None = Err (Range key)

abbrev pub at_table : Key → Option Data → Result Data PolicyFault
at_table key (Some d) = in_table key (as_table d)
at_table key None = Err (Missing key)

abbrev pub value_in : Members → Key → Option (List ℕ) → Result Data PolicyFault
value_in doc key (Some table) = at_table key (get_member table doc)
value_in doc key None = or_missing key (get_member (name_of key) doc)

-- the value at a key
unfoldable pub value_at : Members → Key → Result Data PolicyFault
value_at doc key = value_in doc key (table_of key)

abbrev pub as_whole : Key → ℕ → ℕ → Option ℤ → Result ℕ PolicyFault
as_whole key low high (Some (pos n)) = if is_in_range low high n then Ok n else Err (Range key)
as_whole key low high other = Err (Range key)

-- a whole number from low to high
unfoldable pub whole_at : Members → Key → ℕ → ℕ → Result ℕ PolicyFault
whole_at doc key low high = do
  value ← value_at doc key
  as_whole key low high (as_integer value)

-- ---- texts

abbrev pub is_id_byte : ℕ → Bool
is_id_byte b = is_ascii_alphanumeric b || (b == 45)

-- 3 to 16 letters, digits and hyphens, and not the operator's own word
unfoldable pub is_id : List ℕ → Bool
is_id text = is_in_range 3 16 (length text) && list_all is_id_byte text && not (bytes_eq text (codes "operator"))

abbrev pub is_visible : ℕ → Bool
is_visible b = is_in_range 33 126 b

-- 6 to 16 bytes from 33 to 126
unfoldable pub is_password : List ℕ → Bool
is_password text = is_in_range 6 16 (length text) && list_all is_visible text

-- what the text at a key may be
abbrev pub fits : Key → List ℕ → Bool
fits RegistrarId text = is_id text
fits RegistrarPassword text = is_password text
fits SoaMname text = is_name text
fits SoaRname text = is_name text
fits other text = reads_as_itself text

abbrev pub as_text : Key → Option (List ℕ) → Result (List ℕ) PolicyFault
as_text key (Some text) = if fits key text then Ok text else Err (Range key)
as_text key None = Err (Range key)

unfoldable pub text_at : Members → Key → Result (List ℕ) PolicyFault
text_at doc key = do
  value ← value_at doc key
  as_text key (as_str value)

-- what a table has at a key
abbrev pub member_of : Key → Data → Option Data
member_of key d = option_and_then (get_member (name_of key)) (as_table d)

-- what an entry of a list has at a key: the entry itself, or a member of it
abbrev pub member_in : Key → Option (List ℕ) → Data → Option Data
member_in key (Some table) d = member_of key d
member_in key None d = Some d

abbrev pub text_in : Key → Data → Option (List ℕ)
text_in key d = option_and_then as_str (member_in key (table_of key) d)

-- the texts of the entries, or the fault of the first that doesn't fit
unfoldable pub texts_in : Key → List Data → Result (List (List ℕ)) PolicyFault
texts_in key [] = Ok []
texts_in key (d ∷ ds) = do
  text ← as_text key (text_in key d)
  texts ← texts_in key ds
  Ok (text ∷ texts)

abbrev pub values_of : Items → List Data
values_of no_items = []
values_of (item d ds) = d ∷ values_of ds

abbrev pub as_values : Key → Option Items → Result (List Data) PolicyFault
as_values key (Some items) = Ok (values_of items)
as_values key None = Err (Range key)

abbrev pub at_most : Key → ℕ → List Data → Result (List Data) PolicyFault
at_most key n ds = if nat_le (length ds) n then Ok ds else Err (Range key)

unfoldable pub labels_at : Members → Key → Result (List (List ℕ)) PolicyFault
labels_at doc key = do
  value ← value_at doc key
  values ← as_values key (as_array value)
  few ← at_most key 10_000 values
  texts_in key few

-- ---- tables

-- a table that lacks the key
abbrev pub lacks : Key → Data → Bool
lacks key d = is_some (as_table d) && is_none (member_of key d)

-- ---- lengths in days

abbrev pub as_count : Option ℤ → Option ℕ
as_count (Some (pos n)) = if is_in_range 1 3650 n then Some n else None
as_count other = None

-- the number of days that a table has at a key
abbrev pub count_of : Key → Data → Option ℕ
count_of key d = as_count (option_and_then as_integer (member_of key d))

abbrev pub has_count : Key → Data → Bool
has_count key d = is_some (count_of key d)

unfoldable pub day_count_in : Key → Data → Result ℕ PolicyFault
day_count_in key d = if lacks key d then Err (Missing key) else ok_or (count_of key d) (Range key)

-- the key of a length, in the table `days` or in those of `days_from`
abbrev pub length_key : LengthTable → Period → Key
length_key First period = keys.Days period
length_key Dated period = keys.DatedDays period

unfoldable pub days_in : LengthTable → Data → Result Days PolicyFault
days_in table d = do
  add ← day_count_in (length_key table Add) d
  auto_renew ← day_count_in (length_key table AutoRenew) d
  renew ← day_count_in (length_key table Renew) d
  transfer ← day_count_in (length_key table Transfer) d
  redemption ← day_count_in (length_key table Redemption) d
  restore ← day_count_in (length_key table Restore) d
  pending_delete ← day_count_in (length_key table PendingDelete) d
  answer ← day_count_in (length_key table Answer) d
  lock ← day_count_in (length_key table Lock) d
  Ok (record {
    add = add;
    auto_renew = auto_renew;
    renew = renew;
    transfer = transfer;
    redemption = redemption;
    restore = restore;
    pending_delete = pending_delete;
    answer = answer;
    lock = lock;
  })

abbrev pub days_of_table : Option Data → Result Days PolicyFault
days_of_table (Some d) = days_in First d
days_of_table None = Err (Missing (keys.Days Add))

unfoldable pub days_at : Members → Result Days PolicyFault
days_at doc = days_of_table (get_member (codes "days") doc)

-- ---- lengths from a moment on

-- from when on a table is in force, if it says so by a moment's text
abbrev pub from_of : Data → Option ℕ
from_of d = option_and_then moment_named (option_and_then as_str (member_of keys.DatedFrom d))

abbrev pub is_later : ℕ → Option ℕ → Bool
is_later before None = false
is_later before (Some from) = nat_lt before from

-- each table begins after the one before it, and the first after that moment
unfoldable pub begin_after : ℕ → List Data → Bool
begin_after before [] = true
begin_after before (d ∷ ds) = is_later before (from_of d) && begin_after (unwrap_or (from_of d) before) ds

-- a table that lacks the key before all that is wrong with the key's values
abbrev pub check : Key → Bool → List Data → Result (Unit {0}) PolicyFault
check key fit tables =
    if list_any (lacks key) tables then Err (Missing key)
    else (if fit then Ok tt else Err (Range key))

unfoldable pub check_begins : List Data → Result (Unit {0}) PolicyFault
check_begins tables = check keys.DatedFrom (begin_after 946_684_800 tables) tables

unfoldable pub check_lengths : Period → List Data → Result (Unit {0}) PolicyFault
check_lengths period tables =
    let key : Key = keys.DatedDays period in
    check key (list_all (has_count key) tables) tables

-- each key in turn in all tables
unfoldable pub check_tables : List Data → Result (Unit {0}) PolicyFault
check_tables tables = do
  _ ← check_begins tables
  _ ← check_lengths Add tables
  _ ← check_lengths AutoRenew tables
  _ ← check_lengths Renew tables
  _ ← check_lengths Transfer tables
  _ ← check_lengths Redemption tables
  _ ← check_lengths Restore tables
  _ ← check_lengths PendingDelete tables
  _ ← check_lengths Answer tables
  check_lengths Lock tables

unfoldable pub dated_in : Data → Result DatedDays PolicyFault
dated_in d = do
  from ← ok_or (from_of d) (Range keys.DatedFrom)
  days ← days_in Dated d
  Ok (record { from = from; days = days })

unfoldable pub each_dated : List Data → Result (List DatedDays) PolicyFault
each_dated [] = Ok []
each_dated (d ∷ ds) = do
  table ← dated_in d
  tables ← each_dated ds
  Ok (table ∷ tables)

abbrev pub dated_values : Option Data → Result (List Data) PolicyFault
dated_values (Some d) = as_values keys.DatedFrom (as_array d)
dated_values None = Ok []

-- the tables of the file, or none
abbrev pub tables_at : Members → Result (List Data) PolicyFault
tables_at doc = dated_values (get_member (codes "days_from") doc)

unfoldable pub dated_at : Members → Result (List DatedDays) PolicyFault
dated_at doc = do
  tables ← tables_at doc
  _ ← check_tables tables
  each_dated tables

unfoldable pub schedule_at : Members → Result Schedule PolicyFault
schedule_at doc = do
  first ← days_at doc
  later ← dated_at doc
  Ok (record { first = first; later = later })

-- ---- prices in cents

unfoldable pub price_at : Members → Key → Result ℕ PolicyFault
price_at doc key = whole_at doc key 0 1_000_000_000

unfoldable pub prices_at : Members → Result Prices PolicyFault
prices_at doc = do
  create ← price_at doc PriceCreate
  renew ← price_at doc PriceRenew
  transfer ← price_at doc PriceTransfer
  Ok (record { create = create; renew = renew; transfer = transfer })

-- ---- the start of authority

unfoldable pub seconds_at : Members → Key → Result ℕ PolicyFault
seconds_at doc key = whole_at doc key 0 2_147_483_647

unfoldable pub soa_at : Members → Result Soa PolicyFault
soa_at doc = do
  mname ← text_at doc SoaMname
  rname ← text_at doc SoaRname
  refresh ← seconds_at doc SoaRefresh
  retry ← seconds_at doc SoaRetry
  expire ← seconds_at doc SoaExpire
  minimum ← seconds_at doc SoaMinimum
  ttl ← seconds_at doc SoaTtl
  Ok (record { mname = mname; rname = rname; refresh = refresh; retry = retry; expire = expire; minimum = minimum; ttl = ttl })

-- ---- registrars

-- the texts of one key in all entries: a table that lacks it before anything else that is wrong
unfoldable pub column : Key → List Data → Result (List (List ℕ)) PolicyFault
column key entries = do
  few ← if list_any (lacks key) entries then Err (Missing key) else at_most key 1000 entries
  texts_in key few

abbrev pub some_entries : List Data → Result (List Data) PolicyFault
some_entries [] = Err (Missing RegistrarId)
some_entries (d ∷ ds) = Ok (d ∷ ds)

unfoldable pub entries_at : Members → Result (List Data) PolicyFault
entries_at doc = do
  value ← or_missing RegistrarId (get_member (codes "registrar") doc)
  values ← as_values RegistrarId (as_array value)
  some_entries values

-- the first id that comes again after it
unfoldable pub first_twice : List (List ℕ) → Option (List ℕ)
first_twice [] = None
first_twice (id ∷ ids) = if list_any (λ other. bytes_eq other id) ids then Some id else first_twice ids

abbrev pub unless_twice : {A : Type 0} → Option (List ℕ) → A → Result A PolicyFault
unless_twice None x = Ok x
unless_twice (Some id) x = Err (Twice id)

unfoldable pub registrars_at : Members → Result Registrars PolicyFault
registrars_at doc = do
  entries ← entries_at doc
  ids ← column RegistrarId entries
  passwords ← column RegistrarPassword entries
  unless_twice (first_twice ids) (record { ids = ids; passwords = passwords })

-- ---- the policy

unfoldable pub file_at : Members → Result PolicyFile PolicyFault
file_at doc = do
  label ← text_at doc Zone
  reserved ← labels_at doc Reserved
  days ← schedule_at doc
  prices ← prices_at doc
  soa ← soa_at doc
  registrars ← registrars_at doc
  Ok (record {
    policy = record { zone = record { label = label; reserved = from_list reserved }; days = days; prices = prices; soa = soa; ids = registrars.ids };
    passwords = registrars.passwords;
  })

abbrev pub or_not_toml : Option Members → Result Members PolicyFault
or_not_toml (Some doc) = Ok doc
or_not_toml None = Err NotToml

-- what isn't UTF-8 is no TOML
unfoldable pub document_of : List ℕ → Result Members PolicyFault
document_of bytes = if is_utf8 bytes then or_not_toml (parse_document bytes) else Err NotToml

unfoldable pub file_of : List ℕ → Result PolicyFile PolicyFault
file_of bytes = do
  doc ← document_of bytes
  file_at doc

-- without the passwords
unfoldable pub policy_of : List ℕ → Result PolicyRules PolicyFault
policy_of bytes = do
  file ← file_of bytes
  Ok file.policy
