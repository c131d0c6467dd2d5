-- The terms of a registry: in the row of meta, in the rows of days, and in the idents of accounts.
use Rattle.std.specs.Prelude.{ℕ, ◌+◌, ◌==◌, ℤ, pos, Bool, false, not, nat_lt, List, [], ◌∷◌, ◌++◌, length, Option, Some, None, if◌then◌else◌, option_and_then}
use Rattle.std.specs.FinSet.{from_list}
use Rattle.std.specs.Option.{option_map_or}
use Rattle.std.specs.Ordering.{int_eq}
use Rattle.basis.specs.Sets.{Names}
use Rattle.sqlcolumns.specs.Numbers.{moment_in_column, natural_in}
use Rattle.sqlcolumns.specs.Steps.{◌>>=◌}
use Rattle.sqlcolumns.specs.Texts.{street_column, street_in}
use Rattle.policy.specs.declared.days.Days.{Days}
use Rattle.policy.specs.declared.prices.Prices.{Prices}
use Rattle.policy.specs.declared.schedule.DatedDays.{DatedDays}
use Rattle.policy.specs.declared.schedule.Schedule.{Schedule}
use Rattle.policy.specs.declared.terms.Terms.{Terms}
use Rattle.sqltables.specs.declared.account.AccountRow.{AccountRow}
use Rattle.sqltables.specs.Content.{Content}
use Rattle.sqltables.specs.declared.day.DayRow.{DayRow}
use Rattle.sqltables.specs.declared.meta.MetaRow.{MetaRow}
use Rattle.sqlterms.specs.Meta.{meta_of}

-- ---- the columns of meta

-- a number below 2 ^ 32
abbrev pub is_count : ℕ → Bool
is_count n = nat_lt n 4_294_967_296

abbrev pub count_in : ℤ → Option ℕ
count_in column = natural_in is_count column

-- the days of these counts, if all are there
abbrev pub days_made : Option ℕ → Option ℕ → Option ℕ → Option ℕ → Option ℕ → Option ℕ → Option ℕ
    → Option ℕ → Option ℕ → Option Days
days_made add auto_renew renew transfer redemption restore pending_delete answer lock = do
  a ← add
  b ← auto_renew
  c ← renew
  d ← transfer
  e ← redemption
  f ← restore
  g ← pending_delete
  h ← answer
  i ← lock
  Some (record { add = a; auto_renew = b; renew = c; transfer = d; redemption = e; restore = f; pending_delete = g; answer = h; lock = i })

abbrev pub first_days_in : MetaRow → Option Days
first_days_in row =
    days_made (count_in row.days_add) (count_in row.days_auto_renew) (count_in row.days_renew) (count_in row.days_transfer) (count_in row.days_redemption)
    (count_in row.days_restore) (count_in row.days_pending_delete) (count_in row.days_answer) (count_in row.days_lock)

abbrev pub prices_made : Option ℕ → Option ℕ → Option ℕ → Option Prices
prices_made create renew transfer = do
  c ← create
  r ← renew
  t ← transfer
  Some (record { create = c; renew = r; transfer = t })

abbrev pub prices_in : MetaRow → Option Prices
prices_in row =
    prices_made (count_in row.price_create) (count_in row.price_renew) (count_in row.price_transfer)

-- labels without a line feed, one in each line
abbrev pub labels_column : List (List ℕ) → Option (List ℕ)
labels_column [] = Some []
labels_column (label ∷ labels) = street_column (label ∷ labels)

-- the labels of a text, one in each line; an empty text is that of none
abbrev pub labels_in : List ℕ → List (List ℕ)
labels_in [] = []
labels_in (b ∷ bs) = street_in (b ∷ bs)

abbrev pub reserved_in : List ℕ → Names
reserved_in text = from_list (labels_in text)

-- ---- the rows of days

-- a table of these parts, if both are there
abbrev pub dated_made : Option ℕ → Option Days → Option DatedDays
dated_made from days = do
  m ← from
  d ← days
  Some (record { from = m; days = d })

abbrev pub dated_days_in : DayRow → Option Days
dated_days_in row =
    days_made (count_in row.days_add) (count_in row.days_auto_renew) (count_in row.days_renew) (count_in row.days_transfer) (count_in row.days_redemption)
    (count_in row.days_restore) (count_in row.days_pending_delete) (count_in row.days_answer) (count_in row.days_lock)

abbrev pub later_days_in : DayRow → Option DatedDays
later_days_in row = dated_made (moment_in_column row.starts) (dated_days_in row)

-- these tables, and those of the rows after them, if each reads
abbrev pub dated_behind : List DatedDays → List DayRow → Option (List DatedDays)
dated_behind tables [] = Some tables
dated_behind tables (row ∷ rows) =
    later_days_in row >>= (λ table. dated_behind (tables ++ table ∷ []) rows)

abbrev pub all_dated : List DayRow → Option (List DatedDays)
all_dated rows = dated_behind [] rows

-- the lengths of periods over time, of these parts, if both are there
abbrev pub schedule_made : Option Days → Option (List DatedDays) → Option Schedule
schedule_made first later = do
  f ← first
  l ← later
  Some (record { first = f; later = l })

-- the days of the row of meta are the first, and those of the rows of days are the later ones
abbrev pub schedule_in : MetaRow → List DayRow → Option Schedule
schedule_in row tables = schedule_made (first_days_in row) (all_dated tables)

-- ---- the idents of accounts

-- no id of a registrar begins with #
abbrev pub is_unnamed : List ℕ → Bool
is_unnamed [] = false
is_unnamed (b ∷ bs) = b == 35

-- the ids after these, whose accounts have the numbers that follow
abbrev pub ids_behind : List (List ℕ) → List AccountRow → Option (List (List ℕ))
ids_behind ids [] = Some ids
ids_behind ids (row ∷ rows) =
    if is_unnamed row.ident then ids_behind ids rows
    else (if int_eq row.id (pos (length ids + 1)) then ids_behind (ids ++ row.ident ∷ []) rows else None)

-- The ids of the accounts that have one, which have the numbers from 1 on.
abbrev pub ids_in : List AccountRow → Option (List (List ℕ))
ids_in rows = ids_behind [] rows

-- ---- the terms

-- the terms of these parts, if all are there
abbrev pub terms_made : List ℕ → Names → Option Schedule → Option Prices → Option (List (List ℕ))
    → Option Terms
terms_made zone reserved days prices ids = do
  d ← days
  p ← prices
  i ← ids
  Some (record { zone = zone; reserved = reserved; days = d; prices = p; ids = i })

-- a row under which the registry was opened has a zone
abbrev pub has_zone : MetaRow → Bool
has_zone row = not (length row.zone == 0)

-- terms were put down
abbrev pub has_terms : Content → Bool
has_terms xs = option_map_or has_zone (meta_of xs) false

abbrev pub terms_at : MetaRow → List DayRow → List AccountRow → Option Terms
terms_at row tables accounts =
    if length row.zone == 0 then None
    else terms_made row.zone (reserved_in row.reserved) (schedule_in row tables) (prices_in row) (ids_in accounts)

-- none where there is no row, or it has no zone
abbrev pub terms_in : Option MetaRow → List DayRow → List AccountRow → Option Terms
terms_in None tables accounts = None
terms_in (Some row) tables accounts = terms_at row tables accounts

abbrev pub terms_of_rows : Content → Option Terms
terms_of_rows xs = terms_in (meta_of xs) xs.days xs.accounts

-- the lengths of periods, where terms were put down
abbrev pub lengths_put_down : List DayRow → MetaRow → Option Schedule
lengths_put_down tables row = if length row.zone == 0 then None else schedule_in row tables

abbrev pub days_of_rows : Content → Option Schedule
days_of_rows xs = option_and_then (lengths_put_down xs.days) (meta_of xs)
