-- What single steps of a change make.
use Rattle.std.specs.Prelude.{◌≡◌, refl, ℕ, ℤ, false, List, [], ◌++◌, ◌∷◌, filter, Option, Some, IfSome, Result, Ok, Err}
use Rattle.std.specs.Ordering.{int_eq}
use Rattle.sqlite_keyed.specs.Keyed.{IsKeyedBy, insert_by, next_key}
use Rattle.sqlite_keyed.specs.Lists.{update_where}
use Rattle.sqlite_rules.specs.Lists.{Has}
use Rattle.sqlite_typed.specs.Tests.{bytes_eq}
use Rattle.objects.specs.declared.host.Host.{Host}
use Rattle.sqlcolumns.specs.inner.Hosts.{row_of_host}
use Rattle.sqltables.specs.declared.contact.ContactRow.{ContactRow}
use Rattle.sqltables.specs.Content.{Content}
use Rattle.sqltables.specs.inner.Content.{hosts_to}
use Rattle.sqltables.specs.declared.domain.DomainRow.{DomainRow}
use Rattle.sqltables.specs.Host as host_table
use Rattle.sqltables.specs.declared.host.HostRow.{HostRow}
use Rattle.sqltables.specs.inner.Consistent.{IsConsistent}
use Rattle.states.specs.declared.fault.BookFault.{BookFault}
use Rattle.states.specs.States.{StateOf, Stays}
use Rattle.sqlrows.specs.Meanings.{HasChanged}
use Rattle.sqlrows.specs.Read.{rows_of}
use Rattle.sqlobjects.specs.declared.host_sponsors.Sponsors.{Sponsors}
use Rattle.sqlobjects.specs.Objects.{addresses_of}
use Rattle.sqlobjects.specs.Sponsors.{AreMoved, sponsor_of}

-- a change in a way that depends on what is answered
abbrev pub ChangesGiving : {A C : Type 0} → Result A BookFault → (A → C → C → Type 0) → StateOf C
    → StateOf C → Type 0
ChangesGiving (Ok it) way old new = HasChanged (way it) old new
ChangesGiving (Err fault) way old new = Stays old new

-- rows of other names than this are as they were
abbrev pub AreOtherNamesKept : {P : Type 0} → (P → List ℕ) → List ℕ → List P → List P → Type 0
AreOtherNamesKept name n old new =
    (q : List ℕ) → bytes_eq q n ≡ false
    → filter (λ r. bytes_eq (name r) q) new ≡ filter (λ r. bytes_eq (name r) q) old

-- this row is there under a name, and rows of other names are as they were
pub record IsPlaced {P : Type 0} (name : P → List ℕ) (n : List ℕ) (row : P) (old new : List P) : Type 0 where
  pub named : name row ≡ n
  pub there : Has new row
  pub others : AreOtherNamesKept name n old new

-- ---- rows that have names

-- A table in which no name comes twice: what numbers and names its rows have, how they lie among all rows,
-- and a row under another number.
pub record NamedTable (R : Type 0) : Type 0 where
  pub key : R → ℤ
  pub name : R → List ℕ
  pub numbered : R → ℤ → R
  pub rows : Content → List R
  pub with_rows : List R → Content → Content
  pub itself : (row : R) → numbered row (key row) ≡ row
  pub number_is : (row : R) (id : ℤ) → key (numbered row id) ≡ id
  pub name_is : (row : R) (id : ℤ) → name (numbered row id) ≡ name row
  pub rows_are : (all : List R) (xs : Content) → rows (with_rows all xs) ≡ all
  pub keyed : (xs : Content) → IsConsistent xs → IsKeyedBy key (rows xs)

abbrev pub named_contacts : NamedTable ContactRow
named_contacts = record {
  key = λ row. row.id;
  name = λ row. row.name;
  numbered = λ row id. record row { id = id };
  rows = λ xs. xs.contacts;
  with_rows = λ all xs. record xs { contacts = all };
  itself = λ row. refl;
  number_is = λ row id. refl;
  name_is = λ row id. refl;
  rows_are = λ all xs. refl;
  keyed = λ xs consistent. consistent.keyed.contacts;
}

abbrev pub named_hosts : NamedTable HostRow
named_hosts = record {
  key = λ row. row.id;
  name = λ row. row.name;
  numbered = λ row id. record row { id = id };
  rows = λ xs. xs.hosts;
  with_rows = λ all xs. record xs { hosts = all };
  itself = λ row. refl;
  number_is = λ row id. refl;
  name_is = λ row id. refl;
  rows_are = λ all xs. refl;
  keyed = λ xs consistent. consistent.keyed.hosts;
}

abbrev pub named_domains : NamedTable DomainRow
named_domains = record {
  key = λ row. row.id;
  name = λ row. row.name;
  numbered = λ row id. record row { id = id };
  rows = λ xs. xs.domains;
  with_rows = λ all xs. record xs { domains = all };
  itself = λ row. refl;
  number_is = λ row id. refl;
  name_is = λ row id. refl;
  rows_are = λ all xs. refl;
  keyed = λ xs consistent. consistent.keyed.domains;
}

-- the rows of a name
abbrev pub rows_named : {R : Type 0} → NamedTable R → List ℕ → Content → List R
rows_named table n xs = filter (λ row. bytes_eq (table.name row) n) (table.rows xs)

-- with this row in the place of the one with its number, if there is one
abbrev pub with_replaced : {R : Type 0} → NamedTable R → R → Content → Content
with_replaced table row xs =
    table.with_rows (update_where (λ it. int_eq (table.key it) (table.key row))
    (λ it. table.numbered row (table.key it)) (table.rows xs)) xs

-- with this row after the others, under a number of its own
abbrev pub with_last : {R : Type 0} → NamedTable R → R → Content → Content
with_last table row xs =
    table.with_rows (table.rows xs ++ table.numbered row (next_key table.key (table.rows xs)) ∷ []) xs

-- what has this name is in this row, and no other row is changed
pub record IsRowPlaced {R : Type 0} (table : NamedTable R) (is_row : R → Type 0) (n : List ℕ) (row : R) (old new : Content) : Type 0 where
  pub is : is_row row
  pub rows : IsPlaced table.name n row (table.rows old) (table.rows new)
  pub rest : new ≡ table.with_rows (table.rows new) old

-- a row is that which was given, under the number that it has, if it was this row, or none, that had its
-- name
abbrev pub IsPlacedAt : {R : Type 0} → NamedTable R → Option R → R → R → Content → Content → Type 0
IsPlacedAt table found given row old new =
    IsConsistent old → rows_named table (table.name given) old ≡ rows_of found
    → IsRowPlaced table (λ it. it ≡ table.numbered given (table.key it)) (table.name given) row old new

-- ---- hosts

-- no host but the one with this number has other addresses than before
pub record AreOtherAddressesKept (id : ℤ) (old new : Content) : Type 0 where
  pub hosts : (other : ℤ) → int_eq id other ≡ false
      → addresses_of new other ≡ addresses_of old other
  pub rest : new ≡ record old { addresses = new.addresses }

-- the host with this number has these addresses
pub record AreAddressesPut (id : ℤ) (addresses : List (List ℕ)) (old new : Content) : Type 0 where
  pub here : addresses_of new id ≡ addresses
  pub others : AreOtherAddressesKept id old new

-- it has these besides
pub record AreAddressesAdded (id : ℤ) (addresses : List (List ℕ)) (old new : Content) : Type 0 where
  pub here : addresses_of new id ≡ addresses_of old id ++ addresses
  pub others : AreOtherAddressesKept id old new

-- its column says who sponsors the host
abbrev pub HasRightSponsor : Content → HostRow → Type 0
HasRightSponsor xs row = row.sponsor ≡ sponsor_of xs row

-- the row of a host under a number
pub record IsHostRow (xs : Content) (id : ℤ) (h : Host) (row : HostRow) : Type 0 where
  pub is : row_of_host id row.sponsor h ≡ Some row
  pub sponsor : HasRightSponsor xs row

-- this row, or none, has the name, and who sponsors it is right
pub record IsHostFound (xs : Content) (name : List ℕ) (found : Option HostRow) : Type 0 where
  pub rows : filter (host_table.host_with_name name) xs.hosts ≡ rows_of found
  pub sponsor : IfSome found (HasRightSponsor xs)

-- no row has the name of this host, and the row of the one name, whose sponsor was right, is its now
pub record IsRowTaken (from : List ℕ) (h : Host) (row : HostRow) (old new : Content) : Type 0 where
  pub free : filter (host_table.host_with_name h.name) old.hosts ≡ []
  pub found : HostRow
  pub was : IsHostFound old from (Some found)
  pub is : IsHostRow old found.id h row
  pub content : new ≡ hosts_to (λ rows. insert_by host_table.hosts.key rows row) old

-- ---- hosts that take a domain's sponsor

-- the hosts that take a domain's sponsor have the one after in place of the one before
pub record AreHostsMoved (above : List ℕ) (s : Sponsors) (old new : Content) : Type 0 where
  pub rows : AreMoved above s.before s.after old.hosts new.hosts
  pub rest : new ≡ record old { hosts = new.hosts }
