-- Rows that are copied.
use Rattle.std.specs.Prelude.{◌≡◌, ℤ, true, List, Result, Ok, Err, fold}
use Rattle.sqlite_keyed.specs.Keyed.{insert_by}
use Rattle.sqlrows.specs.Meanings.{HasChanged}
use Rattle.states.specs.declared.fault.BookFault.{BookFault}
use Rattle.states.specs.States.{LeavesSame, StateOf, Stays}
use Rattle.sqltables.specs.Content.{Content}
use Rattle.oldrows.specs.Stored.{IsAsked, IsRead, OldState}
use Rattle.oldrows.specs.inner.Tables.{Table, meta_table, account_table, contact_table, domain_table, host_table, address_table, link_table, line_table, message_table, transfer_table}
use Rattle.oldrows.specs.declared.copying.TableName.{TableName}
use Rattle.oldrows.specs.declared.copying.TableName.TheVariants.{Metas, Accounts, Contacts, Domains, Hosts, Addresses, Links, Lines, Messages, Transfers}

-- rows put one after another, each in the place of the one with its number, or after all others
abbrev pub put_rows : {X : Type 0} → (X → ℤ) → List X → List X → List X
put_rows key new rows = fold (insert_by key) rows new

-- the rows of a table, put with those of another database
abbrev pub put_from : {R : Type 0} → Table R → Content → Content → Content
put_from table from = table.rows_to (put_rows table.key (table.rows_of from))

-- what is put of all these rows, when the rest is put as well
abbrev pub IsToPut : {R : Type 0} → Table R → List R → List R → StateOf Content → StateOf Content → Type 0
IsToPut table all rest old new =
    HasChanged (λ was is. table.rows_to (put_rows table.key rest) is ≡ table.rows_to (put_rows table.key all) was) old new

abbrev pub put_of : TableName → Content → Content → Content
put_of Metas = put_from meta_table
put_of Accounts = put_from account_table
put_of Contacts = put_from contact_table
put_of Domains = put_from domain_table
put_of Hosts = put_from host_table
put_of Addresses = put_from address_table
put_of Links = put_from link_table
put_of Lines = put_from line_table
put_of Messages = put_from message_table
put_of Transfers = put_from transfer_table

abbrev pub put_of_all : List TableName → Content → Content → Content
put_of_all tables from to = fold (λ c table. put_of table from c) to tables

-- What is read of one is put into the other in this way, but for what is still to be put.
pub record IsOnItsWay (put rest : Content → Content → Content) (from read : OldState) (to written : StateOf Content) : Type 0 where
  pub asked : IsAsked from read
  pub clean : written.is_clean ≡ true → to.is_clean ≡ true
  pub before : written.is_clean ≡ true → written.before ≡ to.before
  pub opened : written.is_open ≡ true
  pub leaves : LeavesSame to written
  pub content : read.is_clean ≡ true → written.is_clean ≡ true
      → rest from.content written.content ≡ put from.content to.content

-- nothing is still to be put
abbrev pub IsCopied : (Content → Content → Content) → OldState → OldState → StateOf Content
    → StateOf Content → Type 0
IsCopied put from read to written = IsOnItsWay put (λ source target. target) from read to written

pub record IsCopyLeft (from read : OldState) (to written : StateOf Content) : Type 0 where
  pub source : IsRead from read
  pub target : Stays to written

abbrev pub Copies : {A : Type 0} → Result A BookFault → (Content → Content → Content) → OldState
    → OldState → StateOf Content → StateOf Content → Type 0
Copies (Ok done) put from read to written = IsCopied put from read to written
Copies (Err fault) put from read to written = IsCopyLeft from read to written
