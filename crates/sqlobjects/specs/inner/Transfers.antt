-- What single steps of a change make of the last transfers of contacts and domains.
use Rattle.std.specs.Prelude.{◌≡◌, ◌&&◌, pos, Bool, false, List, [], filter, Option, Some, None, is_some, option_map}
use Rattle.std.specs.Option.{option_map_or}
use Rattle.std.specs.Ordering.{int_eq}
use Rattle.objects.specs.declared.transfer.Transfer as object
use Rattle.sqlcolumns.specs.Transfers.{row_of_transfer}
use Rattle.sqlite_keyed.specs.Keyed.{insert_by}
use Rattle.sqlite_keyed.specs.Lists.{delete_where}
use Rattle.sqlrows.specs.inner.Layouts.{appended}
use Rattle.sqlrows.specs.Read.{rows_of}
use Rattle.sqltables.specs.Content.{Content}
use Rattle.sqltables.specs.Transfer.{transfer_with_contact, transfer_with_domain, transfers}
use Rattle.sqltables.specs.declared.transfer.TransferRow.{TransferRow}
use Rattle.sqlobjects.specs.declared.transfers.Transferable.{Transferable}
use Rattle.sqlobjects.specs.declared.transfers.Transferable.TheVariants.{Contact, Domain}
use Rattle.sqlobjects.specs.Objects.{last_transfer}

-- a row is of this object's transfer
abbrev pub is_transfer_of : Transferable → TransferRow → Bool
is_transfer_of (Contact id) = transfer_with_contact id
is_transfer_of (Domain id) = transfer_with_domain id

abbrev pub names_both : TransferRow → Bool
names_both row = is_some row.contact && is_some row.domain

abbrev pub are_same : Transferable → Transferable → Bool
are_same (Contact id) (Contact other) = int_eq id other
are_same (Contact id) (Domain other) = false
are_same (Domain id) (Contact other) = false
are_same (Domain id) (Domain other) = int_eq id other

-- no object but this one has another transfer than before
pub record AreOtherTransfersKept (it : Transferable) (old new : Content) : Type 0 where
  pub others : (other : Transferable) → are_same it other ≡ false
      → filter (is_transfer_of other) new.transfers ≡ filter (is_transfer_of other) old.transfers
  pub rest : new ≡ record old { transfers = new.transfers }

-- the object has no transfer
pub record IsTransferCleared (it : Transferable) (old new : Content) : Type 0 where
  pub none : filter (is_transfer_of it) new.transfers ≡ []
  pub kept : AreOtherTransfersKept it old new

-- the row of an object's transfer, but for its number
abbrev pub transfer_row_of : Transferable → object.Transfer → TransferRow
transfer_row_of (Contact id) transfer = row_of_transfer (pos 0) (Some id) None transfer
transfer_row_of (Domain id) transfer = row_of_transfer (pos 0) None (Some id) transfer

abbrev pub maybe_row : Transferable → Option object.Transfer → Option TransferRow
maybe_row it transfer = option_map (transfer_row_of it) transfer

-- the rows, and after them this one, if there is one, under a number of its own
abbrev pub with_added : Option TransferRow → List TransferRow → List TransferRow
with_added None rows = rows
with_added (Some row) rows = appended transfers (λ id. record row { id = id }) rows

-- this row, or none, is of the object's transfer, and of no other object's
pub record IsRowOf (it : Transferable) (rows : List TransferRow) (row : Option TransferRow) : Type 0 where
  pub is : filter (is_transfer_of it) rows ≡ rows_of row
  pub alone : option_map_or names_both row false ≡ false

-- the rows, with this one, if there is one, in place of the one that is of the object's transfer, whose number stays
abbrev pub with_over : Transferable → Option TransferRow → Option TransferRow → List TransferRow → List TransferRow
with_over it None row rows = with_added row rows
with_over it (Some there) None rows = delete_where (is_transfer_of it) rows
with_over it (Some there) (Some row) rows = insert_by transfers.key rows (record row { id = there.id })

-- the object has this as its last transfer
pub record IsTransferPut (it : Transferable) (transfer : Option object.Transfer) (old new : Content) : Type 0 where
  pub last : last_transfer (filter (is_transfer_of it) new.transfers) ≡ Some transfer
  pub kept : AreOtherTransfersKept it old new
