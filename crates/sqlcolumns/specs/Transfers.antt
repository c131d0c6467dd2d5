-- How the last transfer of an object lies in its row.
use Rattle.std.specs.Prelude.{ℕ, ℤ, Bool, true, false, Option, Some, None, if◌then◌else◌}
use Rattle.std.specs.Ordering.{int_eq}
use Rattle.calendar.specs.Moment.{IsMoment}
use Rattle.objects.specs.Transfers.{is_pending_state}
use Rattle.objects.specs.declared.transfer.Transfer.{Transfer}
use Rattle.objects.specs.declared.transfer.TransferState.{TransferState}
use Rattle.sqltables.specs.declared.transfer.TransferRow.{TransferRow}
use Rattle.sqlcolumns.specs.Codes.{state_column, state_in}
use Rattle.sqlcolumns.specs.Numbers.{IsPlace, moment_column, moment_in_column, registrar_column, registrar_in}
use Rattle.sqlcolumns.specs.Steps.{◌>>=◌}

pub record IsStorableTransfer (t : Transfer) : Type 0 where
  pub requester : IsPlace t.requester
  pub losing_registrar : IsPlace t.losing_registrar
  pub requested : IsMoment t.requested
  pub ac_date : IsMoment t.ac_date

-- when the server approves it while it is pending
abbrev pub due_column : Transfer → Option ℤ
due_column t = if is_pending_state t.state then Some (moment_column t.ac_date) else None

-- of an object whose last transfer is this
abbrev pub maybe_due_column : Option Transfer → Option ℤ
maybe_due_column None = None
maybe_due_column (Some t) = due_column t

-- the row of a transfer, under its number, of the contact or the domain with this one
abbrev pub row_of_transfer : ℤ → Option ℤ → Option ℤ → Transfer → TransferRow
row_of_transfer id contact domain t = record {
  id = id;
  contact = contact;
  domain = domain;
  requester = registrar_column t.requester;
  losing = registrar_column t.losing_registrar;
  requested = moment_column t.requested;
  ac_date = moment_column t.ac_date;
  state = state_column t.state;
  due = due_column t;
}

-- ---- read

abbrev pub is_same : Option ℤ → Option ℤ → Bool
is_same None None = true
is_same (Some a) (Some b) = int_eq a b
is_same None (Some b) = false
is_same (Some a) None = false

-- the transfer of these parts, if all are there
abbrev pub transfer_made : Option ℕ → Option ℕ → Option ℕ → Option ℕ → Option TransferState
    → Option Transfer
transfer_made requester losing requested ac_date state = do
  r ← requester
  l ← losing
  m ← requested
  a ← ac_date
  s ← state
  Some (record { requester = r; losing_registrar = l; requested = m; ac_date = a; state = s })

-- the transfer, if this is when it is due
abbrev pub transfer_due_at : Option Transfer → Option ℤ → Option Transfer
transfer_due_at transfer due = do
  t ← transfer
  if is_same (due_column t) due then Some t else None

-- the transfer of a row, if each column reads, and it is due when it says
abbrev pub transfer_of_columns : TransferRow → Option Transfer
transfer_of_columns row =
    transfer_due_at (transfer_made (registrar_in row.requester) (registrar_in row.losing) (moment_in_column row.requested) (moment_in_column row.ac_date) (state_in row.state)) row.due
