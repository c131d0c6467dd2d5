-- How repository object identifiers lie in columns: their kind is the table's.
use Rattle.std.specs.Prelude.{◌<◌, ◌^◌, ◌==◌, ℤ, Bool, Option, Some, None, if◌then◌else◌}
use Rattle.objects.specs.declared.roid.ObjectKind.{ObjectKind}
use Rattle.objects.specs.declared.roid.Roid.{Roid}
use Rattle.accounts.specs.Lines.{object_rank}
use Rattle.sqlcolumns.specs.declared.roid.RoidColumns.{RoidColumns}
use Rattle.sqlcolumns.specs.Numbers.{IsPlace, counter_column, registrar_column, registrar_in, serial_in}
use Rattle.sqlcolumns.specs.Steps.{◌>>=◌}

-- the creator has a place, and the serial number 64 bits
pub record IsRoid (roid : Roid) : Type 0 where
  pub creator : IsPlace roid.creator
  pub serial : roid.serial < 2 ^ 64

abbrev pub is_object_kind : ObjectKind → ObjectKind → Bool
is_object_kind a b = object_rank a == object_rank b

-- the columns of a ROID, if it is of this kind
abbrev pub roid_columns : ObjectKind → Roid → Option RoidColumns
roid_columns kind roid =
    if is_object_kind roid.kind kind then Some (record { creator = registrar_column roid.creator; serial = counter_column roid.serial })
    else None

-- the ROID of this kind with these columns
abbrev pub roid_in : ObjectKind → ℤ → ℤ → Option Roid
roid_in kind creator serial = do
  place ← registrar_in creator
  number ← serial_in serial
  Some (record { kind = kind; creator = place; serial = number })
