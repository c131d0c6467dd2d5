-- ROIDs are read from their columns, and from no others.
use Rattle.std.proofs.{Common.{arith, ◌≡◌, ℤ, true, Some, ◌∙◌}, lemmas.{Bool.Decides.nat_tests, Int.ints}}
use Rattle.objects.specs.declared.roid.{ObjectKind.ObjectKind, Roid.Roid}
use Rattle.sqlcolumns.specs.{declared.roid.RoidColumns.RoidColumns, Numbers.{registrar_in, serial_in}}
use Rattle.sqlcolumns.specs.{Roids.{IsRoid, is_object_kind, roid_columns, roid_in}}
use Rattle.sqlcolumns.proofs.NumberLemmas.{registrar_back, serial_back, serial_written}
use Rattle.sqlcolumns.proofs.ReadLemmas.{same_some, step}

same_kind : (a b : ObjectKind) → is_object_kind a b ≡ true → a ≡ b
same_kind a b e = grind arith

pub roid_back : (kind : ObjectKind) (roid : Roid) (columns : RoidColumns) → IsRoid roid → roid_columns kind roid ≡ Some columns → roid_in kind columns.creator columns.serial ≡ Some roid
roid_back kind roid columns is e = grind (arith, registrar_back roid.creator is.creator, serial_back roid.serial is.serial, same_kind roid.kind kind, e)

-- the parts of what is read
pub record RoidRead (kind : ObjectKind) (creator serial : ℤ) (roid : Roid) : Type 0 where
  pub kind_is : kind ≡ roid.kind
  pub creator_is : registrar_in creator ≡ Some roid.creator
  pub serial_is : serial_in serial ≡ Some roid.serial

pub roid_read : (kind : ObjectKind) (creator serial : ℤ) (roid : Roid) → roid_in kind creator serial ≡ Some roid → RoidRead kind creator serial roid
roid_read kind creator serial roid e =
    let p = step (registrar_in creator) _ roid e in
    let n = step (serial_in serial) _ roid p.rest in
    let same : ◌≡◌ {A = Roid} (record { kind = kind; creator = p.given; serial = n.given }) roid = same_some _ _ n.rest in
    record {
      kind_is = λ i. (same i).kind;
      creator_is = p.is ∙ λ i. Some ((same i).creator);
      serial_is = n.is ∙ λ i. Some ((same i).serial);
    }

pub roid_written : (kind : ObjectKind) (creator serial : ℤ) (roid : Roid) → roid_in kind creator serial ≡ Some roid → roid_columns kind roid ≡ Some (record { creator = creator; serial = serial })
roid_written kind creator serial roid e =
    let read = roid_read kind creator serial roid e in
    grind (arith, ints, nat_tests, read, serial_written serial roid.serial read.serial_is)
