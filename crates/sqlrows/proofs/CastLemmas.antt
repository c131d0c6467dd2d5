-- A value of its column's type is stored as it is.
use Rattle.std.proofs.Common.{◌≡◌, ℕ, ℤ, Bool, true, false, cond, List, Option, Some, None, refl}
use Rattle.sqlrows.proofs.Words.{cast, Int, Null, Text}
use Rattle.sqlite_value.specs.declared.value.Value.{Value}
use Rattle.sqlite_schema.specs.declared.schema.Kind.TheVariants as kinds
use Rattle.sqlite_schema.specs.declared.schema.Kind.TheVariants.{Integer}
use Rattle.sqlite_sql.specs.Ops.{unary}
use Rattle.sqlite_typed.specs.Columns.{or_null}

either : (b : Bool) (x : Value) → cond b x x ≡ x
either true x = refl
either false x = refl

pub cast_int : (n : ℤ) → cast Integer (Int n) ≡ Int n
unfolding unary
cast_int n = either _ (Int n)

pub cast_null : cast Integer Null ≡ Null
unfolding unary
cast_null = either _ Null

pub cast_text : (t : List ℕ) → cast kinds.Text (Text t) ≡ Text t
cast_text t = refl

pub cast_null_text : cast kinds.Text Null ≡ Null
cast_null_text = refl

-- a column that may be NULL
pub cast_maybe_int : (o : Option ℤ) → cast Integer (or_null Int o) ≡ or_null Int o
cast_maybe_int None = cast_null
cast_maybe_int (Some n) = cast_int n

pub cast_maybe_text : (o : Option (List ℕ)) → cast kinds.Text (or_null Text o) ≡ or_null Text o
cast_maybe_text None = cast_null_text
cast_maybe_text (Some t) = cast_text t
