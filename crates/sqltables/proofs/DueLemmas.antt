-- What falls due, as WHERE asks for it.
use Rattle.std.proofs.Common.{◌≡◌, ◌&&◌, ◌∙◌, refl, false, true, pos, int_le, ℤ, Option, Some, None}
use Rattle.sqltables.proofs.Words.{at_ints, at_nullable, Binary, binary, Compare, Ge, if_both, Int, last_term, Le, or_null, then_term, truth_or}
use Rattle.sqltables.specs.inner.Due.{falls_due, lies_within}

within : (first last : ℤ) (v : Option ℤ) → (if_both false (λ a b. int_le b a) v (Some first) && if_both false int_le v (Some last)) ≡ lies_within first last v
within first last None = refl
within first last (Some v) = refl

pub at_within : (v : Option ℤ) (first last : ℤ)
    → (truth_or false (binary (Compare Ge Binary) (or_null Int v) (Int first)) && (truth_or false (binary (Compare Le Binary) (or_null Int v) (Int last)) && true)) ≡ lies_within first last v
at_within v first last =
    then_term (at_nullable Int false Ge (λ a b. int_le b a) (at_ints false Ge) v (Some first)) (last_term (at_nullable Int false Le int_le (at_ints false Le) v (Some last))) ∙ within first last v

ever : (due : Option ℤ) → if_both false (λ a b. int_le b a) due (Some (pos 0)) ≡ falls_due due
ever None = refl
ever (Some due) = refl

pub at_ever : (due : Option ℤ) → (truth_or false (binary (Compare Ge Binary) (or_null Int due) (Int (pos 0))) && true) ≡ falls_due due
at_ever due = last_term (at_nullable Int false Ge (λ a b. int_le b a) (at_ints false Ge) due (Some (pos 0))) ∙ ever due
