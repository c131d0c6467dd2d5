-- Bytes that are read as a text.
use Rattle.std.proofs.Common.{◌≡◌, ℕ, Bool, true, false, List, Some, None, refl, cond}
use Rattle.std.proofs.lemmas.Str.{IsUtf8-from_is_utf8, is_utf8-from_IsUtf8}
use Rattle.std.specs.Str.{IsUtf8, is_utf8}

pub text_some : (bs text : List ℕ) → text ≡ bs → IsUtf8 bs → Some text ≡ cond (is_utf8 bs) (Some bs) None
text_some bs text e h = rw (is_utf8-from_IsUtf8 bs h, e)

pub text_none : (bs : List ℕ) → (IsUtf8 bs → ⊥) → None ≡ cond (is_utf8 bs) (Some bs) None
text_none bs h = by (is_utf8 bs) refl
  where
    by : (b : Bool) → is_utf8 bs ≡ b → None ≡ cond b (Some bs) None
    by true e = absurd (h (IsUtf8-from_is_utf8 bs e))
    by false e = refl
