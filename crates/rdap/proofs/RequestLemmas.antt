-- Paths that are plain.
use Rattle.std.proofs.Common.{rules, ◌≡◌, ℕ, zero, suc, Bool, true, false, ◌<◌, List, [], ◌∷◌, refl, slice_index}
use Rattle.std.proofs.lemmas.{Str.IsUtf8-from_ascii, Bool.and_parts}
use Rattle.std.specs.Str.{IsUtf8}
use Rattle.rdap.specs.Requests.{is_plain_byte, is_plain_path}

plain_byte_below : (b : ℕ) → is_plain_byte b ≡ true → b < 128
plain_byte_below b e = search rules

plain_below : (path : List ℕ) → is_plain_path path ≡ true → (i : ℕ) → slice_index path i < 128
plain_below [] e i = search rules
plain_below (b ∷ path) e zero = plain_byte_below b (and_parts _ _ e).0
plain_below (b ∷ path) e (suc i) = plain_below path (and_parts (is_plain_byte b) _ e).1 i

-- a plain path is a text
pub plain_is_text : (path : List ℕ) → is_plain_path path ≡ true → IsUtf8 path
plain_is_text path e = IsUtf8-from_ascii path (plain_below path e)

-- what is no text isn't plain
pub unreadable : (path : List ℕ) → ¬ (IsUtf8 path) → is_plain_path path ≡ false
unreadable path no_text = by (is_plain_path path) refl
  where
    by : (b : Bool) → is_plain_path path ≡ b → b ≡ false
    by true e = absurd (no_text (plain_is_text path e))
    by false e = refl
