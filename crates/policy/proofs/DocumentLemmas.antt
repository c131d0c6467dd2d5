-- Which document bytes spell.
use Rattle.std.proofs.Common.{◌≡◌, ℕ, Bool, true, false, List, Some, None, Ok, Err, refl}
use Rattle.std.proofs.lemmas.Str.{is_utf8-from_IsUtf8, IsUtf8-from_is_utf8}
use Rattle.std.specs.Str.{IsUtf8, is_utf8}
use Rattle.toml.specs.{Data.Members, Parse.parse_document}
use Rattle.policy.specs.{declared.fault.PolicyFault.TheVariants.NotToml, Reading.document_of}

pub document_of-text : (bytes : List ℕ) (doc : Members) → IsUtf8 bytes → parse_document bytes ≡ Some doc → document_of bytes ≡ Ok doc
unfolding document_of
document_of-text bytes doc text e = rw (is_utf8-from_IsUtf8 bytes text, e) refl

pub document_of-none : (bytes : List ℕ) → (IsUtf8 bytes → parse_document bytes ≡ None) → document_of bytes ≡ Err NotToml
unfolding document_of
document_of-none bytes h = by (is_utf8 bytes) refl
  where
    by : (b : Bool) → is_utf8 bytes ≡ b → document_of bytes ≡ Err NotToml
    by true e = let none = h (IsUtf8-from_is_utf8 bytes e) in rw (e, none) refl
    by false e = rw e refl
