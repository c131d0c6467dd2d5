-- A canonical name is processed, so it has a form in Unicode.
use Rattle.std.proofs.Common.{◌≡◌, ℕ, List, Option, Some, None, refl}
use Rattle.idna.specs.declared.{deny_list.TheConstants.AsciiDenyList.STD3, options.Hyphens.TheVariants.Allow}
use Rattle.idna.specs.{declared.options.DnsLength.TheVariants.Ignore, Uts46.{process_utf8, to_unicode}}
use Rattle.idna.proofs.Uts46Lemmas.{to_ascii_idem, to_ascii-invalid}
use Rattle.names.specs.Canonical.{IsStable, ascii_of, unicode_of}

pub IsStable-ascii_of : (text name : List ℕ) → ascii_of text ≡ Some name → IsStable name
IsStable-ascii_of text name e = to_ascii_idem STD3 Allow Ignore text name e

pub processed : (name : List ℕ) → IsStable name → (labels : List (List ℕ)) × (process_utf8 STD3 Allow name ≡ Some labels)
processed name stable = by (process_utf8 STD3 Allow name) refl
  where
    by : (r : Option (List (List ℕ))) → process_utf8 STD3 Allow name ≡ r → (labels : List (List ℕ)) × (process_utf8 STD3 Allow name ≡ Some labels)
    by None p = absurd (let not = to_ascii-invalid STD3 Allow Ignore name p in cc)
    by (Some labels) p = (labels, p)

pub unicode_of-stable : (name : List ℕ) → IsStable name → unicode_of name ≡ None → ⊥
unfolding to_unicode
unicode_of-stable name stable none = let e = (processed name stable).1 in let some = rw e at none in cc
