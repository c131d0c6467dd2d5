-- Values without a float.
use Rattle.std.proofs.{Common.{◌≡◌, ℕ, false, List, [], ◌∷◌, Option, Some, None, refl, map}, lemmas.Bool.or_from}
use Rattle.std.specs.Prelude.{IfSome, option_map}
use Rattle.serde_json.specs.{Data.{Data, string, array}, View.items_of, Written.{has_float, members_have_float}}
use Rattle.jsonobjects.specs.Members.{members_with, texts_value, moment_value}

abbrev pub IsPlain : Data → Type 0
IsPlain d = has_float d ≡ false

-- the values that are there are plain
abbrev pub ArePlain : List (List ℕ × Option Data) → Type 0
ArePlain [] = Unit {0}
ArePlain (m ∷ ms) = IfSome m.1 IsPlain × ArePlain ms

pub members_plain : (ms : List (List ℕ × Option Data)) → ArePlain ms → members_have_float (members_with ms) ≡ false
members_plain [] p = refl
members_plain ((k, None) ∷ ms) p = members_plain ms p.1
members_plain ((k, Some d) ∷ ms) p = or_from _ _ p.0 (members_plain ms p.1)

pub items_plain : {X : Type 0} (f : X → Data) (xs : List X) → ((x : X) → IsPlain (f x)) → IsPlain (array (items_of (map f xs)))
items_plain f [] p = refl
items_plain f (x ∷ xs) p = or_from _ _ (p x) (items_plain f xs p)

pub maybe_plain : {X : Type 0} (f : X → Data) (o : Option X) → ((x : X) → IsPlain (f x)) → IfSome (option_map f o) IsPlain
maybe_plain f None p = tt
maybe_plain f (Some x) p = p x

pub maybe_text : (o : Option (List ℕ)) → IfSome (option_map string o) IsPlain
maybe_text o = maybe_plain string o (λ s. refl)

pub maybe_moment : (o : Option ℕ) → IfSome (option_map moment_value o) IsPlain
maybe_moment o = maybe_plain moment_value o (λ m. refl)

pub texts : (ts : List (List ℕ)) → IsPlain (texts_value ts)
texts ts = items_plain string ts (λ s. refl)
