-- An object's members, as a chain over its map sees them.
use Rattle.std.proofs.Common.{◌≡◌, ℕ, Bool, List, [], ◌∷◌, Some, refl, sym, ap, ◌∙◌}
use Rattle.std.specs.{Prelude.{◌&&◌, ◌||◌, string_bytes}, List.{list_all, list_any}}
use Rattle.serde_json.specs.{Data.Data, Find.as_object, View.{view, members_view}}
use Rattle.serde_json.proofs.Views.{Entry}
use Rattle.eppforms.specs.Form.{members_list, members_in}

all_members : (p : (List ℕ × Data) → Bool) (es : List Entry) → list_all p (members_list (members_view es)) ≡ list_all (λ m. p (string_bytes m.0, view m.1)) es
all_members p [] = refl
all_members p (e ∷ es) = ap (λ (b : Bool). p (string_bytes e.0, view e.1) && b) (all_members p es)

-- what a test says of the members of an object that was found
pub all-members : (p : (List ℕ × Data) → Bool) (d : Data) (es : List Entry) → Some (members_view es) ≡ as_object d
    → list_all p (members_in (as_object d)) ≡ list_all (λ m. p (string_bytes m.0, view m.1)) es
all-members p d es e = ap (λ ms. list_all p (members_in ms)) (sym e) ∙ all_members p es

any_members : (p : (List ℕ × Data) → Bool) (es : List Entry) → list_any p (members_list (members_view es)) ≡ list_any (λ m. p (string_bytes m.0, view m.1)) es
any_members p [] = refl
any_members p (e ∷ es) = ap (λ (b : Bool). p (string_bytes e.0, view e.1) || b) (any_members p es)

-- the same of a test that one member passes
pub any-members : (p : (List ℕ × Data) → Bool) (d : Data) (es : List Entry) → Some (members_view es) ≡ as_object d
    → list_any p (members_in (as_object d)) ≡ list_any (λ m. p (string_bytes m.0, view m.1)) es
any-members p d es e = ap (λ ms. list_any p (members_in ms)) (sym e) ∙ any_members p es
