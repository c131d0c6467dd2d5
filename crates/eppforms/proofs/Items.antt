-- An array's items, as a chain over its values sees them.
use Rattle.std.proofs.Common.{◌≡◌, suc, Bool, List, [], ◌∷◌, length, map, Some, refl, sym, ap, ◌∙◌}
use Rattle.std.specs.{Prelude.◌&&◌, List.list_all}
use Rattle.serde_json.specs.{Data.Data, Find.as_array, View.{view, items_view}, declared.value.Value.Value}
use Rattle.eppforms.specs.Kind.{items_list, of_items, some_and}

pub items_list-items_view : (vs : List Value) → items_list (items_view vs) ≡ map view vs
items_list-items_view [] = refl
items_list-items_view (v ∷ vs) = ap (λ (ds : List Data). view v ∷ ds) (items_list-items_view vs)

pub list_all-map : (p : Data → Bool) (vs : List Value) → list_all p (map view vs) ≡ list_all (λ v. p (view v)) vs
list_all-map p [] = refl
list_all-map p (v ∷ vs) = ap (λ (b : Bool). p (view v) && b) (list_all-map p vs)

pub length-map_view : (vs : List Value) → length (map view vs) ≡ length vs
length-map_view [] = refl
length-map_view (v ∷ vs) = ap suc (length-map_view vs)

-- what a test says of the items of an array that was found
pub of_items-found : (test : List Data → Bool) (d : Data) (vs : List Value) → Some (items_view vs) ≡ as_array d → of_items test d ≡ test (map view vs)
of_items-found test d vs e = ap (some_and (λ ds. test (items_list ds))) (sym e) ∙ ap test (items_list-items_view vs)

-- the same of a test of each item
pub all-found : (p : Data → Bool) (d : Data) (vs : List Value) → Some (items_view vs) ≡ as_array d → of_items (list_all p) d ≡ list_all (λ v. p (view v)) vs
all-found p d vs e = of_items-found (list_all p) d vs e ∙ list_all-map p vs
