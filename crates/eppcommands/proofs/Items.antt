-- An array's items, as a chain over its values sees them.
use Rattle.std.proofs.Common.{◌≡◌, Bool, List, [], ◌∷◌, map, Option, Some, None, option_map, Ok, refl, sym, ap, ◌∙◌}
use Rattle.std.specs.{Option.ok_or, Result.result_map_both, Prelude.◌||◌, List.list_any}
use Rattle.serde_json.specs.{Data.{Data, Items}, Find.as_array, View.{view, items_view}, declared.value.Value.Value}
use Rattle.protocol.specs.declared.form.FormFault.{FormFault, TheVariants.SyntaxError}
use Rattle.eppforms.specs.Kind.{items_list}
use Rattle.eppforms.proofs.Items.{items_list-items_view}
use Rattle.eppcommands.specs.Reading.{items_in}

pub list_any_map : (p : Data → Bool) (vs : List Value) → list_any p (map view vs) ≡ list_any (λ v. p (view v)) vs
list_any_map p [] = refl
list_any_map p (v ∷ vs) = ap (λ (b : Bool). p (view v) || b) (list_any_map p vs)

-- the items of an array that was looked for
pub items_in-found : {V : Type 0} (items : V → List Value) (o : Option V) (d : Data) → option_map (λ v. items_view (items v)) o ≡ as_array d
    → result_map_both (λ v. map view (items v)) (λ (code : FormFault). code) (ok_or o SyntaxError) ≡ items_in d
items_in-found items None d e = ap (λ (ds : Option Items). ok_or (option_map items_list ds) SyntaxError) e
items_in-found items (Some v) d e =
    ap (λ (ds : List Data). Ok ds) (sym (items_list-items_view (items v))) ∙ ap (λ (ds : Option Items). ok_or (option_map items_list ds) SyntaxError) e
