use Rattle.std.proofs.Common.{◌≡◌, length, map, sym, ◌∙◌, vec_len}
use Rattle.std.specs.Prelude.{◌==◌}
use Rattle.serde_json.specs.View.{view}
use Rattle.eppforms.proofs.Items.{of_items-found, length-map_view}
use Rattle.eppforms.proofs.form.is_empty_list.Goals as goal

pub returns-in-Some : goal.returns-in-Some
returns-in-Some c =
    let vs = c.in-Some.items.now.items in
    let found = of_items-found (λ ds. length ds == 0) (view c.args.value.now) vs c.in-Some.ensures in
    let len : length (map view vs) ≡ vec_len c.in-Some.items.now = length-map_view vs ∙ sym c.in-Some.items.now.ok.0 in
    rw (found, len) c.is_empty.ensures
