use Rattle.std.proofs.Common.{◌≡◌, length, true, false, map, sym, ap, ◌∙◌}
use Rattle.std.specs.{Prelude.◌&&◌, List.list_all}
use Rattle.serde_json.specs.View.{view}
use Rattle.eppforms.specs.Kind.{text_within, within}
use Rattle.eppforms.proofs.Items.{of_items-found, list_all-map, length-map_view}
use Rattle.eppforms.proofs.kind.Kind.is_in_range.Goals as goal

pub returns-then-contain : goal.returns-then-contain
returns-then-contain c =
    let t = c.in-Texts in
    let vs = c.in-Some.items.now.items in
    let found = of_items-found (λ ds. within t.count (length ds) && list_all (text_within t.len) ds) (view c.args.value.now) vs c.in-Some.ensures in
    let each = rw c.deref.ensures.value at c.all_within.ensures ∙ sym (list_all-map (text_within t.len) vs) in
    let len : length (map view vs) ≡ c.len.result = length-map_view vs ∙ sym c.in-Some.items.now.ok.0 ∙ sym c.len.ensures in
    let counted : within t.count (length (map view vs)) ≡ true = ap (within t.count) len ∙ sym c.contain.ensures ∙ c.if-contain.true in
    rw t.is (rw (found, counted) each)

pub returns-else-contain : goal.returns-else-contain
returns-else-contain c =
    let t = c.in-Texts in
    let vs = c.in-Some.items.now.items in
    let found = of_items-found (λ ds. within t.count (length ds) && list_all (text_within t.len) ds) (view c.args.value.now) vs c.in-Some.ensures in
    let len : length (map view vs) ≡ c.len.result = length-map_view vs ∙ sym c.in-Some.items.now.ok.0 ∙ sym c.len.ensures in
    let counted : within t.count (length (map view vs)) ≡ false = ap (within t.count) len ∙ sym c.contain.ensures ∙ c.if-contain.false in
    rw t.is (rw (found, counted) c.if-contain.false)
