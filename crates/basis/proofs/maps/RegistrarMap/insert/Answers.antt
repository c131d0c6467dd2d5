use Rattle.std.proofs.{Common.{◌≡◌, None, sym, ap, ◌∙◌, arith}, lemmas.Grind.common_steps}
use Rattle.std.specs.{Cmp.nat_cmp_total, FinMap.nat_cmp-IsAntisymmetric, Ordering.nat_cmp}
use Rattle.std.specs.FinMap as map
use Rattle.basis.proofs.MapLemmas.{get_placed, entries_insert}
use Rattle.basis.proofs.maps.RegistrarMap.insert.Goals as goal

-- the place was absent
pub returns-in_err-insert-clause-only_new : goal.returns-in_err-insert-clause-only_new
returns-in_err-insert-clause-only_new g c =
    let absent : map.get c.args.self.now c.args.place ≡ None = ap (map.get c.args.self.now) (sym c.place.ensures) ∙ ap (λ m. map.get m c.place.result) (sym c.self.view_is) ∙ get_placed c.self.inside.tree.entries c.place.result ∙ c.in_err-insert.ensures.absent in
    grind (arith, common_steps)

pub returns-clause-ok : goal.returns-clause-ok
returns-clause-ok g c =
    entries_insert nat_cmp nat_cmp_total nat_cmp-IsAntisymmetric c.self.inside.tree.entries c.insert.new.self.entries c.place.result c.args.value c.in_ok-insert.ensures.updates.0
    ∙ ap (λ m. map.insert m c.place.result c.args.value) c.self.view_is ∙ ap (λ k. map.insert c.args.self.now k c.args.value) c.place.ensures
