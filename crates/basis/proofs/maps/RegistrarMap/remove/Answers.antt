use Rattle.std.proofs.Common.{ap, ◌∙◌}
use Rattle.std.specs.{Cmp.nat_cmp_total, FinMap.nat_cmp-IsAntisymmetric, Ordering.nat_cmp}
use Rattle.std.specs.FinMap as map
use Rattle.basis.proofs.MapLemmas.{entries_remove}
use Rattle.basis.proofs.maps.RegistrarMap.remove.Goals as goal

pub returns : goal.returns
returns g c =
    entries_remove nat_cmp nat_cmp_total nat_cmp-IsAntisymmetric c.self.inside.tree.entries c.remove.new.self.entries c.place.result c.remove.ensures.updates.0
    ∙ ap (λ m. map.remove m c.place.result) c.self.view_is ∙ ap (map.remove c.args.self.now) c.place.ensures
