use Rattle.std.proofs.Common.{sym, ap, ◌∙◌}
use Rattle.std.specs.FinMap as map
use Rattle.basis.proofs.MapLemmas.{get_placed}
use Rattle.basis.proofs.maps.RegistrarMap.get.Goals as goal

pub returns : goal.returns
returns g c =
    c.get.ensures.value ∙ sym (get_placed c.self.inside.tree.entries c.place.result)
    ∙ ap (λ m. map.get m c.place.result) c.self.view_is ∙ ap (map.get c.args.self.now) c.place.ensures
