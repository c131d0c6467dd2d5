use Rattle.std.proofs.Common.{ap, sym, ◌∙◌}
use Rattle.std.specs.FinMap as map
use Rattle.basis.proofs.MapLemmas.{keys_named}
use Rattle.basis.proofs.maps.NameMap.keys.Goals as goal

pub returns-clause-rest : goal.returns-clause-rest
returns-clause-rest g c = c.keys.ensures.rest ∙ sym (keys_named c.self.inside.tree.entries c.keys.ensures.ordered) ∙ ap (λ m. map.keys m) c.self.view_is
