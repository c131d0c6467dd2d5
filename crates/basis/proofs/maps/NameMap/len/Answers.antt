use Rattle.std.proofs.Common.{ap, sym, length, ◌∙◌}
use Rattle.std.specs.FinMap as map
use Rattle.basis.proofs.MapLemmas.{entries_named}
use Rattle.basis.proofs.maps.NameMap.len.Goals as goal

pub returns : goal.returns
returns g c =
    c.len.ensures.len ∙ ap length (sym (entries_named c.self.inside.tree.entries c.len.ensures.ordered))
    ∙ sym (map.len-entries (map.from_entries c.self.inside.tree.entries)) ∙ ap (λ m. map.len m) c.self.view_is
