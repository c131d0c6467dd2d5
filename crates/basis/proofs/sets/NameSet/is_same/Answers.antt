use Rattle.std.proofs.{Common.◌∙◌, lemmas.Slice.Eq.{bytes_eq-Decides, slice_eq-Decides}}
use Rattle.basis.specs.Sets.{is_same_set}
use Rattle.basis.proofs.SetLemmas.{is_same_named}
use Rattle.basis.proofs.sets.NameSet.is_same.Goals as goal

pub returns : goal.returns
returns c =
    let mine = c.self.inside.names.items in
    let others = c.other.inside.names.items in
    is_same_named mine others c.eq.result c.self.invariant c.other.invariant (slice_eq-Decides bytes_eq-Decides mine others _ c.eq.ensures)
    ∙ (λ i. is_same_set (c.self.view_is i) (c.other.view_is i))
