use Rattle.std.proofs.{Common.{ℕ, List, rules, ap, ◌∙◌}, lemmas.Fn.always_returns_same}
use Rattle.std.specs.{Cmp.Lexicographic.slice_cmp, Ordering.nat_cmp}
use Rattle.std.specs.FinSet as set
use Rattle.basis.proofs.SetLemmas.{contains_named}
use Rattle.basis.proofs.sets.NameSet.contains.Goals as goal

-- the closure compares a name of the list with the one that is looked for
pub returns : goal.returns
returns c =
    let found = c.binary_search_by.ensures in
    let by = found.position (λ (other : List ℕ). slice_cmp nat_cmp other c.args.name.now) (always_returns_same _ _ _ (λ a r f called. search rules)) in
    c.is_ok.ensures.value
    ∙ contains_named c.self.inside.names.items c.self.invariant c.args.name.now c.binary_search_by.result (rw c.deref.ensures.value at found.bound) (rw c.deref.ensures.value at by)
    ∙ ap (λ s. set.contains s c.args.name.now) c.self.view_is
