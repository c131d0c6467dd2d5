use Rattle.std.proofs.lemmas.List.{Filters.dedup_is, Kept.IsStrictlySortedBy-dedup}
use Rattle.std.specs.Cmp.Lexicographic.{nat_list_cmp_total, texts_ties}
use Rattle.basis.proofs.SetLemmas.{from_list-dedup}
use Rattle.basis.proofs.sets.NameSet.of_list.Goals as goal

pub invariant_of-result : goal.invariant_of-result
invariant_of-result c =
    rw (dedup_is _ _ _ c.dedup.ensures.filtered) (IsStrictlySortedBy-dedup nat_list_cmp_total texts_ties _ c.sort_unstable.ensures.sorted)

pub returns : goal.returns
returns c =
    rw (dedup_is _ _ _ c.dedup.ensures.filtered) (from_list-dedup c.args.names.items _ c.sort_unstable.ensures.permutation)
