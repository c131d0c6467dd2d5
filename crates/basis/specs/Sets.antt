-- More on finite sets: sets of names, and when two sets are the same.
use Rattle.std.specs.Prelude.{Bool, ◌&&◌}
use Rattle.std.specs.declared.cmp.Ordering.{Ordering}
use Rattle.std.specs.Cmp.Lexicographic.{slice_cmp}
use Rattle.std.specs.Coded.{Coded, coded_list, coded_ℕ}
use Rattle.std.specs.FinSet.{FinSet, code, is_subset}
use Rattle.std.specs.Ordering.{nat_cmp}

abbrev pub Names : Type 0
Names = FinSet (slice_cmp nat_cmp)

abbrev pub names_code : Coded Names
names_code = code (coded_list coded_ℕ)

-- each lies within the other
abbrev pub is_same_set : {K : Type 0} {R : K → K → Ordering} → FinSet R → FinSet R → Bool
is_same_set a b = is_subset a b && is_subset b a
