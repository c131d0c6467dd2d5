-- The lines of an account, kept by the domains that they are for.
use Rattle.std.specs.Prelude.{◌≡◌, ℕ, ◌*◌, ◌<◌, List, [], ◌∷◌, ◌++◌, length, unwrap_or, ℤ, pos, ◌-ℤ◌, ◌≤ℤ◌}
use Rattle.std.specs.BTreeMap.{is_at}
use Rattle.std.specs.Cmp.Lexicographic.{slice_cmp}
use Rattle.std.specs.List.{AllByRecursion}
use Rattle.std.specs.List.Sorted.{IsStrictlySortedBy}
use Rattle.std.specs.Map.{keys_of, lookup}
use Rattle.std.specs.Ordering.{nat_cmp}
use Rattle.basis.specs.Bag.{bag_of}
use Rattle.accounts.specs.declared.line.Line.{Line}
use Rattle.accounts.specs.Lines.{balance, in_order, roid_numbers}

-- the lines of all groups
abbrev pub all_lines : List (List ℕ × List Line) → List Line
all_lines [] = []
all_lines (g ∷ gs) = g.1 ++ all_lines gs

-- as a bag
abbrev pub bag_in : List (List ℕ × List Line) → List Line
bag_in groups = bag_of in_order (all_lines groups)

-- cents that fit
abbrev pub IsSmall : Line → Type 0
IsSmall l = l.cents < 18_446_744_073_709_551_616

-- the lines of the group with this key, none where there is no such group
abbrev pub lines_at : List ℕ → List (List ℕ × List Line) → List Line
lines_at key groups = unwrap_or (lookup (is_at (slice_cmp nat_cmp key)) groups) []

-- each line is under its domain's key
abbrev pub IsGroup : List ℕ × List Line → Type 0
IsGroup g = AllByRecursion (λ l. roid_numbers l.roid ≡ g.0) g.1

-- one group for each domain, in order, and one for the lines of none
pub record IsGrouped (groups : List (List ℕ × List Line)) : Type 0 where
  pub sorted : IsStrictlySortedBy (slice_cmp nat_cmp) (keys_of groups)
  pub under : AllByRecursion IsGroup groups

-- the balance of so many lines fits
pub record IsBounded (lines : List Line) : Type 0 where
  pub low : (pos 0 -ℤ pos (length lines * 18_446_744_073_709_551_615)) ≤ℤ balance lines
  pub high : balance lines ≤ℤ pos (length lines * 18_446_744_073_709_551_615)

-- how many lines of a bag there are, all of cents that fit, and what they add up to
pub record IsCounted (lines : List Line) (n : ℕ) (all : ℤ) : Type 0 where
  pub count : n ≡ length lines
  pub few : length lines < 4_611_686_018_427_387_904
  pub small : AllByRecursion IsSmall lines
  pub sum : all ≡ balance lines

-- the groups of a bag that is counted
pub record IsKept (groups : List (List ℕ × List Line)) (n : ℕ) (all : ℤ) : Type 0 where
  pub grouped : IsGrouped groups
  pub counted : IsCounted (bag_in groups) n all
