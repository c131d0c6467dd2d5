-- How a script over a registry in memory ends.
use Rattle.std.proofs.Common.{◌≡◌, ℕ, List, Some, None, IfSome, Ok, subst}
use Rattle.std.specs.Prelude.{Option}
use Rattle.policy.specs.{Reading.policy_of, Rules.PolicyRules}
use Rattle.script.specs.{declared.exit.Exit.Exit, Runs.{EndsIn, EndsRun}}
use Rattle.script.specs.declared.exit.Exit.TheVariants as exits
use Rattle.memory.specs.Runs.{EndsByFile, EndsUnder, start}
use Rattle.model.specs.Registry.{Registry}

-- a run over a book from which nothing wrong is taken ends as one does
pub Ends-clean : (A : Type 0) (exit : Exit) (p : PolicyRules) (before after : Registry) (o old new : Option (List ℕ))
    → IfSome o (λ input. A → EndsIn p before after input old new exit) → A → IfSome o (λ input. EndsRun p before input old new exit)
Ends-clean A exit p before after None old new ends clean = tt
Ends-clean A exit p before after (Some input) old new ends clean = (after, ends clean)

-- ---- under a policy

ends_under : (exit : Exit) (p : PolicyRules) (input : List ℕ) (old new : Option (List ℕ)) → EndsRun p (start p) input old new exit → EndsUnder p input old new exit
ends_under (exits.Open fault) p input old new ends = absurd ends.1
ends_under _ p input old new ends = ends

pub EndsUnder-opened : (exit : Exit) (p q : PolicyRules) (before : Registry) (a old new : Option (List ℕ)) → q ≡ p → before ≡ start p
    → IfSome a (λ input. EndsRun q before input old new exit) → IfSome a (λ input. EndsUnder p input old new exit)
EndsUnder-opened exit p q before None old new same at ends = tt
EndsUnder-opened exit p q before (Some input) old new same at ends =
    let under : EndsRun p before input old new exit = subst (λ (r : PolicyRules). EndsRun r before input old new exit) same ends in
    ends_under exit p input old new (subst (λ (s : Registry). EndsRun p s input old new exit) at under)

by_file : (exit : Exit) (policy : List ℕ) (p : PolicyRules) (input : List ℕ) (old new : Option (List ℕ)) → policy_of policy ≡ Ok p → EndsUnder p input old new exit → EndsByFile policy input old new exit
by_file (exits.Policy fault) policy p input old new read ends = absurd ends.1
by_file _ policy p input old new read ends = (p, read, ends)

pub EndsByFile-read : (exit : Exit) (policy : List ℕ) (p : PolicyRules) (a old new : Option (List ℕ)) → policy_of policy ≡ Ok p
    → IfSome a (λ input. EndsUnder p input old new exit) → IfSome a (λ input. EndsByFile policy input old new exit)
EndsByFile-read exit policy p None old new read ends = tt
EndsByFile-read exit policy p (Some input) old new read ends = by_file exit policy p input old new read ends
