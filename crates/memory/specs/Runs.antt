-- How a script ends that is answered over a registry in memory.
use Rattle.std.specs.Prelude.{◌≡◌, ℕ, List, Option, Ok, Err}
use Rattle.std.specs.Io.KnownBytes.{Keeps}
use Rattle.policy.specs.declared.fault.PolicyFault.TheVariants as faults
use Rattle.policy.specs.Reading.{policy_of}
use Rattle.policy.specs.Rules.{PolicyRules}
use Rattle.model.specs.Registry.{Registry}
use Rattle.registry.specs.Opening.{opened}
use Rattle.script.specs.declared.exit.Exit.{Exit}
use Rattle.script.specs.declared.exit.Exit.TheVariants as exits
use Rattle.script.specs.Runs.{EndsRun}
use Rattle.books.specs.Book.{never_opened}

-- a registry that was never used, opened under a policy
abbrev pub start : PolicyRules → Registry
start p = (opened p never_opened).registry

-- how a run under a policy ends; a book in memory that can't be opened ends it with nothing printed
abbrev pub EndsUnder : PolicyRules → List ℕ → Option (List ℕ) → Option (List ℕ) → Exit → Type 0
EndsUnder p input old new (exits.Open fault) = Keeps old new
EndsUnder p input old new exit = EndsRun p (start p) input old new exit

-- how a run under a policy file ends; the file's first fault ends it with nothing printed
abbrev pub EndsByFile : List ℕ → List ℕ → Option (List ℕ) → Option (List ℕ) → Exit → Type 0
EndsByFile policy input old new (exits.Policy faults.Memory) = Keeps old new
EndsByFile policy input old new (exits.Policy fault) =
    (policy_of policy ≡ Err fault) × Keeps old new
EndsByFile policy input old new exit =
    (p : PolicyRules) × (policy_of policy ≡ Ok p) × EndsUnder p input old new exit
