-- What the lines of a script are answered.
use Rattle.std.specs.Prelude.{◌≡◌, ◌≢◌, ◌⊎◌, ◌+◌, ℕ, List, [], ◌∷◌, ◌++◌, Option, Some, None, Result, Ok, Err, ⊤}
use Rattle.std.specs.Io.KnownBytes.{Appends, Keeps, append_known}
use Rattle.frames.specs.Outcomes.{Outcome, replied, ended, failed, lost}
use Rattle.frames.specs.Texts.{failed_text}
use Rattle.policy.specs.Rules.{PolicyRules}
use Rattle.script.specs.declared.exit.Exit.{Exit}
use Rattle.script.specs.declared.exit.Exit.TheVariants as exits
use Rattle.protocol.specs.declared.order.OperatorRequest.{OperatorRequest}
use Rattle.model.specs.Registry.{Registry}
use Rattle.script.specs.Runs.{GivesUp, OperatorSteps, AsksNothing, Prints, printed, BeginsBehind, Writes, EndsIn}

-- ---- one line

-- P holds of the text that is printed of an outcome, or of one that found no memory
abbrev pub TextOf : (List ℕ → Type 0) → Outcome → Type 0
TextOf P (replied reply) = P reply
TextOf P (ended reply) = P reply
TextOf P failed = P failed_text
TextOf P lost = (text : List ℕ) × P text

-- the text that is printed of an outcome, unless it found no memory
abbrev pub printed_text : Outcome → Option (List ℕ)
printed_text (replied reply) = Some reply
printed_text (ended reply) = Some reply
printed_text failed = Some failed_text
printed_text lost = None

-- what the operator sends is answered
abbrev pub IsAnsweredOperator : PolicyRules → OperatorRequest → ℕ → Registry → Registry → List ℕ
    → Type 0
IsAnsweredOperator p request moment before after text =
    GivesUp before after text ⊎ OperatorSteps p request moment before after text

-- ---- a run

-- one line and what it adds to the known bytes: its reply, or nothing where it is empty
abbrev pub TellsLine : PolicyRules → List ℕ → Registry → Registry → Option (List ℕ)
    → Option (List ℕ) → Type 0
TellsLine p line before after old new =
    (replies : List (List ℕ)) × Prints p (line ∷ []) before after replies
    × Appends old new (printed replies)

-- the known bytes grew by the front of a text
abbrev pub AppendsFront : Option (List ℕ) → Option (List ℕ) → List ℕ → Type 0
AppendsFront old new text = (front rest : List ℕ) × Appends old new front × (text ≡ front ++ rest)

-- a line is answered, and the front of what was pending and of its reply is written or pending
abbrev pub BeginsLine : PolicyRules → List ℕ → (before after : Registry) → Option (List ℕ) → List ℕ
    → Option (List ℕ) → Type 0
BeginsLine p line before after old pending new =
    (replies : List (List ℕ)) × Prints p (line ∷ []) before after replies
    × AppendsFront old new (pending ++ printed replies)

-- what a line leaves that ends a run: one that isn't of the form changes nothing, and any other is answered
abbrev pub BreaksAt : PolicyRules → List ℕ → (before after : Registry) → Option (List ℕ) → List ℕ
    → Option (List ℕ) → Exit → Type 0
BreaksAt p line before after old pending new (exits.Script n) = after ≡ before
BreaksAt p line before after old pending new _ = BeginsLine p line before after old pending new

-- how a line ends a run: it isn't of the form, and nothing is added; or by a fault of the output or of memory
abbrev pub HaltsAt : PolicyRules → List ℕ → ℕ → Option (List ℕ) → Option (List ℕ) → Exit → Type 0
HaltsAt p line number old new (exits.Script n) =
    (n ≡ number) × (line ≢ []) × AsksNothing p line × Keeps old new
HaltsAt p line number old new exits.File = Unit {0}
HaltsAt p line number old new exits.Memory = Unit {0}
HaltsAt p line number old new _ = ⊥

-- the same after bytes that were pending
abbrev pub EndsBehind : PolicyRules → (before after : Registry) → List ℕ → Option (List ℕ) → List ℕ
    → Option (List ℕ) → Exit → Type 0
EndsBehind p before after input old pending new exits.File =
    Writes old new (BeginsBehind pending p before after input)
EndsBehind p before after input old pending new exits.Memory =
    Writes old new (BeginsBehind pending p before after input)
EndsBehind p before after input old pending new exit =
    EndsIn p before after input (append_known old pending) new exit

-- a run that answers all its lines is done
abbrev pub run_end : Result ⊤ Exit → Exit
run_end (Ok _) = exits.Done
run_end (Err exit) = exit
