-- Runs: what a registry is asked, one thing after another, and what it answers.
use Rattle.std.specs.Prelude.{◌≡◌, ◌≤◌, ℕ, max, Bool, true, false, List, [], ◌∷◌, if◌then◌else◌}
use Rattle.model.specs.Lapse.{lapse, now}
use Rattle.model.specs.Registry.{Registry}
use Rattle.model.specs.WellFormed.{HasNumbersLeft, last_clock}
use Rattle.policy.specs.Rules.{PolicyRules, IsRegistrar}
use Rattle.isolation.specs.Runs.{Answer, IsCall, Question, command, date, inspection, is_asked_by, look_up, order}
use Rattle.registry.specs.Execution.{IsSettlement}
use Rattle.decisions.specs.Askable.{CanBeAsked}

-- ---- calls one after another

-- Each question is asked at a moment, and the answers come in the order of the questions.
abbrev pub IsRun : PolicyRules → List (ℕ × Question) → List Answer → Registry → Registry → Type 0
IsRun p [] answers before after = (answers ≡ []) × (after ≡ before)
IsRun p (asked ∷ others) answers before after =
    (first : Answer) × (rest : List Answer) × (between : Registry)
    × (answers ≡ first ∷ rest) × IsCall p asked.0 asked.1 before between first
    × IsRun p others rest between after

-- of the answers, those to what a registrar may have asked
abbrev pub answers_for : ℕ → List (ℕ × Question) → List Answer → List Answer
answers_for r [] answers = []
answers_for r (asked ∷ others) [] = []
answers_for r (asked ∷ others) (a ∷ answers) = if is_asked_by r asked.1 then a ∷ answers_for r others answers else answers_for r others answers

-- ---- with settlements between them

-- A call by its moment, its question and its answer; or a settlement by its moment, how many objects
-- may lapse, and how many did.
pub data RunTurn : Type 0 where
  call : ℕ → Question → Answer → RunTurn
  settlement : ℕ → ℕ → ℕ → RunTurn

abbrev pub questions_of : List RunTurn → List (ℕ × Question)
questions_of [] = []
questions_of (call moment q a ∷ turns) = (moment, q) ∷ questions_of turns
questions_of (settlement moment at_most done ∷ turns) = questions_of turns

abbrev pub answers_of : List RunTurn → List Answer
answers_of [] = []
answers_of (call moment q a ∷ turns) = a ∷ answers_of turns
answers_of (settlement moment at_most done ∷ turns) = answers_of turns

-- Turns one after another. `left` is the registry that the last call left, and `latest` the latest
-- moment of a settlement since: none is later than the moment that the next call counts as, had there
-- been no settlement.
abbrev pub Follow : PolicyRules → Registry → ℕ → List RunTurn → Registry → Registry → Type 0
Follow p left latest [] before after = after ≡ before
Follow p left latest (call moment q a ∷ turns) before after =
    (latest ≤ max moment left.clock) × (between : Registry) × IsCall p moment q before between a
    × Follow p between 0 turns between after
Follow p left latest (settlement moment at_most done ∷ turns) before after =
    (between : Registry) × IsSettlement p moment at_most before between done
    × Follow p left (max moment latest) turns between after

abbrev pub IsSettledRun : PolicyRules → List RunTurn → Registry → Registry → Type 0
IsSettledRun p turns before after = Follow p before 0 turns before after

-- whether a settlement is the last turn, where those before these ended with one or not
abbrev pub settles_last : Bool → List RunTurn → Bool
settles_last last [] = last
settles_last last (call moment q a ∷ turns) = settles_last false turns
settles_last last (settlement moment at_most done ∷ turns) = settles_last true turns

-- The clock may be later, and from then on both are one registry.
pub record IsLaterRegistry (p : PolicyRules) (earlier later : Registry) : Type 0 where
  pub clock : earlier.clock ≤ later.clock
  pub future : (t : ℕ) → later.clock ≤ t → lapse p t later ≡ lapse p t earlier

-- ---- of which the contracts of the calls speak

-- the caller is a registrar, its command was read, and its own numbers are far from the greatest
abbrev pub IsAskedIn : PolicyRules → Question → Registry → Type 0
IsAskedIn p (command r c) before = IsRegistrar p r × CanBeAsked c × HasNumbersLeft r before
IsAskedIn p (order o) before = Unit {0}
IsAskedIn p date before = Unit {0}
IsAskedIn p look_up before = Unit {0}
IsAskedIn p inspection before = Unit {0}

-- no call is later than the last moment
abbrev pub IsRunTurn : PolicyRules → RunTurn → Registry → Registry → Type 0
IsRunTurn p (call moment q a) before after =
    (moment ≤ last_clock) × IsAskedIn p q before × IsCall p moment q before after a
IsRunTurn p (settlement moment at_most done) before after =
    (moment ≤ last_clock) × IsSettlement p moment at_most before after done

-- a turn, and the registry that it left
pub record Taken : Type 0 where
  pub turn : RunTurn
  pub left : Registry

-- turns one after another, with settlements at any moments, each in the registry that the one before it left
abbrev pub AreTurns : PolicyRules → List Taken → Registry → Registry → Type 0
AreTurns p [] before after = after ≡ before
AreTurns p (taken ∷ others) before after =
    IsRunTurn p taken.turn before taken.left × AreTurns p others taken.left after

abbrev pub moment_of : RunTurn → ℕ
moment_of (call moment q a) = moment
moment_of (settlement moment at_most done) = moment

-- these turns as calls: each by its moment, and by what the registry that it left is now
abbrev pub calls_of : PolicyRules → List Taken → List (ℕ × Registry)
calls_of p [] = []
calls_of p (taken ∷ others) = (moment_of taken.turn, now p taken.left) ∷ calls_of p others
