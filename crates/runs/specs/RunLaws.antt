-- The laws of runs.
use Rattle.std.specs.Prelude.{◌≡◌, ◌≤◌, ℕ, false, List}
use Rattle.model.specs.Lapse.{lapse, lapsed, now}
use Rattle.model.specs.MoneyLaws.{AreCalls, IsRefundableIn, LinesFollowOver}
use Rattle.model.specs.Registry.{Registry, account_of}
use Rattle.model.specs.WellFormed.{IsRegistry, last_clock}
use Rattle.policy.specs.Rules.{PolicyRules, IsSound}
use Rattle.protocol.specs.declared.code.Code.{Code}
use Rattle.protocol.specs.declared.command.Command.{Command}
use Rattle.protocol.specs.declared.order.Order.{Order}
use Rattle.protocol.specs.declared.reply.Reply.{Reply}
use Rattle.registry.specs.Execution.{IsGreetingStep, IsOrderStep, IsStep}
use Rattle.registry.specs.Faces.{IsLookUp}
use Rattle.isolation.specs.Alike.{Pair, AreAlikeInTurn, firsts, seconds}
use Rattle.isolation.specs.Laws.{none}
use Rattle.isolation.specs.Public.{IsPublic, PublicPart, public_part}
use Rattle.isolation.specs.Runs.{Answer, IsCall, Question, code, command, date, dated, inspected, inspection, look_up, order, reply, shown}
use Rattle.runs.specs.Runs.{Taken, RunTurn, AreTurns, IsLaterRegistry, IsRun, IsSettledRun, answers_of, calls_of, questions_of, settles_last, answers_for}

-- ---- the steps of the registry's calls are calls of a run

abbrev pub CommandsAreCalls : Type 0
CommandsAreCalls =
    (p : PolicyRules) (r : ℕ) (c : Command) (moment : ℕ) (before after : Registry) (a : Reply)
    → IsStep p r c moment before after a → IsCall p moment (command r c) before after (reply a)

abbrev pub OrdersAreCalls : Type 0
OrdersAreCalls =
    (p : PolicyRules) (o : Order) (moment : ℕ) (before after : Registry) (a : Code)
    → IsOrderStep p o moment before after a → IsCall p moment (order o) before after (code a)

abbrev pub GreetingsAreCalls : Type 0
GreetingsAreCalls =
    (p : PolicyRules) (moment : ℕ) (before after : Registry) (a : ℕ)
    → IsGreetingStep p moment before after a → IsCall p moment date before after (dated a)

-- A look-up of what everybody may know is answered by the public part, off which its find is read.
abbrev pub LookUpsAreCalls : Type 0 → Type 0
LookUpsAreCalls X =
    (p : PolicyRules) (find : Registry → X) (lapsing : ℕ → Registry → Registry) (moment : ℕ)
    (before after : Registry) (found : X) (public : IsPublic p find)
    → IsLookUp p find lapsing moment before after found
    → (part : PublicPart) × IsCall p moment look_up before after (shown part)
    × (found ≡ public.0 part)

-- Any other is an inspection, and its find is one in the registry at its moment.
abbrev pub InspectionsAreCalls : Type 0 → Type 0
InspectionsAreCalls X =
    (p : PolicyRules) (find : Registry → X) (lapsing : ℕ → Registry → Registry) (moment : ℕ)
    (before after : Registry) (found : X)
    → IsLookUp p find lapsing moment before after found
    → (all : Registry) × IsCall p moment inspection before after (inspected all)
    × (found ≡ find all)

-- ---- settlements

-- Without its settlements a run has the same answers. After a call it left the very same registry, and
-- after a settlement one that is later.
abbrev pub SettlementsMayBeLeftOut : Type 0
SettlementsMayBeLeftOut =
    (p : PolicyRules) (turns : List RunTurn) (before after : Registry)
    → IsSettledRun p turns before after
    → (left : Registry) × IsRun p (questions_of turns) (answers_of turns) before left
    × IsLaterRegistry p left after × (settles_last false turns ≡ false → left ≡ after)

-- the same questions in registries that are the same now have the same answers, and leave such
abbrev pub AnswersAreDetermined : Type 0
AnswersAreDetermined =
    (p : PolicyRules) (questions : List (ℕ × Question)) (xs ys : List Answer) (s t x y : Registry)
    → now p s ≡ now p t → IsRun p questions xs s x → IsRun p questions ys t y
    → (xs ≡ ys) × (now p x ≡ now p y)

-- So whatever settlements there are in two runs with the same questions, the answers are the same, and
-- so are both registries from the later of their clocks on, or now, where a call was last in both.
abbrev pub SettlementsGoUnnoticed : Type 0
SettlementsGoUnnoticed =
    (p : PolicyRules) (xs ys : List RunTurn) (s t x y : Registry)
    → now p s ≡ now p t → IsSettledRun p xs s x → IsSettledRun p ys t y
    → questions_of xs ≡ questions_of ys
    → (answers_of xs ≡ answers_of ys)
    × ((u : ℕ) → x.clock ≤ u → y.clock ≤ u → lapse p u x ≡ lapse p u y)
    × (settles_last false xs ≡ false → settles_last false ys ≡ false → now p x ≡ now p y)

-- ---- money

-- a run on a well formed registry leaves one
abbrev pub RunsKeepRegistries : Type 0
RunsKeepRegistries =
    (p : PolicyRules) → IsSound p → (turns : List Taken) (before after : Registry)
    → AreTurns p turns before after
    → IsRegistry p (now p before) → IsRegistry p (now p after)

-- What becomes of money in a run, in the registries that its own turns found and left. In each turn the money of
-- every account follows: that is where automatic renewals alone take a balance below zero. And over all of
-- them no line vanishes, each is given back once at most, lawfully in one of these turns, and debts are bounded.
pub record MoneyFollowsTurns (p : PolicyRules) (turns : List Taken) (before after : Registry) : Type 0 where
  pub each : AreCalls p last_clock (calls_of p turns) before after
  pub together : (r : ℕ) → LinesFollowOver (IsRefundableIn p r (calls_of p turns) before) last_clock (account_of r before).lines (account_of r after).lines

abbrev pub RunsKeepMoney : Type 0
RunsKeepMoney =
    (p : PolicyRules) → IsSound p → (turns : List Taken) (before after : Registry)
    → AreTurns p turns before after
    → IsRegistry p (now p before) → MoneyFollowsTurns p turns (now p before) (now p after)

-- ---- what a registrar is answered

-- Two runs from one registry on, of alike lists, tell the registrar the same.
abbrev pub AlikeRunsTellTheSame : Type 0
AlikeRunsTellTheSame =
    (p : PolicyRules) (r : ℕ) (pairs : List (ℕ × Pair)) (xs ys : List Answer) (s x y : Registry) → AreAlikeInTurn p r none pairs s s
    → IsRun p (firsts pairs) xs s x → IsRun p (seconds pairs) ys s y
    → answers_for r (firsts pairs) xs ≡ answers_for r (seconds pairs) ys

-- And they leave, at any moment, what everybody may look up the same.
abbrev pub AlikeRunsShowTheSame : Type 0
AlikeRunsShowTheSame =
    (p : PolicyRules) (r : ℕ) (pairs : List (ℕ × Pair)) (xs ys : List Answer) (s x y : Registry)
    (moment : ℕ) → AreAlikeInTurn p r none pairs s s
    → IsRun p (firsts pairs) xs s x → IsRun p (seconds pairs) ys s y
    → public_part p (lapsed p moment x) ≡ public_part p (lapsed p moment y)
