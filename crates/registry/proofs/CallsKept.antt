-- What every call keeps follows from the question that it answers.
use Rattle.std.proofs.Common.{◌≡◌, ℕ, ◌≤◌, max, true, Result, Ok, Err, IfOk, Some, refl, sym, ap, subst, ◌∙◌, arith}
use Rattle.registry.proofs.Words.{BookFault, BookLeavesSame, BookStarts, BookState, BookStays, Fault, Follows, GivesUpTo, IsRegistrar, IsRegistry}
use Rattle.registry.proofs.Words.{IsSound, KeepsStep, lapsed, lapsed-is-settled, last_clock, LeavesOldOrMade, Makes, Memory, NoRefusal, now}
use Rattle.registry.proofs.{Words.{order_effect, PolicyRules, Registry, Store, Stored, terms_of}, CrashLemmas.{gave_up_by, later}}
use Rattle.model.specs.Money.{MoneyFollows}
use Rattle.isolation.specs.Runs.{Answer, IsCall, Question, command, date, inspection, look_up, order}
use Rattle.isolation.proofs.RunLemmas.{calls-are-steps-of-two}
use Rattle.registry.specs.declared.fault.Fault.TheVariants as faults
use Rattle.registry.specs.{Calls.{CallKeeps, StepKeeps}, Faults.of_book, Money.CallKeepsMoney, WellFormed.CallKeepsWellFormed}
use Rattle.decisions.specs.{Askable.CanBeAsked, Steps.effect}
use Rattle.decisions.proofs.{LapsedLemmas.serial-lapsed, MoneyLaws.{money-effect-now, money-lapsed-now, money-order-now}}
use Rattle.decisions.proofs.RegistryLemmas.{registry-effect, registry-lapsed, registry-now, registry-order}

-- ---- refusals stay counted

pub follows-itself : (s : BookState) → Follows s s
follows-itself s = record { clean = λ clean. clean; counted = omega arith }

pub follows-on : (old mid new : BookState) → Follows old mid → Follows mid new → Follows old new
follows-on old mid new first then = record { clean = λ clean. first.clean (then.clean clean); counted = omega (arith, first.counted, then.counted) }

-- ---- each call

-- who asks is a registrar, and what it asks can be asked
abbrev pub MayAsk : PolicyRules → Question → Type 0
MayAsk p (command r c) = IsRegistrar p r × CanBeAsked c
MayAsk p (order o) = Unit {0}
MayAsk p date = Unit {0}
MayAsk p look_up = Unit {0}
MayAsk p inspection = Unit {0}

module _ (p : PolicyRules) (sound : IsSound p) (moment : ℕ) (early : moment ≤ last_clock) where
  -- what a call finds is well formed
  found : (before : Registry) → IsRegistry p (now p before) → IsRegistry p (lapsed p moment before)
  found before was = registry-lapsed p moment before early was

  -- and so by now is what it leaves, where that is well formed at the moment
  by-now : (u after : Registry) → now p after ≡ now p u → IsRegistry p u → IsRegistry p (now p after)
  by-now u after left is = subst (IsRegistry p) (sym left) (registry-now p u is)

  pub formed : (x : Question) → MayAsk p x → (before after : Registry) (a : Answer) → IsCall p moment x before after a → CallKeepsWellFormed p x before after
  formed (command r c) may before after a is = λ was small.
      let passed : Registry = lapsed p moment before in
      by-now (effect p r c passed) after is.left (registry-effect p sound r c passed may.0 (found before was) (lapsed-is-settled p (max moment before.clock) before)
      (omega (arith, small, serial-lapsed p moment r before)) may.1)
  formed (order o) may before after a is = λ was. by-now (order_effect p o (lapsed p moment before)) after is.left (registry-order p o (lapsed p moment before) (found before was))
  formed date may before after a is = λ was. by-now (lapsed p moment before) after is.left (found before was)
  formed look_up may before after a is = λ was. by-now (lapsed p moment before) after is.left (found before was)
  formed inspection may before after a is = λ was. by-now (lapsed p moment before) after is.left (found before was)

  -- ---- money

  pub paid : (x : Question) (before after : Registry) (a : Answer) → IsCall p moment x before after a → CallKeepsMoney p moment x before after
  paid (command r c) before after a is = λ formed. subst (MoneyFollows p moment (now p before)) (sym is.left) (money-effect-now p moment before sound early formed r c)
  paid (order o) before after a is = subst (MoneyFollows p moment (now p before)) (sym is.left) (money-order-now p moment before o)
  paid date before after a is = subst (MoneyFollows p moment (now p before)) (sym is.left) (money-lapsed-now p moment before)
  paid look_up before after a is = subst (MoneyFollows p moment (now p before)) (sym is.left) (money-lapsed-now p moment before)
  paid inspection before after a is = subst (MoneyFollows p moment (now p before)) (sym is.left) (money-lapsed-now p moment before)

  -- ---- all of it

  pub call_kept : {A : Type 0} (x : Question) → MayAsk p x → (as_answer : A → Answer) (step : Registry → Registry → A → Type 0) (result : Result A Fault) (after : PolicyRules) (old new : BookState)
      → ((it : A) → step old.content.registry new.content.registry it → IsCall p moment x old.content.registry new.content.registry (as_answer it))
      → (old.is_clean ≡ true → old.content.terms ≡ Some (terms_of p)) → StepKeeps p (Makes step) result after old new
      → IfOk result (λ it. new.is_clean ≡ true → step old.content.registry new.content.registry it) → CallKeeps p moment x as_answer (Makes step) result after old new
  call_kept x may as_answer step (Ok it) after old new answers held keeps steps = record {
    policy = keeps.policy;
    follows = keeps.follows;
    crash = keeps.crash;
    answered = record {
      terms = keeps.terms;
      has_terms = λ clean. keeps.terms clean ∙ held (keeps.follows.clean clean);
      well_formed = λ clean. formed x may old.content.registry new.content.registry (as_answer it) (answers it (steps clean));
      money = λ clean. paid x old.content.registry new.content.registry (as_answer it) (answers it (steps clean));
      two_runs = λ clean. let is = answers it (steps clean) in calls-are-steps-of-two p moment x old.content.registry new.content.registry (as_answer it) is.answered is.left;
    };
  }
  call_kept x may as_answer step (Err fault) after old new answers held keeps steps = record { policy = keeps.policy; follows = keeps.follows; crash = keeps.crash; answered = tt }

-- one that comes too late does nothing
pub kept_late : {A : Type 0} (p : PolicyRules) (moment : ℕ) (x : Question) (as_answer : A → Answer) (makes : Stored → Stored → Type 0) (s : BookState) → CallKeeps p moment x as_answer makes (Err faults.Moment) p s s
kept_late p moment x as_answer makes s = record { policy = refl; follows = follows-itself s; crash = (λ left may. may, refl); answered = tt }

-- ---- a call inside

pub begun : (old mid : BookState) → NoRefusal old mid → BookStays old mid → Follows old mid
begun old mid counted stays = record { clean = stays.clean; counted = omega (arith, counted) }

-- a transaction was begun, and a step was taken in it and kept
pub step_kept : {A : Type 0} (p : PolicyRules) (step : Registry → Registry → A → Type 0) (it : A)
    (old mid new : BookState) → BookStarts old mid × BookStays old mid → KeepsStep (Ok it) step mid new
    → StepKeeps p (Makes step) (Ok it) p old new
step_kept p step it old mid new begins keeps = record {
  policy = refl;
  follows = follows-on old mid new (begun old mid begins.0.counted begins.1) keeps.0.follows;
  crash = keeps.0.alone;
  terms = λ clean. keeps.0.terms clean
      ∙ ap (λ (held : Stored). held.terms) (begins.0.content (keeps.0.follows.clean clean));
}

-- or it went back
pub step_went_back : {A : Type 0} (p : PolicyRules) (step : Registry → Registry → A → Type 0)
    (fault : BookFault) (old mid new : BookState)
    → BookStarts old mid × BookStays old mid → KeepsStep {A = A} (Err fault) step mid new
    → StepKeeps {A = A} p (Makes step) (Err (of_book fault)) p old new
step_went_back p step fault old mid new begins keeps =
    let follows : Follows old mid = begun old mid begins.0.counted begins.1 in
    let left = later (Makes step) old mid new follows begins.1.leaves begins.0.content keeps.1.1.0
    in
    record {
      policy = refl;
      follows = follows-on old mid new follows keeps.1.0;
      crash = (by fault left, keeps.1.1.1 ∙ begins.1.leaves.ready);
      terms = tt;
    }
  where
    by : (fault : BookFault) → LeavesOldOrMade (Makes step) old new
        → GivesUpTo (of_book fault) (Makes step) old new
    by Memory left = left
    by Store left = left

-- or it couldn't be begun
pub step_gave_up : {A : Type 0} (p : PolicyRules) (makes : Stored → Stored → Type 0) (fault : Fault) (old new : BookState)
    → Follows old new → BookLeavesSame old new → StepKeeps {A = A} p makes (Err fault) p old new
step_gave_up p makes fault old new follows same = record { policy = refl; follows = follows; crash = (gave_up_by fault makes old new same, same.ready); terms = tt }
