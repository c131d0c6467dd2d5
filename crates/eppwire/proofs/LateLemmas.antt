-- Calls are taken up to the last moment of calls.
use Rattle.std.proofs.Common.{◌≡◌, inl, inr, ℕ, ◌<◌, ◌≤◌, ◌↔◌, Bool, true, false, nat_lt, Result, Ok, Err, refl, ap, arith}
use Rattle.std.proofs.lemmas.Bool.Decides.{nat_tests}
use Rattle.eppcommands.specs.Session.{in_session}
use Rattle.frames.specs.{Texts.failed_text, Outcomes.{Outcome, sent}}
use Rattle.policy.specs.Rules.{PolicyRules}
use Rattle.protocol.specs.declared.session.InSession.{InSession, TheVariants.{Hello, Ordinary}}
use Rattle.registry.specs.{Execution.{IsUnchanged, last_call}, declared.fault.Fault.Fault}
use Rattle.registry.specs.declared.fault.Fault.TheVariants as faults
use Rattle.books.specs.Book.{BookState}
use Rattle.eppwire.specs.{Answers.{AnswersSaid, FailsToAnswer}, Late.LateFramesFail}

by_test : (late : Bool) (moment : ℕ) → nat_lt last_call moment ≡ late → (last_call < moment → ⊥) → moment ≤ last_call
by_test false moment is never = grind (arith, nat_tests, is)
by_test true moment is never = let after : last_call < moment = grind (arith, nat_tests, is) in absurd (never after)

never_both : {A : Type 0} {answer : A} → ◌≡◌ {A = Result A Fault} (Ok answer) (Err faults.Moment) → ⊥
never_both both = absurd cc

-- a call that was answered was in time
pub in_time : {A : Type 0} (answer : A) (moment : ℕ) → ((◌≡◌ {A = Result A Fault} (Ok answer) (Err faults.Moment)) ↔ (last_call < moment)) → moment ≤ last_call
in_time answer moment late = by_test (nat_lt last_call moment) moment refl (λ after. never_both (late.1 after))

abbrev IsRefused : BookState → Outcome → BookState → Type 0
IsRefused old outcome new = (sent outcome ≡ failed_text) × IsUnchanged old new

refused : (old new : BookState) (outcome : Outcome) → FailsToAnswer old outcome new → IsRefused old outcome new
refused old new outcome gives = (ap sent gives.0, gives.1)

never : (moment : ℕ) → moment ≤ last_call → last_call < moment → ⊥
never moment early late = omega (arith, early, late)

said_late : (p : PolicyRules) (r : ℕ) (said : InSession) (moment : ℕ) (old new : BookState) (outcome : Outcome) → AnswersSaid p r said moment old outcome new → last_call < moment → IsRefused old outcome new
said_late p r Hello moment old new outcome (inl gives) late = refused old new outcome gives
said_late p r Hello moment old new outcome (inr greeted) late = absurd (never moment greeted.early late)
said_late p r (Ordinary c) moment old new outcome (inl gives) late = refused old new outcome gives
said_late p r (Ordinary c) moment old new outcome (inr served) late = absurd (never moment served.early late)

pub late_frames : LateFramesFail
late_frames p r payload moment old new outcome (inl gives) late = refused old new outcome gives
late_frames p r payload moment old new outcome (inr said) late = said_late p r (in_session payload) moment old new outcome said late
