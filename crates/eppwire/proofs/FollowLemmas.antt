-- Whatever a frame is answered, what was taken wrongly before isn't forgotten.
use Rattle.std.proofs.Common.{◌≡◌, inl, inr, ℕ, List, Option, Some, None, sym, subst}
use Rattle.eppcommands.specs.Session.{before_login, in_session}
use Rattle.policy.specs.Rules.{PolicyRules}
use Rattle.protocol.specs.declared.session.BeforeLogin.{BeforeLogin}
use Rattle.protocol.specs.declared.session.InSession.{InSession}
use Rattle.protocol.specs.declared.session.BeforeLogin.TheVariants as before
use Rattle.protocol.specs.declared.session.InSession.TheVariants as within
use Rattle.frames.specs.Outcomes.{Outcome}
use Rattle.books.specs.Book.{BookState, Follows}
use Rattle.eppwire.specs.Answers.{Answers, AnswersHello, AnswersSaidBeforeLogin, AnswersSaid}
pub use Rattle.registry.proofs.CallsKept.{follows-itself, follows-on}

pub same_follows : (old new : BookState) → new ≡ old → Follows old new
same_follows old new same = subst (λ (state : BookState). Follows old state) (sym same) (follows-itself old)

hello_follows : (p : PolicyRules) (moment : ℕ) (old : BookState) (outcome : Outcome) (new : BookState) → AnswersHello p moment old outcome new → Follows old new
hello_follows p moment old outcome new (inl gives) = gives.2
hello_follows p moment old outcome new (inr greeted) = greeted.follows

said_follows : (p : PolicyRules) (r : ℕ) (said : InSession) (moment : ℕ) (old : BookState) (outcome : Outcome) (new : BookState) → AnswersSaid p r said moment old outcome new → Follows old new
said_follows p r within.Hello moment old outcome new answers = hello_follows p moment old outcome new answers
said_follows p r (within.Ordinary c) moment old outcome new (inl gives) = gives.2
said_follows p r (within.Ordinary c) moment old outcome new (inr served) = served.follows

opening_follows : (p : PolicyRules) (passwords : List (List ℕ)) (said : BeforeLogin) (moment : ℕ) (old : BookState) (outcome : Outcome) (new : BookState) (caller : Option ℕ) → AnswersSaidBeforeLogin p passwords said moment old outcome new caller → Follows old new
opening_follows p passwords before.Hello moment old outcome new caller answers = hello_follows p moment old outcome new answers.0
opening_follows p passwords (before.Login cl_trid c) moment old outcome new caller answers = same_follows old new answers.1
opening_follows p passwords (before.Refused cl_trid fault) moment old outcome new caller answers = same_follows old new answers.1

pub answers_follow : (p : PolicyRules) (passwords : List (List ℕ)) (caller : Option ℕ) (payload : List ℕ) (moment : ℕ) (old : BookState) (outcome : Outcome) (new : BookState) (later : Option ℕ) → Answers p passwords caller payload moment old outcome new later → Follows old new
answers_follow p passwords None payload moment old outcome new later (inl gives) = gives.0.2
answers_follow p passwords None payload moment old outcome new later (inr opening) = opening_follows p passwords (before_login payload) moment old outcome new later opening
answers_follow p passwords (Some r) payload moment old outcome new later (inl gives, same) = gives.2
answers_follow p passwords (Some r) payload moment old outcome new later (inr said, same) = said_follows p r (in_session payload) moment old outcome new said
