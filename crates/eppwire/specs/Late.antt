-- What a registrar is sent after the last moment at which calls are taken.
use Rattle.std.specs.Prelude.{◌≡◌, ℕ, ◌<◌, List}
use Rattle.frames.specs.Texts.{failed_text}
use Rattle.policy.specs.Rules.{PolicyRules}
use Rattle.registry.specs.Execution.{IsUnchanged, last_call}
use Rattle.frames.specs.Outcomes.{Outcome, sent}
use Rattle.books.specs.Book.{BookState}
use Rattle.eppwire.specs.Answers.{AnswersRegistrar}

-- Each frame of a registrar that is logged in is sent the fixed text then, a logout and what is no
-- command among them, and nothing is changed.
abbrev pub LateFramesFail : Type 0
LateFramesFail =
    (p : PolicyRules) (r : ℕ) (payload : List ℕ) (moment : ℕ) (old new : BookState) (outcome : Outcome)
    → AnswersRegistrar p r payload moment old outcome new → last_call < moment
    → (sent outcome ≡ failed_text) × IsUnchanged old new
