-- What the calls of the registry tell and leave in two runs that are alike for a registrar.
use Rattle.std.specs.Prelude.{◌≡◌, ℕ, true}
use Rattle.policy.specs.Rules.{PolicyRules}
use Rattle.isolation.specs.Laws.{IsStepOfTwo, TellsAlike}
use Rattle.isolation.specs.Runs.{Answer, Question}
use Rattle.books.specs.Book.{BookState}

-- a call is a step of two runs, if nothing wrong was taken from what keeps the book
abbrev pub StepsOfTwo : PolicyRules → ℕ → Question → Answer → BookState → BookState → Type 0
StepsOfTwo p moment x a old new =
    new.is_clean ≡ true → IsStepOfTwo p moment x old.content.registry new.content.registry a

-- from what a book holds on, alike lists tell each registrar the same
abbrev pub BookTellsAlike : PolicyRules → BookState → Type 0
BookTellsAlike p state = state.is_clean ≡ true → TellsAlike p state.content.registry
