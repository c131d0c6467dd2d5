-- What the calls of the registry leave of the money of every account.
use Rattle.std.specs.Prelude.{◌≡◌, ℕ, true}
use Rattle.model.specs.Lapse.{now}
use Rattle.model.specs.Money.{MoneyFollows}
use Rattle.model.specs.Registry.{Registry}
use Rattle.model.specs.WellFormed.{IsRegistry}
use Rattle.policy.specs.Rules.{PolicyRules}
use Rattle.isolation.specs.Runs.{Question, command, date, inspection, look_up, order}
use Rattle.books.specs.Book.{BookState}

-- what the registry is now follows from what it was
abbrev pub KeepsMoney : PolicyRules → ℕ → Registry → Registry → Type 0
KeepsMoney p moment before after = MoneyFollows p moment (now p before) (now p after)

-- so every call does, a command where the registry is well formed
abbrev pub CallKeepsMoney : PolicyRules → ℕ → Question → Registry → Registry → Type 0
CallKeepsMoney p moment (command r c) before after =
    IsRegistry p (now p before) → KeepsMoney p moment before after
CallKeepsMoney p moment (order o) before after = KeepsMoney p moment before after
CallKeepsMoney p moment date before after = KeepsMoney p moment before after
CallKeepsMoney p moment look_up before after = KeepsMoney p moment before after
CallKeepsMoney p moment inspection before after = KeepsMoney p moment before after

-- of a book, if nothing wrong was taken from what keeps it
abbrev pub BookKeepsMoney : PolicyRules → ℕ → Question → BookState → BookState → Type 0
BookKeepsMoney p moment x old new =
    new.is_clean ≡ true → CallKeepsMoney p moment x old.content.registry new.content.registry
