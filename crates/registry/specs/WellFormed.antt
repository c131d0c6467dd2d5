-- What the calls of the registry leave is well formed again.
use Rattle.std.specs.Prelude.{◌≡◌, ℕ, true, ◌⊎◌, Some}
use Rattle.model.specs.Lapse.{now}
use Rattle.model.specs.Registry.{Registry}
use Rattle.model.specs.WellFormed.{HasNumbersLeft, IsRegistry}
use Rattle.policy.specs.Rules.{PolicyRules}
use Rattle.policy.specs.Terms.{terms_of}
use Rattle.isolation.specs.Runs.{Question, command, date, inspection, look_up, order}
use Rattle.books.specs.Book.{BookState, Stored, never_opened}

-- A registrar's call on a well formed registry leaves one, where its numbers are far from the greatest.
abbrev pub StaysWellFormed : PolicyRules → ℕ → Registry → Registry → Type 0
StaysWellFormed p r before after =
    IsRegistry p (now p before) → HasNumbersLeft r before → IsRegistry p (now p after)

-- an order on a well formed registry leaves one; it creates nothing
abbrev pub KeepsWellFormed : PolicyRules → Registry → Registry → Type 0
KeepsWellFormed p before after = IsRegistry p (now p before) → IsRegistry p (now p after)

-- a book that was never opened, or holds a well formed registry of a policy under whose terms it
-- was opened
abbrev pub HoldsRegistry : Stored → Type 0
HoldsRegistry held =
    (held ≡ never_opened)
    ⊎ ((q : PolicyRules) × (held.terms ≡ Some (terms_of q)) × IsRegistry q (now q held.registry))

-- such a book, once it is opened under a policy, holds a well formed registry of that policy
abbrev pub OpensWellFormed : PolicyRules → Stored → Stored → Type 0
OpensWellFormed p before after = HoldsRegistry before → IsRegistry p (now p after.registry)

-- ---- of books, if nothing wrong was taken from what keeps them

-- so every call keeps it, a command where its registrar's numbers are far from the greatest
abbrev pub CallKeepsWellFormed : PolicyRules → Question → Registry → Registry → Type 0
CallKeepsWellFormed p (command r c) before after = StaysWellFormed p r before after
CallKeepsWellFormed p (order o) before after = KeepsWellFormed p before after
CallKeepsWellFormed p date before after = KeepsWellFormed p before after
CallKeepsWellFormed p look_up before after = KeepsWellFormed p before after
CallKeepsWellFormed p inspection before after = KeepsWellFormed p before after

abbrev pub BookKeepsWellFormed : PolicyRules → Question → BookState → BookState → Type 0
BookKeepsWellFormed p x old new =
    new.is_clean ≡ true → CallKeepsWellFormed p x old.content.registry new.content.registry

abbrev pub BookOpensWellFormed : PolicyRules → BookState → BookState → Type 0
BookOpensWellFormed p old new = new.is_clean ≡ true → OpensWellFormed p old.content new.content

-- The policy's terms stand in the book. So one of a well formed registry can be opened again: it holds one.
abbrev pub HasTermsOf : PolicyRules → BookState → Type 0
HasTermsOf p state = state.is_clean ≡ true → state.content.terms ≡ Some (terms_of p)
