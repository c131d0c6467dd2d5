-- Transactions, as texts begin and end them.
use Rattle.std.specs.Prelude.{ℕ, true, false, List, codes, Result, MatchResult}
use Rattle.sqlite.specs.declared.error.Error.{Error}
use Rattle.sqlite.specs.State.{State, IsRolledBack, Shows}

abbrev pub begin_text : List ℕ
begin_text = codes "BEGIN"

abbrev pub commit_text : List ℕ
commit_text = codes "COMMIT"

abbrev pub back_text : List ℕ
back_text = codes "ROLLBACK"

-- a transaction is open, and nothing is written yet; after an error none is open
abbrev pub Begins : State → State → Result (Unit {0}) Error → Type 0
Begins old new result =
    MatchResult result (λ _. Shows old new old.now old.committed true) (λ _. IsRolledBack old new)

-- what was written is what is committed; after an error all is as it was when the transaction began
abbrev pub Commits : State → State → Result (Unit {0}) Error → Type 0
Commits old new result =
    MatchResult result (λ _. Shows old new old.now old.now false) (λ _. IsRolledBack old new)
