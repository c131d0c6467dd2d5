-- What BEGIN, COMMIT and ROLLBACK do to a connection, whatever its schema is.
use Rattle.std.proofs.Common.{◌≡◌, ℕ, true, false, [], Result, Ok, Err, refl, ◌∙◌, MatchResult}
use Rattle.sqlrows.proofs.Words.{Begin, Commit, CommitsBy, Error, Executes, IsRolledBack, Rollback, runs_as, Shows, State, Survives, survives_weaker}
use Rattle.sqlrows.proofs.{Words.understood, SelectLemmas.same_command}
use Rattle.sqlrows.proofs.SwitchLemmas.{begin_is, commit_is, back_is, undone, commits, begin_in_place, commit_in_place, back_in_place}
use Rattle.sqlrows.specs.inner.Transactions.{begin_text, commit_text, back_text}

module _ (old new : State) where
  pub began : (r : Result ℕ Error) → old.in_transaction ≡ false → Executes begin_text [] old new r → MatchResult r (λ _. Shows old new old.now old.committed true) (λ _. IsRolledBack old new)
  began (Ok count) outside ran = (runs_as begin_text [] old new old.now.schema refl Begin (same_command (understood old.now.schema begin_text) ∙ (begin_is old.now.schema).command_is) (begin_is old.now.schema).plain count ran).1
  began (Err e) outside ran = undone begin_text old new old.now.schema refl Begin (begin_is old.now.schema) refl e (begin_in_place old e outside) ran

  pub ended : (r : Result ℕ Error) → old.in_transaction ≡ true → Executes commit_text [] old new r → MatchResult r (λ _. Shows old new old.now old.now false) (λ _. IsRolledBack old new)
  ended (Ok count) inside ran = (runs_as commit_text [] old new old.now.schema refl Commit (same_command (understood old.now.schema commit_text) ∙ (commit_is old.now.schema).command_is) (commit_is old.now.schema).plain count ran).1
  ended (Err e) inside ran = undone commit_text old new old.now.schema refl Commit (commit_is old.now.schema) refl e (commit_in_place old e inside) ran

  pub went_back : (r : Result ℕ Error) → old.in_transaction ≡ true → Executes back_text [] old new r → IsRolledBack old new
  went_back (Ok count) inside ran = (runs_as back_text [] old new old.now.schema refl Rollback (same_command (understood old.now.schema back_text) ∙ (back_is old.now.schema).command_is) (back_is old.now.schema).plain count ran).1
  went_back (Err e) inside ran = undone back_text old new old.now.schema refl Rollback (back_is old.now.schema) refl e (back_in_place old e inside) ran

  pub begin_leaves : Survives old new (CommitsBy begin_text [] old) → Survives old new (λ _. ⊥)
  begin_leaves it = survives_weaker old new _ _ (λ _ db is. absurd (let e = is.0 in cc)) (commits begin_text old new old.now.schema refl Begin (begin_is old.now.schema) refl it)

  pub commit_leaves : Survives old new (CommitsBy commit_text [] old) → Survives old new (λ db. db ≡ old.now.trees)
  commit_leaves it = survives_weaker old new _ _ (λ _ db is. is.1) (commits commit_text old new old.now.schema refl Commit (commit_is old.now.schema) refl it)

  pub back_leaves : Survives old new (CommitsBy back_text [] old) → Survives old new (λ _. ⊥)
  back_leaves it = survives_weaker old new _ _ (λ _ db is. absurd (let e = is.0 in cc)) (commits back_text old new old.now.schema refl Rollback (back_is old.now.schema) refl it)
