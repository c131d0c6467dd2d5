-- BEGIN, COMMIT and ROLLBACK as text.
use Rattle.std.proofs.Common.{◌≡◌, ◌≤◌, inl, inr, ℕ, Bool, true, false, List, [], length, Option, Some, None, Result, Ok, Err, refl, sym, ap, ◌∙◌, subst, MatchBool, true≢false, IsSome, ◌||◌, lit≤}
use Rattle.sqlrows.proofs.Words.{Begin, Command, command_of, Commit, Compiled, CompileError, Database, Does, Error, Executes, is_query, IsRolledBack}
use Rattle.sqlrows.proofs.Words.{mode_of, Returning, Rollback, Row, Schema, shows_rows, State, Survives, survives_weaker, Tally, text_of, Trees}
use Rattle.sqlite_tied.specs.Compute.{everything}
use Rattle.sqlite.specs.{Calls.IsWrite, Clock.timed, declared.{run.Mode.Mode, error.Error.TheVariants.ExecuteReturnedResults}}
use Rattle.sqlite.specs.{Given.IsPlain, Listing.understood}
use Rattle.sqlite.specs.State.{IsUnchanged, ExecutesIn, IsNotRun, IsNoStatement, RunsCommand, IsMisplaced, CommitsBy, is_pragma}
use Rattle.sqlrows.specs.inner.Transactions.{begin_text, commit_text, back_text}

-- the text is one statement with no parameter, which does not read the time
abbrev pub IsConsistent : List ℕ → Result Compiled CompileError → Type 0
IsConsistent sql (Ok c) = (length sql ≤ c.tail) × (length c.names ≡ 0) × (c.formats ≡ [])
IsConsistent sql (Err e) = ⊥

pub record IsSwitch (schema : Schema) (sql : List ℕ) (command : Command) : Type 0 where
  pub command_is : command_of (understood schema sql) ≡ command
  pub plain : IsPlain (understood schema sql)
  pub as_written : IsConsistent sql (understood schema sql)

-- whatever the schema is
pub begin_is : (schema : Schema) → IsSwitch schema begin_text Begin
unfolding understood everything
begin_is schema = record { command_is = refl; plain = (refl, refl); as_written = (lit≤ tt, refl, refl) }

-- whatever the schema is
pub commit_is : (schema : Schema) → IsSwitch schema commit_text Commit
unfolding understood everything
commit_is schema = record { command_is = refl; plain = (refl, refl); as_written = (lit≤ tt, refl, refl) }

-- whatever the schema is
pub back_is : (schema : Schema) → IsSwitch schema back_text Rollback
unfolding understood everything
back_is schema = record { command_is = refl; plain = (refl, refl); as_written = (lit≤ tt, refl, refl) }

abbrev pub is_switch : Command → Bool
is_switch Begin = true
is_switch Commit = true
is_switch Rollback = true
is_switch _ = false

not_written : (c : Command) → is_switch c ≡ true → IsWrite c → ⊥
not_written Begin kind h = h
not_written Commit kind h = h
not_written Rollback kind h = h
not_written _ kind h = true≢false (sym kind)

none_shown : (o : Option Returning) → o ≡ None → IsSome o → ⊥
none_shown None is h = true≢false (sym h)
none_shown (Some what) is h = absurd cc

not_shown : (k : Command) → is_switch k ≡ true → (is_query k || (is_pragma k || false)) ≡ false
not_shown Begin kind = refl
not_shown Commit kind = refl
not_shown Rollback kind = refl
not_shown _ kind = absurd (true≢false (sym kind))

no_rows : (c : Compiled) → is_switch c.command ≡ true → c.returning ≡ None → shows_rows false c ≡ false
no_rows c kind none = rw none (not_shown c.command kind)

does_nothing : (k : Command) → is_switch k ≡ true → (limit : Option ℕ) (mode : Mode) (params : Row) (db : Database) (text : List ℕ) (out : Tally × Database) → Does limit mode params db text None k (Ok out) → ⊥
does_nothing Begin kind limit mode params db text out h = cc
does_nothing Commit kind limit mode params db text out h = cc
does_nothing Rollback kind limit mode params db text out h = cc
does_nothing _ kind limit mode params db text out h = true≢false (sym kind)

module _ (sql : List ℕ) (old new : State) (schema : Schema) (has : old.now.schema ≡ schema) (command : Command) (is : IsSwitch schema sql command) (kind : is_switch command ≡ true) where
  known : (c : Compiled) → understood old.now.schema sql ≡ Ok c → (c.command ≡ command) × IsPlain (Ok c) × IsConsistent sql (Ok c)
  known c made =
      let same : understood schema sql ≡ Ok c = ap (λ s. understood s sql) (sym has) ∙ made in
      (sym (ap command_of same) ∙ is.command_is, subst IsPlain same is.plain, subst (IsConsistent sql) same is.as_written)

  is_statement : (e : Error) → ¬ (IsNoStatement old sql [] e)
  is_statement e (inl bad) = subst (IsConsistent sql) (ap (λ x. understood x sql) (sym has) ∙ bad.1) is.as_written
  is_statement e (inr it) =
      let facts = known it.0 it.1 in
      elim it.2 [
        | inl short ↦ short.0 facts.2.0
        | inr more ↦ elim more [ inl count ↦ count.0 (sym facts.2.1) | inr times ↦ times.0 facts.2.2 ]
      ]

  -- an error undoes the transaction, unless the command stands in the wrong place
  pub undone : (e : Error) → ¬ (IsMisplaced old command e) → Executes sql [] old new (Err e) → IsRolledBack old new
  unfolding ExecutesIn IsNotRun
  undone e placed (inl (inl it)) = absurd (is_statement e it.0)
  undone e placed (inl (inr it)) = it.3
  undone e placed (inr it) =
      let c : Compiled = it.0 in
      let facts = known c it.1.is in
      let switches : is_switch c.command ≡ true = ap is_switch facts.0 ∙ kind in
      let alone : RunsCommand old new sql c (timed [] c.formats it.1.now) (Err e) = subst (λ b. MatchBool b ((◌≡◌ {A = Result ℕ Error} (Err e) (Err ExecuteReturnedResults)) × IsUnchanged old new) (RunsCommand old new sql c (timed [] c.formats it.1.now) (Err e))) (no_rows c switches facts.1.0) it.2 in
      elim alone [
        | inl stays ↦ elim stays.0 [
          | inl misplaced ↦ absurd (placed (subst (λ k. IsMisplaced old k e) facts.0 misplaced))
          | inr changing ↦ absurd (elim changing.0 [ inl writes ↦ not_written c.command switches writes | inr shows ↦ none_shown c.returning facts.1.0 shows ])
        ]
        | inr fails ↦ fails.3
      ]

  -- only COMMIT commits
  pub commits : Survives old new (CommitsBy sql [] old) → Survives old new (λ db. (command ≡ Commit) × (db ≡ old.now.trees))
  unfolding CommitsBy
  commits = survives_weaker old new _ _ (λ _ db. only db)
    where
      only : (db : Trees) → CommitsBy sql [] old db → (command ≡ Commit) × (db ≡ old.now.trees)
      only db it =
          let c : Compiled = it.0 in
          let facts = known c it.1.is in
          elim it.2 [
            | inl ends ↦ elim ends.0 [
              | inl is_commit ↦ (sym facts.0 ∙ is_commit, ends.1)
              | inr releases ↦ absurd (true≢false (sym kind ∙ ap is_switch (sym facts.0 ∙ releases.2)))
            ]
            | inr alone ↦ absurd (does_nothing c.command (ap is_switch facts.0 ∙ kind) old.step_limit (mode_of old) (timed [] c.formats it.1.now) old.now (text_of sql c) (alone.1, alone.2)
                (subst (λ o. Does old.step_limit (mode_of old) (timed [] c.formats it.1.now) old.now (text_of sql c) o c.command (Ok (alone.1, alone.2))) facts.1.0 alone.3))
          ]

-- BEGIN outside a transaction, and COMMIT and ROLLBACK inside, are in place
pub begin_in_place : (s : State) (e : Error) → s.in_transaction ≡ false → ¬ (IsMisplaced s Begin e)
begin_in_place s e outside (inl it) = elim it.1 [ inl begins ↦ true≢false (sym begins.1 ∙ outside) | inr ends ↦ elim ends.0 [ inl h ↦ absurd cc | inr h ↦ absurd cc ] ]
begin_in_place s e outside (inr it) = elim it.2 [ inl h ↦ absurd cc | inr h ↦ absurd cc ]

pub commit_in_place : (s : State) (e : Error) → s.in_transaction ≡ true → ¬ (IsMisplaced s Commit e)
commit_in_place s e inside (inl it) = elim it.1 [ inl begins ↦ absurd (let h = begins.0 in cc) | inr ends ↦ true≢false (sym inside ∙ ends.1) ]
commit_in_place s e inside (inr it) = elim it.2 [ inl h ↦ absurd cc | inr h ↦ absurd cc ]

pub back_in_place : (s : State) (e : Error) → s.in_transaction ≡ true → ¬ (IsMisplaced s Rollback e)
back_in_place s e inside (inl it) = elim it.1 [ inl begins ↦ absurd (let h = begins.0 in cc) | inr ends ↦ true≢false (sym inside ∙ ends.1) ]
back_in_place s e inside (inr it) = elim it.2 [ inl h ↦ absurd cc | inr h ↦ absurd cc ]
