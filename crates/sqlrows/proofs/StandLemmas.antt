-- What a call that fails leaves.
use Rattle.std.proofs.Common.{cond, OnErr, ◌≡◌, inl, inr, ℕ, Bool, true, false, List, Option, Result, Ok, Err, sym, ap, ◌∙◌, subst, MatchBool, true≢false}
use Rattle.sqlrows.proofs.Words.{Command, command_of, Compiled, CreateIndex, CreateTable, Delete, Error, Executes, Insert, InsertOr, never_commits}
use Rattle.sqlrows.proofs.Words.{Returning, Row, Shows, shows_rows, State, StaysOpen, StaysOrUndoes, Survives, survives_weaker, text_of, Trees}
use Rattle.sqlrows.proofs.Words.{understood, Update, writes_tables}
use Rattle.sqlite.specs.Given.{IsPlain}
use Rattle.sqlite.specs.State.{IsUnchanged, ExecutesIn, IsNotRun, RunsCommand, FailsToQuery, FailsToShow, Shown, ShowsRows, CommitsShowing, CommitsBy, Runs}

pub not_run : (old new : State) (sql : List ℕ) (params : Row) (e : Error) → IsNotRun old new sql params e → StaysOrUndoes old new
unfolding IsNotRun
not_run old new sql params e (inl it) = inl it.1
not_run old new sql params e (inr it) = inr it.3

pub stopped : (old new : State) (sql : List ℕ) (c : Compiled) (params : Row) (e : Error) → RunsCommand old new sql c params (Err e) → StaysOrUndoes old new
stopped old new sql c params e (inl it) = inl it.1
stopped old new sql c params e (inr it) = inr it.3

stopped_alone : (A B : Type 0) (shows : Bool) (old new : State) → (B → StaysOrUndoes old new) → MatchBool shows (A × IsUnchanged old new) B → StaysOrUndoes old new
stopped_alone A B true old new other it = inl it.1
stopped_alone A B false old new other it = other it

pub stands_if_not_executed : (sql : List ℕ) (params : Row) (old new : State) (e : Error) → Executes sql params old new (Err e) → StaysOrUndoes old new
unfolding ExecutesIn
stands_if_not_executed sql params old new e (inl it) = not_run old new sql params e it
stands_if_not_executed sql params old new e (inr it) = stopped_alone _ _ (shows_rows false it.0) old new (stopped old new sql it.0 _ e) it.2

pub stands_if_not_shown : (sql : List ℕ) (params : Row) (old new : State) (e : Error) → IsPlain (understood old.now.schema sql) → FailsToQuery sql params old new e → StaysOrUndoes old new
unfolding FailsToQuery
stands_if_not_shown sql params old new e plain (inl it) = not_run old new sql params e it
stands_if_not_shown sql params old new e plain (inr it) =
    let none = (subst IsPlain it.1.is plain).0 in
    inl (subst (FailsToShow old new sql it.0 _ e) none it.2).3

pub same_if_shown : (sql : List ℕ) (params : Row) (old new : State) (rows : List Row) → IsPlain (understood old.now.schema sql) → Shown sql params old new rows → IsUnchanged old new
unfolding Shown
same_if_shown sql params old new rows plain it =
    let none = (subst IsPlain it.1.is plain).0 in
    (subst (ShowsRows old new sql it.0 _ rows) none it.2).3

pub commits_nothing : (sql : List ℕ) (params : Row) (old new : State) → IsPlain (understood old.now.schema sql) → Survives old new (CommitsShowing sql params old) → Survives old new (λ _. ⊥)
commits_nothing sql params old new plain = survives_weaker old new _ _ (λ _ db. never_commits sql params old db plain)

pub commits_later : (sql : List ℕ) (params : Row) (old new : State) → writes_tables (command_of (understood old.now.schema sql)) ≡ true → old.in_transaction ≡ true → Survives old new (CommitsBy sql params old)
    → Survives old new (λ _. ⊥)
unfolding CommitsBy
commits_later sql params old new writes inside = survives_weaker old new _ _ (λ _ db. none db)
  where
    none : (db : Trees) → CommitsBy sql params old db → ⊥
    none db it =
        let c : Compiled = it.0 in
        let kind : writes_tables c.command ≡ true = subst (λ r. writes_tables (command_of r) ≡ true) it.1.is writes in
        elim it.2 [
          | inl ends ↦ elim ends.0 [ inl is ↦ true≢false (sym kind ∙ ap writes_tables is) | inr is ↦ true≢false (sym kind ∙ ap writes_tables is.2) ]
          | inr alone ↦ true≢false (sym inside ∙ alone.0)
        ]

pub on_err_always : {T E : Type 0} {P : Type 0} (r : Result T E) → P → OnErr r P
on_err_always (Ok x) h = tt
on_err_always (Err e) h = h

stays_by : (old new : State) (returning : Option Returning) (command : Command) (text : List ℕ) (params : Row) (count : ℕ) → writes_tables command ≡ true → old.in_transaction ≡ true
    → Runs old new returning command text params count → StaysOpen old new
stays_by old new returning (Insert at from) text params count kind inside w = record { shown = subst (λ b. Shows old new new.now (cond b old.committed new.now) b) inside w.shown; marks = w.marks }
stays_by old new returning (InsertOr at way from clauses) text params count kind inside w = record { shown = subst (λ b. Shows old new new.now (cond b old.committed new.now) b) inside w.shown; marks = w.marks }
stays_by old new returning (Update at q) text params count kind inside w = record { shown = subst (λ b. Shows old new new.now (cond b old.committed new.now) b) inside w.shown; marks = w.marks }
stays_by old new returning (Delete at q) text params count kind inside w = record { shown = subst (λ b. Shows old new new.now (cond b old.committed new.now) b) inside w.shown; marks = w.marks }
stays_by old new returning CreateTable text params count kind inside w = record { shown = subst (λ b. Shows old new new.now (cond b old.committed new.now) b) inside w.shown; marks = w.marks }
stays_by old new returning (CreateIndex at) text params count kind inside w = record { shown = subst (λ b. Shows old new new.now (cond b old.committed new.now) b) inside w.shown; marks = w.marks }
stays_by old new returning _ text params count kind inside w = absurd (true≢false (sym kind))

pub ran_alone : (A B : Type 0) (shows : Bool) → (A → ⊥) → MatchBool shows A B → B
ran_alone A B true none it = absurd (none it)
ran_alone A B false none it = it

pub stays_if_executed : (sql : List ℕ) (params : Row) (old new : State) (count : ℕ) → writes_tables (command_of (understood old.now.schema sql)) ≡ true → old.in_transaction ≡ true
    → Executes sql params old new (Ok count) → StaysOpen old new
unfolding ExecutesIn
stays_if_executed sql params old new count writes inside it =
    let c : Compiled = it.0 in
    let kind : writes_tables c.command ≡ true = subst (λ r. writes_tables (command_of r) ≡ true) it.1.is writes in
    stays_by old new c.returning c.command (text_of sql c) _ count kind inside (ran_alone _ _ (shows_rows false c) (λ shows. let e = shows.0 in cc) it.2)
