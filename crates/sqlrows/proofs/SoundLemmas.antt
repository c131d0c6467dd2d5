-- A connection that is open and clean after a call was so before it.
use Rattle.std.proofs.Common.{inl, inr, ℕ, false, List, Option, Some, None, Result, Ok, Err, IsTrue}
use Rattle.sqlrows.proofs.Words.{Begin, Command, Commit, Compiled, CreateIndex, CreateTable, Delete, Error, Executes, ForgetsNoFault, Insert}
use Rattle.sqlrows.proofs.Words.{InsertOr, Returning, Rollback, Row, shows_rows, State, StaysOrUndoes, Survives, survives_weaker, text_of, Trees}
use Rattle.sqlrows.proofs.{Words.Update, StandLemmas.{stands_if_not_executed, ran_alone, not_run, stopped}}
use Rattle.sqlite_schema.specs.declared.command.Command.TheVariants.{Select, DropTable, DropIndex, Savepoint as Save, Release, RollbackTo, Nothing, CreateView, DropView, Rows}
use Rattle.std.specs.Prelude.{⊤}
use Rattle.sqlite.specs.State.{ExecutesIn, Runs, Shown, ShowsRows, FailsToQuery, FailsToShow}

pub was_open : (old new : State) → StaysOrUndoes old new → IsTrue new.is_open → IsTrue old.is_open
was_open old new (inl same) is_open = same.0.was_open
was_open old new (inr back) is_open = back.was_open is_open

ran_open : (old new : State) (returning : Option Returning) (command : Command) (text : List ℕ) (params : Row) (count : ℕ) → Runs old new returning command text params count → IsTrue new.is_open → IsTrue old.is_open
ran_open old new ret (Select q names) text params count h o = absurd h
ran_open old new ret (Insert at from) text params count h o = h.shown.was_open
ran_open old new ret (InsertOr at way from clauses) text params count h o = h.shown.was_open
ran_open old new ret (Update at q) text params count h o = h.shown.was_open
ran_open old new ret (Delete at q) text params count h o = h.shown.was_open
ran_open old new ret CreateTable text params count h o = h.shown.was_open
ran_open old new ret (CreateIndex at) text params count h o = h.shown.was_open
ran_open old new ret (DropTable at) text params count h o = h.shown.was_open
ran_open old new ret (DropIndex at) text params count h o = h.shown.was_open
ran_open old new ret Begin text params count h o = h.1.was_open
ran_open old new ret Commit text params count h o = h.1.was_open
ran_open old new ret Rollback text params count h o = h.1.was_open o
ran_open old new ret (Save name) text params count h o = h.0.0.was_open
ran_open old new ret (Release name) text params count h o = elim h.2 [ inl ends ↦ ends.1.0.was_open | inr drops ↦ drops.1.0.was_open ]
ran_open old new ret (RollbackTo name) text params count h o = h.2.2.was_open
ran_open old new ret (Rows values width names) text params count h o = h.0.0.was_open
ran_open old new ret Nothing text params count h o = h.0.0.was_open
ran_open old new ret CreateView text params count h o = h.shown.was_open
ran_open old new ret (DropView at) text params count h o = h.shown.was_open

pub executed_open : (sql : List ℕ) (params : Row) (old new : State) (r : Result ℕ Error) → Executes sql params old new r → IsTrue new.is_open → IsTrue old.is_open
unfolding ExecutesIn
executed_open sql params old new (Ok count) it is_open =
    let c : Compiled = it.0 in
    ran_open old new c.returning c.command (text_of sql c) _ count (ran_alone _ _ (shows_rows false c) (λ shows. let e = shows.0 in cc) it.2) is_open
executed_open sql params old new (Err e) it is_open = was_open old new (stands_if_not_executed sql params old new e it) is_open

shown_open : (old new : State) (sql : List ℕ) (c : Compiled) (params : Row) (rows : List Row) (o : Option Returning) → ShowsRows old new sql c params rows o → IsTrue old.is_open
shown_open old new sql c params rows None it = it.3.0.was_open
shown_open old new sql c params rows (Some what) it = it.1.shown.was_open

pub queried_open : (sql : List ℕ) (params : Row) (old new : State) (rows : List Row) → Shown sql params old new rows → IsTrue old.is_open
unfolding Shown
queried_open sql params old new rows it = shown_open old new sql it.0 _ rows it.0.returning it.2

not_shown_open : (old new : State) (sql : List ℕ) (c : Compiled) (params : Row) (e : Error) (o : Option Returning) → FailsToShow old new sql c params e o → IsTrue new.is_open → IsTrue old.is_open
not_shown_open old new sql c params e None it is_open = it.3.0.was_open
not_shown_open old new sql c params e (Some what) it is_open = was_open old new (stopped old new sql c params e it) is_open

pub not_queried_open : (sql : List ℕ) (params : Row) (old new : State) (e : Error) → FailsToQuery sql params old new e → IsTrue new.is_open → IsTrue old.is_open
unfolding FailsToQuery
not_queried_open sql params old new e (inl it) is_open = was_open old new (not_run old new sql params e it) is_open
not_queried_open sql params old new e (inr it) is_open = not_shown_open old new sql it.0 _ e it.0.returning it.2 is_open

pub steady : (old new : State) (P : Trees → Type 0) → Survives old new P → ForgetsNoFault old new
steady old new P it = survives_weaker old new P (λ _. ⊤) (λ _ db _. tt) it
