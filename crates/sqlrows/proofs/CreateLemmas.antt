-- What CREATE TABLE and CREATE INDEX do.
use Rattle.std.proofs.Common.{◌≡◌, inl, inr, ℕ, List, [], ◌∷◌, ◌++◌, false, true, None, Ok, Err, Result, refl, sym, ap, ◌∙◌, subst}
use Rattle.sqlrows.proofs.Words.{AllByRecursion, command_of, Compiled, CompileError, CreateIndex, CreateTable, Database, Defines, Does, Executes}
use Rattle.sqlrows.proofs.Words.{IsBlank, IsIndex, lacks_sequence, mode_of, runs_as, Schema, State, statement_of, Table, Tally, Trees, understood}
use Rattle.sqlrows.proofs.{Words.writes_tables, SelectLemmas.same_command, WriteLemmas.{went, same_value, left}}
use Rattle.sqlite_schema.specs.declared.schema.Index.{Index}
use Rattle.sqlite_catalog.specs.Change.{created, indexed, next_tree, KeepsRows}
use Rattle.sqlite.specs.State.{Writes}
use Rattle.sqlite.proofs.Callers as callers
use Rattle.sqlrows.specs.inner.Definitions.{IsTable}

same_statement : (sql : List ℕ) (r : Result Compiled CompileError) → callers.statement_of sql r ≡ statement_of sql r
same_statement sql (Ok c) = refl
same_statement sql (Err e) = refl

module _ (schema : Schema) (text : List ℕ) (old new : State) (count : ℕ) (has : old.now.schema ≡ schema) where
  creates : (table : Table) → IsTable schema text table → Executes text [] old new (Ok count)
      → (new.now.schema ≡ created schema table) × (new.now.trees (next_tree schema) ≡ []) × KeepsRows schema.tables old.now.trees new.now.trees
  creates table is ran =
      let w = subst (λ t. Writes old new None CreateTable t [] count) (same_statement text (understood schema text) ∙ is.as_written) (runs_as text [] old new schema has CreateTable (same_command (understood schema text) ∙ is.command) is.plain count ran) in
      let all = went w.changed in
      let first = went all.1 in
      let made = first.1 in
      let both : ◌≡◌ {A = Result Table _} (Ok made.table) (Ok table) = sym made.defined ∙ is.defined in
      let same : made.table ≡ table = same_value both in
      let after : first.0.schema ≡ created schema table = made.is ∙ ap (λ s. created s made.table) has ∙ ap (created schema) same in
      let plain : lacks_sequence first.0.schema ≡ false = ap lacks_sequence after ∙ is.uncounted in
      let now : new.now ≡ first.0 = ap (λ (p : Tally × Database). p.1) (same_value all.2) ∙ same_value (rw plain at first.2) in (
        ap (λ (d : Database). d.schema) now ∙ after,
        ap (λ (d : Database). d.trees (next_tree schema)) now ∙ subst (λ s. first.0.trees (next_tree s) ≡ []) has made.empty,
        subst (λ (d : Database). KeepsRows schema.tables old.now.trees d.trees) (sym now) (subst (λ s. KeepsRows s.tables old.now.trees first.0.trees) has made.others),
      )

  indexes : (at : ℕ) (table : Table) (index : Index) → IsIndex schema text at table index → Executes text [] old new (Ok count)
      → (new.now.schema ≡ indexed schema table index) × KeepsRows schema.tables old.now.trees new.now.trees
  indexes at table index is ran =
      let w = subst (λ t. Writes old new None (CreateIndex at) t [] count) (same_statement text (understood schema text) ∙ is.as_written) (runs_as text [] old new schema has (CreateIndex at) (same_command (understood schema text) ∙ is.command) is.plain count ran) in
      let done = subst (λ s. Does old.step_limit (mode_of old) [] (left s old.now.trees) text None (CreateIndex at) (Ok (w.tally, new.now))) has w.changed in
      let first = went (rw is.place at done) in
      let made = first.1 in
      let both : ◌≡◌ {A = Result Index _} (Ok made.index) (Ok index) = sym made.defined ∙ is.defined in
      let same : made.index ≡ index = same_value both in
      let now : new.now ≡ first.0 = ap (λ (p : Tally × Database). p.1) (same_value first.2) in (
        ap (λ (d : Database). d.schema) now ∙ made.is ∙ ap (indexed schema table) same,
        subst (λ (d : Database). KeepsRows schema.tables old.now.trees d.trees) (sym now) made.rows,
      )

kept_empty : (tables : List Table) (old new : Trees) → KeepsRows tables old new → AllByRecursion (λ t. old t.tree ≡ []) tables → AllByRecursion (λ t. new t.tree ≡ []) tables
kept_empty [] old new same none = tt
kept_empty (t ∷ tables) old new same none = (same.0 ∙ none.0, kept_empty tables old new same.1 none.1)

with_last : (tables : List Table) (last : Table) (db : Trees) → AllByRecursion (λ t. db t.tree ≡ []) tables → db last.tree ≡ [] → AllByRecursion (λ t. db t.tree ≡ []) (tables ++ last ∷ [])
with_last [] last db none empty = (empty, tt)
with_last (t ∷ tables) last db none empty = (none.0, with_last tables last db none.1 empty)

-- a step on the way from no table to all
pub blank_then : (from to : Schema) (text : List ℕ) (old new : State) (count : ℕ) → Defines from text to → IsBlank from old.now → Executes text [] old new (Ok count) → IsBlank to new.now
blank_then from to text old new count (inl it) blank ran =
    let table = it.0 in
    let made = creates from text old new count blank.is table it.1 ran in
    let none = kept_empty from.tables old.now.trees new.now.trees made.2 blank.empty in
    let all = with_last from.tables (record table { tree = next_tree from }) new.now.trees none made.1 in
    subst (λ s. IsBlank s new.now) (sym it.2) (record { is = made.0; empty = all })
blank_then from to text old new count (inr it) blank ran =
    let made = indexes from text old new count blank.is it.0 it.1 it.2 it.3 ran in
    subst (λ s. IsBlank s new.now) (sym it.4) (record { is = made.0; empty = kept_empty from.tables old.now.trees new.now.trees made.1 blank.empty })

pub definition_writes : (from to : Schema) (text : List ℕ) → Defines from text to → writes_tables (command_of (understood from text)) ≡ true
definition_writes from to text (inl it) = ap writes_tables it.1.command
definition_writes from to text (inr it) = ap writes_tables it.3.command
