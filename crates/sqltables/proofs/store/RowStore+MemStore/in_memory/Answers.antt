use Rattle.std.proofs.Common.{List, false, refl, sym, subst}
use Rattle.sqltables.proofs.Words.{AllByRecursion, Content, Guards, IsFound, IsShaped, Remains, state, Table, Unused}
use Rattle.sqltables.proofs.{AdoptedLemmas.{fits_found, guards_found}, TurningLemmas.noted-alone}
use Rattle.sqlite_trees.specs.declared.store.Shape.TheVariants as shape
use Rattle.sqlite_schema.specs.declared.schema.Schema.{Schema}
use Rattle.sqlite.specs.Steps.{over_memory}
use Rattle.sqltables.proofs.store.RowStore+MemStore.in_memory.Goals as goal

pub invariant_of-result : goal.invariant_of-result
invariant_of-result c =
    let s = state over_memory c.in_ok-conn.conn in
    let empty = c.in_ok-conn.ensures.empty in
    let found : IsFound s = λ clean. (
      empty.0,
      (empty.1 empty.0.is_open).0,
      subst (λ (schema : Schema). AllByRecursion (λ (t : Table). IsShaped shape.Table (s.now.trees t.tree)) schema.tables) (sym empty.2) tt,
    ) in
    let alone = noted-alone (state over_memory) c.new.result.items c.and-left.result.items c.in_ok-conn.conn Unused Unused c.new.ensures c.and-left.ensures refl in (
      fits_found s found Unused empty.2,
      subst (λ (l : List (Remains Content)). Guards false s l) (sym alone) (guards_found s found Unused empty.2 (λ db opened may. may)),
      λ _ _. c.none.ensures _,
    )
