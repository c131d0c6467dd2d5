use Rattle.sqlrows.specs.Meanings.{HasChanged}
use Rattle.sqlterms.specs.inner.Changes.{AreDated}
use Rattle.sqlterms.proofs.dated.append_tables.Given as goal

abbrev pub invariant-loop-table : goal.invariant-loop-table
invariant-loop-table g l = HasChanged AreDated l.fn.store l.store
