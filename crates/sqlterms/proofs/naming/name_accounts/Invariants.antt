use Rattle.sqlrows.specs.Meanings.{HasChanged}
use Rattle.sqlterms.specs.inner.Changes.{IsRenaming}
use Rattle.sqlterms.proofs.naming.name_accounts.Given as goal

abbrev pub invariant-loop-id : goal.invariant-loop-id
invariant-loop-id g l = HasChanged IsRenaming l.fn.store l.store
