use Rattle.std.proofs.Common.{◌≡◌, true, subst}
use Rattle.sqlite.specs.Held.{state}
use Rattle.oldrows.specs.{inner.Stored.IsOldContent, Stored.OldState}
use Rattle.oldrows.proofs.AdoptedLemmas.{consistent_of}
use Rattle.oldrows.proofs.reading.OldRows.show_consistent.Goals as goal

pub returns : goal.returns
returns g c = subst (λ (it : OldState). it.is_clean ≡ true → IsOldContent it.content) c.self.view_is (consistent_of (state g.S.Store c.self.inside.conn) c.self.inside.is_there c.self.invariant.0)
