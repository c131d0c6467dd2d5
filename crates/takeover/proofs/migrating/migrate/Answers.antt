use Rattle.std.proofs.Common.{subst}
use Rattle.takeover.specs.inner.Migrating.{AreAsked}
use Rattle.takeover.proofs.MigratingLemmas.{migrated}
use Rattle.takeover.proofs.migrating.migrate.Goals as goal

pub returns : goal.returns
returns g c =
    let asked = subst (λ said. AreAsked said c.args.from.now c.args.to.now c.are_ready.new.to) c.if-not-branch.false c.in_ok-are_ready.ensures in
    migrated c.args.policy.now c.args.from.now c.take-taken.new.from c.args.to.now c.are_ready.new.to c.begin.new.to c.take-taken.new.to c.end.new.to
    asked c.in_ok-begin.ensures c.end.result c.take-taken.result c.take-taken.ensures c.end.ensures
