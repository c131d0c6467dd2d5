use Rattle.oldrows.specs.inner.Copies.{put_of_all}
use Rattle.takeover.specs.inner.Migrating.{others, put_lines}
use Rattle.takeover.proofs.MigratingLemmas.{copied-after}
use Rattle.takeover.proofs.migrating.copy_rest.Goals as goal

pub returns : goal.returns
returns g c =
    copied-after c.copy_lines.result (put_of_all others) (put_lines c.args.days.now) c.args.from.now c.copy_others.new.from c.copy_lines.new.from c.args.to.now c.copy_others.new.to c.copy_lines.new.to
    (c.in_ok-copy_others.ensures {u = tt}) c.copy_lines.ensures
