use Rattle.std.proofs.Common.{subst}
use Rattle.oldrows.specs.inner.Copies.{IsCopied, put_of_all}
use Rattle.policy.specs.declared.schedule.Schedule.{Schedule}
use Rattle.sqltables.specs.Content.{Content}
use Rattle.takeover.specs.inner.Migrating.{others, put_lines}
use Rattle.takeover.proofs.MigratingLemmas.{refused, taken-over}
use Rattle.takeover.proofs.migrating.take.Goals as goal

pub returns-then-not-branch : goal.returns-then-not-branch
returns-then-not-branch g c =
    refused c.args.policy.now c.args.from.now c.copy_heads.new.from c.args.to.now c.copy_heads.new.to c.fits.new.store c.show_consistent.ensures c.requires.unused
    (c.in_ok-copy_heads.ensures {u = tt}) c.in_ok-fits.field-0 (c.in_ok-fits.ensures {u = tt}) c.if-not-branch.true

pub returns : goal.returns
returns g c =
    let rest = subst (λ (days : Schedule). IsCopied (λ (a b : Content). put_lines days a (put_of_all others a b)) c.copy_heads.new.from c.copy_rest.new.from c.fits.new.store c.copy_rest.new.to) c.schedule.ensures (c.in_ok-copy_rest.ensures {u = tt}) in
    taken-over c.args.policy.now c.args.from.now c.copy_heads.new.from c.args.to.now c.copy_heads.new.to c.fits.new.store c.show_consistent.ensures c.requires.unused
    (c.in_ok-copy_heads.ensures {u = tt}) c.in_ok-fits.field-0 (c.in_ok-fits.ensures {u = tt})
    c.copy_rest.new.from c.copy_rest.new.to c.put_days.new.store c.if-not-branch.false rest c.in_ok-put_days.ensures.held c.in_ok-put_days.ensures.lines
