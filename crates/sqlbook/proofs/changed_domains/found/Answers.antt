use Rattle.std.proofs.Common.{◌≡◌, true, subst}
use Rattle.sqlbook.proofs.{Words.{IsUnderDays, Reads, Schedule}, ReplacingLemmas.found-under}
use Rattle.sqlbook.proofs.changed_domains.found.Goals as goal

pub returns : goal.returns
returns g c =
    let old = c.args.store.now in
    let mid = c.same_days.new.store in
    let under = subst (λ (days : Schedule). Reads old mid × (mid.is_clean ≡ true → IsUnderDays days old.content)) c.schedule.ensures (c.in_ok-same_days.ensures {u = tt}) in
    found-under c.args.name.now c.args.policy.now.days old mid c.checked_domain.new.store under c.checked_domain.result c.checked_domain.ensures
