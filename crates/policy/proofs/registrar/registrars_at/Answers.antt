use Rattle.std.proofs.Common.{arith, rules}
use Rattle.policy.proofs.TextLemmas.{distinct_ids}
use Rattle.policy.proofs.registrar.registrars_at.Goals as goal

pub returns-clause-count : goal.returns-clause-count
returns-clause-count c =
    let made = c.from_vec.ensures in
    rw made (omega (arith, c.in_ok-ids.ensures.each, c.in_ok-entries.ensures.some), omega (arith, c.in_ok-ids.ensures.each, c.in_ok-ids.ensures.few))

pub returns-clause-distinct : goal.returns-clause-distinct
returns-clause-distinct c =
    let made = c.from_vec.ensures in
    rw made (distinct_ids c.in_ok-ids.ids.items (search rules))
