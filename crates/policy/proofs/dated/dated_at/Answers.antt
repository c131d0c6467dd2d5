use Rattle.std.proofs.Common.{Vec, Global, map}
use Rattle.toml.specs.View.{view}
use Rattle.policy.specs.declared.schedule.DatedDays.{DatedDays}
use Rattle.policy.proofs.DatedLemmas.{rise-result}
use Rattle.policy.proofs.dated.dated_at.Goals as goal

pub returns-clause-rise : goal.returns-clause-rise
returns-clause-rise c = rise-result (λ (v : Vec DatedDays Global). v.items) (map view c.in_ok-tables.tables.now) c.in_ok-check_tables.ensures.rise c.each_dated.result c.each_dated.ensures.read
