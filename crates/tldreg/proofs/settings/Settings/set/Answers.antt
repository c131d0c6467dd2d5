use Rattle.std.proofs.Common.{rules}
use Rattle.tldreg.proofs.OptionLemmas.{days_set}
use Rattle.tldreg.proofs.settings.Settings.set.Goals as goal

pub returns-then-eq : goal.returns-then-eq
returns-then-eq c = days_set c.args.self.now c.set_days.new.self c.args.name.now c.args.value.now c.set_days.result (search rules) c.set_days.ensures
