-- When the graces that lines begin end (RFC 3915, 3.1).
use Rattle.std.specs.Prelude.{ℕ, Option, Some, None}
use Rattle.calendar.specs.Moment.{capped}
use Rattle.accounts.specs.declared.line.Line.{Line}
use Rattle.lifecycle.specs.Graces.{period_of}
use Rattle.lifecycle.specs.Periods.{end, rules_with}
use Rattle.policy.specs.declared.days.Period.{Period}
use Rattle.policy.specs.declared.schedule.Schedule.{Schedule}

abbrev pub end_from : Schedule → Option Period → Option ℕ → Option ℕ
end_from days None start = None
end_from days (Some period) None = None
end_from days (Some period) (Some start) = Some (capped (end period start (rules_with days)))

-- when a line's grace ends, if it begins one, or the last moment where it ends later
abbrev pub grace_end : Schedule → Line → Option ℕ
grace_end days line = end_from days (period_of line.kind) line.started

-- the same where there are lengths of periods
abbrev pub maybe_grace_end : Option Schedule → Line → Option ℕ
maybe_grace_end None line = None
maybe_grace_end (Some days) line = grace_end days line
