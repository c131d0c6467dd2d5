-- The graces that run on a domain (RFC 3915, 3.1).
use Rattle.std.specs.Prelude.{ℕ, nat_le, nat_lt, Bool, true, false, not, ◌&&◌, if◌then◌else◌, List, Option, Some, None, is_some}
use Rattle.std.specs.List.{list_any}
use Rattle.accounts.specs.Lines.{is_kind, is_on}
use Rattle.accounts.specs.declared.line.Line.{Line}
use Rattle.accounts.specs.declared.line.LineKind.{LineKind}
use Rattle.accounts.specs.declared.line.LineKind.TheVariants as kinds
use Rattle.objects.specs.declared.domain.Domain.{Domain}
use Rattle.objects.specs.declared.grace.Graces.{Graces}
use Rattle.objects.specs.declared.grace.Standing.{Standing}
use Rattle.objects.specs.declared.roid.Roid.{Roid}
use Rattle.policy.specs.declared.days.Period.{Period}
use Rattle.policy.specs.declared.days.Period.TheVariants as periods
use Rattle.policy.specs.Rules.{PolicyRules}
use Rattle.lifecycle.specs.Periods.{end}
use Rattle.lifecycle.specs.Phases.{phase}

-- the grace that a charge begins
abbrev pub period_of : LineKind → Option Period
period_of kinds.Deposit = None
period_of kinds.Create = Some periods.Add
period_of kinds.Renew = Some periods.Renew
period_of kinds.AutoRenew = Some periods.AutoRenew
period_of kinds.Transfer = Some periods.Transfer
period_of kinds.Restore = None

-- a completed transfer ends all earlier graces
abbrev pub is_since : Option ℕ → ℕ → Bool
is_since None start = true
is_since (Some transferred) start = nat_le transferred start

abbrev pub runs_from : PolicyRules → ℕ → Option ℕ → Option ℕ → Option Period → Bool
runs_from p t since None period = false
runs_from p t since (Some start) None = false
runs_from p t since (Some start) (Some period) = nat_le start t && (is_since since start && nat_lt t (end period start p))

-- the grace of a line runs at t, for a domain with this identifier that was last transferred then
abbrev pub runs : PolicyRules → ℕ → Roid → Option ℕ → Line → Bool
runs p t roid since l = is_on roid l && (not (is_some l.refunded) && runs_from p t since l.started (period_of l.kind))

abbrev pub gives : LineKind → PolicyRules → ℕ → Roid → Option ℕ → Line → Bool
gives kind p t roid since l = is_kind l.kind kind && runs p t roid since l

-- the graces that its sponsor's lines give a domain
unfoldable pub graces : PolicyRules → ℕ → Roid → Option ℕ → List Line → Graces
graces p t roid since lines = record {
  add = list_any (gives kinds.Create p t roid since) lines;
  auto_renew = list_any (gives kinds.AutoRenew p t roid since) lines;
  renew = list_any (gives kinds.Renew p t roid since) lines;
  transfer = list_any (gives kinds.Transfer p t roid since) lines;
}

-- the graces and the phase of a domain whose sponsor has these lines
abbrev pub standing : PolicyRules → ℕ → List Line → Domain → Standing
standing p t lines d = record { graces = graces p t d.roid d.transferred lines; phase = phase p t d }

-- a line, given back in full at t where its grace runs
abbrev pub refunded_running : PolicyRules → ℕ → Roid → Option ℕ → Line → Line
refunded_running p t roid since l = if runs p t roid since l then record l { refunded = Some t } else l
