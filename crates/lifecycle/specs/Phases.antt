-- The phases of a deleted domain (RFC 3915, 3.1).
use Rattle.std.specs.Prelude.{ℕ, max, nat_lt, option_map, Bool, false, List, ◌∷◌, [], if◌then◌else◌, Option, Some, None}
use Rattle.objects.specs.declared.domain.Deletion.{Deletion}
use Rattle.objects.specs.declared.domain.Domain.{Domain}
use Rattle.objects.specs.declared.grace.Phase.{Phase}
use Rattle.objects.specs.declared.grace.Phase.TheVariants.{Live, Restoring, Redemption, Deleting, Gone}
use Rattle.policy.specs.declared.days.Period.TheVariants as periods
use Rattle.policy.specs.Rules.{PolicyRules}
use Rattle.lifecycle.specs.Periods.{end}

abbrev pub later : ℕ → Option ℕ → ℕ
later m None = m
later m (Some n) = max m n

-- whether there is an end, and it isn't reached
abbrev pub is_under : ℕ → Option ℕ → Bool
is_under t None = false
is_under t (Some m) = nat_lt t m

abbrev pub redemption_end : PolicyRules → Deletion → ℕ
redemption_end p x = end periods.Redemption x.deleted p

-- of the last request for restoration
abbrev pub restore_end : PolicyRules → Deletion → Option ℕ
restore_end p x = option_map (λ requested. end periods.Restore requested p) x.restore_requested

-- when the name becomes free: pendingDelete follows what of the two ends last
abbrev pub purge_at : PolicyRules → Deletion → ℕ
purge_at p x = end periods.PendingDelete (later (redemption_end p x) (restore_end p x)) p

-- the value of the first row whose condition holds
abbrev pub first_of : {A : Type 0} → List (Bool × A) → A → A
first_of [] last = last
first_of (row ∷ rows) last = if row.0 then row.1 else first_of rows last

abbrev pub phase_of : PolicyRules → ℕ → Option Deletion → Phase
phase_of p t None = Live
phase_of p t (Some x) = first_of (
    (is_under t (restore_end p x), Restoring)
    ∷ (nat_lt t (redemption_end p x), Redemption)
    ∷ (nat_lt t (purge_at p x), Deleting)
    ∷ []) Gone

abbrev pub phase : PolicyRules → ℕ → Domain → Phase
phase p t d = phase_of p t d.deletion
