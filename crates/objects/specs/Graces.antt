-- The states of grace of a domain (RFC 3915, 3.1).
use Rattle.std.specs.Prelude.{ℕ, Bool, false, ◌==◌, List, [], ◌∷◌, filter}
use Rattle.objects.specs.declared.grace.Graces.{Graces}
use Rattle.objects.specs.declared.grace.Phase.{Phase}
use Rattle.objects.specs.declared.grace.Phase.TheVariants as phases
use Rattle.objects.specs.declared.grace.Standing.{Standing}
use Rattle.objects.specs.declared.status.Rgp.{Rgp}
use Rattle.objects.specs.declared.status.Rgp.TheVariants.{AddPeriod, AutoRenewPeriod, PendingDelete, PendingRestore, RedemptionPeriod, RenewPeriod, TransferPeriod}

abbrev pub phase_rank : Phase → ℕ
phase_rank phases.Live = 0
phase_rank phases.Restoring = 1
phase_rank phases.Redemption = 2
phase_rank phases.Deleting = 3
phase_rank phases.Gone = 4

abbrev pub is_phase : Phase → Phase → Bool
is_phase a b = phase_rank a == phase_rank b

abbrev pub no_graces : Graces
no_graces = record { add = false; auto_renew = false; renew = false; transfer = false }

-- the states in the order of their texts' bytes
abbrev pub all_states : List Rgp
all_states = AddPeriod ∷ AutoRenewPeriod ∷ PendingDelete ∷ PendingRestore ∷ RedemptionPeriod ∷ RenewPeriod ∷ TransferPeriod ∷ []

-- a domain shows each grace that runs, and the phase of its deletion
abbrev pub shows_state : Standing → Rgp → Bool
shows_state s AddPeriod = s.graces.add
shows_state s AutoRenewPeriod = s.graces.auto_renew
shows_state s PendingDelete = is_phase s.phase phases.Deleting
shows_state s PendingRestore = is_phase s.phase phases.Restoring
shows_state s RedemptionPeriod = is_phase s.phase phases.Redemption
shows_state s RenewPeriod = s.graces.renew
shows_state s TransferPeriod = s.graces.transfer

abbrev pub states_of : Standing → List Rgp
states_of s = filter (shows_state s) all_states
