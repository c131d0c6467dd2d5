-- Transfers as registrars carry them out (RFC 5730, 2.9.3.4; RFC 5731, 3.2.4; RFC 5733, 3.2.4).
use Rattle.std.specs.Prelude.{ℕ, max, Bool, nat_lt, Option, Some, None}
use Rattle.calendar.specs.Moment.{capped}
use Rattle.objects.specs.declared.domain.Domain.{Domain}
use Rattle.objects.specs.declared.transfer.Transfer.{Transfer}
use Rattle.objects.specs.declared.transfer.TransferState.{TransferState}
use Rattle.objects.specs.declared.transfer.TransferState.TheVariants.{Pending}
use Rattle.policy.specs.declared.days.Period.TheVariants as periods
use Rattle.policy.specs.Rules.{PolicyRules}
use Rattle.lifecycle.specs.Periods.{end}

-- asked for at a moment; it is due once the time to answer is over
abbrev pub requested : PolicyRules → ℕ → ℕ → ℕ → Transfer
requested p requester sponsor t = record { requester = requester; losing_registrar = sponsor; requested = t; ac_date = capped (end periods.Answer t p); state = Pending }

-- ended at a moment
abbrev pub ended : TransferState → ℕ → Transfer → Transfer
ended state t x = record x { ac_date = t; state = state }

-- A domain is locked from its creation, and again from the transfer that was completed last.
abbrev pub locked_since : Option ℕ → ℕ → ℕ
locked_since None created = created
locked_since (Some transferred) created = max created transferred

abbrev pub is_locked : PolicyRules → ℕ → Domain → Bool
is_locked p t d = nat_lt t (end periods.Lock (locked_since d.transferred d.created) p)
