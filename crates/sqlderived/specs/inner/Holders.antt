-- Who holds a domain, and who does no more.
use Rattle.std.specs.Prelude.{ℕ, Bool, false, ◌||◌, ◌==◌, if◌then◌else◌, Option, Some, None, option_and_then, option_map}
use Rattle.std.specs.Option.{option_map_or}
use Rattle.objects.specs.declared.domain.Domain.{Domain}
use Rattle.objects.specs.declared.transfer.Transfer.{Transfer}
use Rattle.objects.specs.Transfers.{is_pending_state}
use Rattle.sqlderived.specs.declared.holders.Holders.{Holders}

-- to whom a pending transfer brings an object
abbrev pub incoming_of : Option Transfer → Option ℕ
incoming_of None = None
incoming_of (Some t) = if is_pending_state t.state then Some t.requester else None

abbrev pub holders_of : Domain → Holders
holders_of d = record { sponsor = d.sponsor; incoming = incoming_of d.transfer }

-- those of a domain, if there is one
abbrev pub maybe_holders_of : Option Domain → Option Holders
maybe_holders_of d = option_map holders_of d

abbrev pub is_holder : ℕ → Holders → Bool
is_holder r p = (p.sponsor == r) || option_map_or (λ q. q == r) p.incoming false

abbrev pub is_some_holder : ℕ → Option Holders → Bool
is_some_holder r p = option_map_or (is_holder r) p false

-- ---- those whose rows are still to be written

abbrev pub is_written : ℕ → Option ℕ → Bool
is_written r written = option_map_or (λ q. q == r) written false

-- among these, or the one whose row has been written
abbrev pub is_settled : Option ℕ → Option Holders → ℕ → Bool
is_settled written others r = is_some_holder r others || is_written r written

-- the sponsor of the first, where it isn't among the others, nor the one whose row has been written
abbrev pub sponsor_without : Option ℕ → Option Holders → Option Holders → Option ℕ
sponsor_without written None others = None
sponsor_without written (Some p) others = if is_settled written others p.sponsor then None else Some p.sponsor

-- the same of the one whom a pending transfer brings the first, where it is another than the sponsor
abbrev pub incoming_without : Option ℕ → Option Holders → Option Holders → Option ℕ
incoming_without written None others = None
incoming_without written (Some p) others = option_and_then (λ q. if (p.sponsor == q) || is_settled written others q then None else Some q) p.incoming
