-- Transfers between registrars (RFC 5730, 2.9.3.4).
use Rattle.std.specs.Prelude.{ℕ, Bool, true, false, ◌&&◌, ◌||◌, ◌==◌, Option, Some, None}
use Rattle.objects.specs.declared.transfer.Transfer.{Transfer}
use Rattle.objects.specs.declared.transfer.TransferState.{TransferState}
use Rattle.objects.specs.declared.transfer.TransferState.TheVariants.{Pending, ClientApproved, ClientRejected, ClientCancelled, ServerApproved}

abbrev pub is_pending_state : TransferState → Bool
is_pending_state Pending = true
is_pending_state ClientApproved = false
is_pending_state ClientRejected = false
is_pending_state ClientCancelled = false
is_pending_state ServerApproved = false

-- the last transfer is pending
abbrev pub is_pending : Option Transfer → Bool
is_pending None = false
is_pending (Some t) = is_pending_state t.state

-- a pending transfer brings the object to the registrar
abbrev pub is_incoming : ℕ → Option Transfer → Bool
is_incoming r None = false
is_incoming r (Some t) = is_pending_state t.state && (t.requester == r)

-- the transfer names the registrar, as requester or as losing sponsor
abbrev pub names : ℕ → Transfer → Bool
names r t = (t.requester == r) || (t.losing_registrar == r)
