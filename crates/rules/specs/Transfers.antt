-- The last transfer of an object after an operation on it, and what the caller is answered
-- (RFC 5730, 2.9.2.4 and 2.9.3.4).
use Rattle.std.specs.Prelude.{ℕ, Option, Some, None, option_map, if◌then◌else◌}
use Rattle.lifecycle.specs.Transfers.{ended, requested}
use Rattle.objects.specs.declared.contact.Contact.{Contact}
use Rattle.objects.specs.declared.contact.ContactFace.{ContactFace}
use Rattle.objects.specs.declared.domain.DomainFace.{DomainFace}
use Rattle.objects.specs.declared.domain.FullDomain.{FullDomain}
use Rattle.objects.specs.declared.sight.Seen.{Seen}
use Rattle.objects.specs.declared.sight.Seen.TheVariants.{Full, TransferParty, Public}
use Rattle.objects.specs.declared.transfer.Transfer.{Transfer}
use Rattle.objects.specs.declared.transfer.TransferState.TheVariants.{ClientApproved, ClientRejected, ClientCancelled}
use Rattle.policy.specs.Rules.{PolicyRules}
use Rattle.protocol.specs.declared.code.Code.{Code}
use Rattle.protocol.specs.declared.code.Code.TheVariants.{Completed, CompletedActionPending}
use Rattle.protocol.specs.declared.transfer.TransferOp.{TransferOp}
use Rattle.protocol.specs.declared.transfer.TransferOp.TheVariants as ops
use Rattle.protocol.specs.Requests.{is_request}
use Rattle.rules.specs.Conditions.{contact_sponsor, contact_transfer, domain_sponsor, domain_transfer, last_seen}

-- by a registrar at a moment, of an object that has this sponsor
abbrev pub transfer_after : PolicyRules → ℕ → ℕ → TransferOp → ℕ → Option Transfer → Option Transfer
transfer_after p r t ops.Request sponsor last = Some (requested p r sponsor t)
transfer_after p r t ops.Query sponsor last = last
transfer_after p r t ops.Approve sponsor last = option_map (ended ClientApproved t) last
transfer_after p r t ops.Reject sponsor last = option_map (ended ClientRejected t) last
transfer_after p r t ops.Cancel sponsor last = option_map (ended ClientCancelled t) last

-- ---- of what is seen

abbrev pub contact_face_sponsor : ContactFace → ℕ
contact_face_sponsor face = face.sponsor

abbrev pub domain_face_sponsor : DomainFace → ℕ
domain_face_sponsor face = face.sponsor

abbrev pub sponsor_seen : {O F : Type 0} → (O → ℕ) → (F → ℕ) → Seen O F → ℕ
sponsor_seen sponsor of_face (Full o) = sponsor o
sponsor_seen sponsor of_face (TransferParty face transfer) = of_face face
sponsor_seen sponsor of_face (Public face) = of_face face

abbrev pub seen_after : {O F : Type 0} → (O → ℕ) → (F → ℕ) → (O → Option Transfer) → PolicyRules → ℕ
    → ℕ → TransferOp → Seen O F → Option Transfer
seen_after sponsor of_face transfer_of p r t op seen =
    transfer_after p r t op (sponsor_seen sponsor of_face seen) (last_seen transfer_of seen)

abbrev pub contact_after : PolicyRules → ℕ → ℕ → TransferOp → Seen Contact ContactFace
    → Option Transfer
contact_after p r t op seen =
    seen_after contact_sponsor contact_face_sponsor contact_transfer p r t op seen

abbrev pub domain_after : PolicyRules → ℕ → ℕ → TransferOp → Seen FullDomain DomainFace
    → Option Transfer
domain_after p r t op seen =
    seen_after domain_sponsor domain_face_sponsor domain_transfer p r t op seen

-- ---- what is answered

-- a transfer that is asked for awaits its answer
abbrev pub code_of_transfer : TransferOp → Code
code_of_transfer op = if is_request op then CompletedActionPending else Completed

-- the charge is in the reply where it is made
abbrev pub charge_shown : TransferOp → ℕ → Option ℕ
charge_shown op charge = if is_request op then Some charge else None
