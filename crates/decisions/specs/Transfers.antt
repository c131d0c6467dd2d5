-- What a transfer changes (RFC 5730, 2.9.3.4; RFC 5731 and 5733, 3.2.4).
use Rattle.std.specs.Prelude.{ℕ, List, [], ◌∷◌, Option, Some, None}
use Rattle.accounts.specs.declared.line.Line.{Line}
use Rattle.accounts.specs.declared.line.LineKind.TheVariants as lines
use Rattle.accounts.specs.declared.line.TransferRefund.{TransferRefund}
use Rattle.accounts.specs.declared.message.CommandNotice.{CommandNotice}
use Rattle.accounts.specs.declared.message.CommandNotice.TheVariants as notices
use Rattle.accounts.specs.declared.message.Subject.{Subject}
use Rattle.accounts.specs.declared.message.Subject.TheVariants as subjects
use Rattle.facts.specs.declared.facts.Facts.{Facts}
use Rattle.lifecycle.specs.declared.change.AccountChange.TheVariants.{Charge, RefundTransfer, Notify}
use Rattle.lifecycle.specs.Lapse.{contact_handed_over, gained, handed_over, transfer_start}
use Rattle.objects.specs.declared.contact.Contact.{Contact}
use Rattle.objects.specs.declared.contact.ContactFace.{ContactFace}
use Rattle.objects.specs.declared.domain.Domain.{Domain}
use Rattle.objects.specs.declared.domain.DomainFace.{DomainFace}
use Rattle.objects.specs.declared.domain.FullDomain.{FullDomain}
use Rattle.objects.specs.declared.roid.Roid.{Roid}
use Rattle.objects.specs.declared.sight.Seen.{Seen}
use Rattle.objects.specs.declared.transfer.Transfer.{Transfer}
use Rattle.policy.specs.Rules.{PolicyRules}
use Rattle.protocol.specs.declared.command.Request.{Request}
use Rattle.protocol.specs.declared.transfer.TransferOp.{TransferOp}
use Rattle.protocol.specs.declared.transfer.TransferOp.TheVariants as ops
use Rattle.decisions.specs.declared.change.Change.{Change}
use Rattle.decisions.specs.declared.change.Change.TheVariants.{PutContact, PutDomain, Post}
use Rattle.decisions.specs.Changes.{in_full, posting_change}
use Rattle.rules.specs.Charges.{charge_of, years_charged}
use Rattle.rules.specs.Transfers.{transfer_after}

-- ---- messages and charges

-- a message to the other side: to the losing sponsor of what the requester does, and to the requester
-- of what the sponsor does
abbrev pub tell : ℕ → ℕ → CommandNotice → List ℕ → Subject → Change
tell registrar t notice name subject =
    Post registrar (Notify (record { moment = t; notice = notice; name = name; subject = subject }))

-- the charge of a transfer, whose grace begins with its completion alone (RFC 3915, 3.1)
abbrev pub transfer_line : PolicyRules → ℕ → Roid → Request → Facts → Line
transfer_line p t roid q f = record {
  kind = lines.Transfer;
  roid = Some roid;
  recorded = t;
  years = years_charged t q f;
  cents = charge_of p t q f;
  started = None;
  refunded = None;
}

-- a transfer that is rejected or withdrawn gives its charge back in full
abbrev pub transfer_refund : ℕ → Roid → TransferRefund
transfer_refund t roid = record { roid = roid; moment = t }

abbrev pub give_back : ℕ → ℕ → Roid → Change
give_back registrar t roid = Post registrar (RefundTransfer (transfer_refund t roid))

-- ---- contacts

abbrev pub contact_with_transfer : Transfer → Contact → Contact
contact_with_transfer x c = record c { transfer = Some x }

-- the contact after the operation that leaves its transfer so
abbrev pub contact_after : TransferOp → Transfer → Contact → Contact
contact_after ops.Approve x c = contact_handed_over x c
contact_after _ x c = contact_with_transfer x c

abbrev pub contact_transferred : ℕ → TransferOp → Transfer → Contact → List Change
contact_transferred t ops.Request x c = PutContact (contact_after ops.Request x c) ∷ tell x.losing_registrar t notices.TransferRequested c.name subjects.Contact ∷ []
contact_transferred t ops.Query x c = []
contact_transferred t ops.Approve x c = PutContact (contact_after ops.Approve x c) ∷ tell x.requester t notices.TransferApproved c.name subjects.Contact ∷ []
contact_transferred t ops.Reject x c = PutContact (contact_after ops.Reject x c) ∷ tell x.requester t notices.TransferRejected c.name subjects.Contact ∷ []
contact_transferred t ops.Cancel x c = PutContact (contact_after ops.Cancel x c) ∷ tell x.losing_registrar t notices.TransferCancelled c.name subjects.Contact ∷ []

abbrev pub contact_transferred_if : ℕ → TransferOp → Option Transfer → Contact → List Change
contact_transferred_if t op None c = []
contact_transferred_if t op (Some x) c = contact_transferred t op x c

abbrev pub contact_transfer_changes : PolicyRules → ℕ → ℕ → TransferOp
    → Option (Seen Contact ContactFace) → List Change
contact_transfer_changes p r t op seen =
    in_full (λ (c : Contact). contact_transferred_if t op (transfer_after p r t op c.sponsor c.transfer) c) seen

-- ---- domains

abbrev pub domain_with_transfer : Transfer → Domain → Domain
domain_with_transfer x d = record d { transfer = Some x }

-- its transfer has this state after the operation; its subordinate hosts have its sponsor (RFC 5732, 1.1)
abbrev pub domain_transferred : PolicyRules → ℕ → ℕ → TransferOp → Request → Facts → Transfer
    → Domain → List Change
domain_transferred p r t ops.Request q f x d =
    PutDomain (domain_with_transfer x d)
    ∷ Post r (Charge (transfer_line p t d.roid q f))
    ∷ tell x.losing_registrar t notices.TransferRequested d.name subjects.Domain
    ∷ []
domain_transferred p r t ops.Query q f x d = []
domain_transferred p r t ops.Approve q f x d =
    posting_change (transfer_start x (gained d x.ac_date) d)
    ∷ PutDomain (handed_over x (gained d x.ac_date) d)
    ∷ tell x.requester t notices.TransferApproved d.name subjects.Domain
    ∷ []
domain_transferred p r t ops.Reject q f x d =
    PutDomain (domain_with_transfer x d)
    ∷ give_back x.requester t d.roid
    ∷ tell x.requester t notices.TransferRejected d.name subjects.Domain
    ∷ []
domain_transferred p r t ops.Cancel q f x d =
    PutDomain (domain_with_transfer x d)
    ∷ give_back x.requester t d.roid
    ∷ tell x.losing_registrar t notices.TransferCancelled d.name subjects.Domain
    ∷ []

abbrev pub domain_transferred_if : PolicyRules → ℕ → ℕ → TransferOp → Request → Facts
    → Option Transfer → Domain → List Change
domain_transferred_if p r t op q f None d = []
domain_transferred_if p r t op q f (Some x) d = domain_transferred p r t op q f x d

abbrev pub domain_transfer_changes : PolicyRules → ℕ → ℕ → TransferOp → Request → Facts
    → Option (Seen FullDomain DomainFace) → List Change
domain_transfer_changes p r t op q f seen = in_full (λ (known : FullDomain).
    domain_transferred_if p r t op q f (transfer_after p r t op known.domain.sponsor known.domain.transfer) known.domain) seen
