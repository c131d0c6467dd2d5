-- What time alone does to an object.
use Rattle.std.specs.Prelude.{◌≡◌, ◌≤◌, ◌<◌, ℕ, zero, suc, ◌+◌, nat_lt, nat_le, min, ◌&&◌, if◌then◌else◌, List, [], ◌∷◌, ◌++◌, Option, Some, None}
use Rattle.calendar.specs.Moment.{plus_years}
use Rattle.accounts.specs.declared.entries.LapseEntry.TheVariants.{Renewal, Start, Notice}
use Rattle.accounts.specs.declared.entries.Posting.{Posting}
use Rattle.accounts.specs.declared.message.LapseNotice.{LapseNotice}
use Rattle.accounts.specs.declared.message.LapseNotice.TheVariants.{RenewedAutomatically, Purged, TransferApproved}
use Rattle.accounts.specs.declared.message.Origin.TheVariants as origins
use Rattle.accounts.specs.declared.message.Subject.{Subject}
use Rattle.accounts.specs.declared.message.Subject.TheVariants as subjects
use Rattle.objects.specs.Domains.{expiry}
use Rattle.objects.specs.Transfers.{is_pending_state}
use Rattle.objects.specs.declared.contact.Contact.{Contact}
use Rattle.objects.specs.declared.domain.Deletion.{Deletion}
use Rattle.objects.specs.declared.domain.Domain.{Domain}
use Rattle.objects.specs.declared.transfer.Transfer.{Transfer}
use Rattle.objects.specs.declared.transfer.TransferState.TheVariants.{ServerApproved}
use Rattle.policy.specs.Rules.{PolicyRules}
use Rattle.lifecycle.specs.declared.lapsed.Lapsed.{Lapsed}
use Rattle.lifecycle.specs.Phases.{purge_at}
use Rattle.lifecycle.specs.Turns.{turns}

-- ---- one thing after another

-- the object stays, and that is posted
abbrev pub leaves : {X : Type 0} → X → List Posting → Lapsed X
leaves x postings = record { object = Some x; postings = postings }

abbrev pub after : {X : Type 0} → List Posting → Lapsed X → Lapsed X
after postings l = record { object = l.object; postings = postings ++ l.postings }

-- what is gone stays gone
abbrev pub next : {X : Type 0} → Option X → List Posting → (X → Lapsed X) → Lapsed X
next None postings f = record { object = None; postings = postings }
next (Some x) postings f = after postings (f x)

infixl 10 ◌>>=◌
abbrev pub ◌>>=◌ : {X : Type 0} → Lapsed X → (X → Lapsed X) → Lapsed X
l >>= f = next l.object l.postings f

-- a message to a registrar
abbrev pub lapse_notice : ℕ → ℕ → LapseNotice → List ℕ → Subject → Posting
lapse_notice registrar moment notice name subject = record { registrar = registrar; what = Notice (record { moment = moment; origin = origins.Lapse notice; name = name; subject = subject }) }

abbrev pub domain_notice : ℕ → ℕ → LapseNotice → Domain → Posting
domain_notice registrar moment notice d = lapse_notice registrar moment notice d.name subjects.Domain

-- ---- turns: at its expiry a domain renews itself by one year (RFC 3915, 3.1)

abbrev pub renewal_charge : PolicyRules → ℕ → Domain → Posting
renewal_charge p moment d = record { registrar = d.sponsor; what = Renewal (record { roid = d.roid; moment = moment; cents = p.prices.renew }) }

-- the turn at the end of the domain's years and k more: its sponsor is charged and gets a message
abbrev pub turn : PolicyRules → Domain → ℕ → List Posting
turn p d k =
    renewal_charge p (plus_years d.created (d.years + k)) d
    ∷ domain_notice d.sponsor (plus_years d.created (d.years + k)) RenewedAutomatically d
    ∷ []

-- the first n turns
unfoldable pub renewals : PolicyRules → Domain → ℕ → List Posting
renewals p d zero = []
renewals p d (suc n) = renewals p d n ++ turn p d n

abbrev pub raised : ℕ → Domain → Domain
raised n d = record d { years = d.years + n }

abbrev pub renewed : PolicyRules → ℕ → Domain → Lapsed Domain
renewed p t d = leaves (raised (turns d t) d) (renewals p d (turns d t))

-- ---- completion: at its due moment a transfer is approved by the server (RFC 5730, 2.9.3.4)

-- a year, unless the expiry would pass ten years from the moment
abbrev pub gained : Domain → ℕ → ℕ
gained d u = if nat_lt (plus_years u 10) (plus_years d.created (d.years + 1)) then 0 else 1

abbrev pub approved : Transfer → Transfer
approved x = record x { state = ServerApproved }

-- the domain in the hands of the requester of a transfer that was approved, by whomever
abbrev pub handed_over : Transfer → ℕ → Domain → Domain
handed_over x years d = record d {
  sponsor = x.requester;
  transferred = Some x.ac_date;
  years = d.years + years;
  transfer = Some x;
}

abbrev pub moved : Transfer → Domain → Domain
moved x d = handed_over (approved x) (gained d x.ac_date) d

abbrev pub transfer_start : Transfer → ℕ → Domain → Posting
transfer_start x years d = record { registrar = x.requester; what = Start (record { roid = d.roid; moment = x.ac_date; years = years }) }

-- the grace of the transfer begins, and both sides get a message
abbrev pub completion : Transfer → ℕ → Domain → List Posting
completion x years d =
    transfer_start x years d
    ∷ domain_notice x.losing_registrar x.ac_date TransferApproved d
    ∷ domain_notice x.requester x.ac_date TransferApproved d
    ∷ []

abbrev pub completed : Transfer → Domain → Lapsed Domain
completed x d = leaves (moved x d) (completion x (gained d x.ac_date) d)

-- ---- the lapse of a domain

-- the transfer that is pending and due by t
abbrev pub due_by : ℕ → Option Transfer → Option Transfer
due_by t None = None
due_by t (Some x) = if is_pending_state x.state && nat_le x.ac_date t then Some x else None

-- at one moment an expiry comes before a completion
abbrev pub lived : PolicyRules → ℕ → Option Transfer → Domain → Lapsed Domain
lived p t None d = renewed p t d
lived p t (Some x) d = do
  d ← renewed p x.ac_date d
  d ← completed x d
  renewed p t d

-- a domain that isn't deleted
abbrev pub living : PolicyRules → ℕ → Domain → Lapsed Domain
living p t d = lived p t (due_by t d.transfer) d

abbrev pub purged : PolicyRules → Deletion → Domain → Lapsed Domain
purged p x d = record { object = None; postings = domain_notice d.sponsor (purge_at p x) Purged d ∷ [] }

abbrev pub lapse_by : PolicyRules → ℕ → Option Deletion → Domain → Lapsed Domain
lapse_by p t None d = living p t d
lapse_by p t (Some x) d = if nat_lt t (purge_at p x) then leaves d [] else purged p x d

abbrev pub lapse : PolicyRules → ℕ → Domain → Lapsed Domain
lapse p t d = lapse_by p t d.deletion d

-- ---- the lapse of a contact: completion alone (RFC 5733, 3.2.4)

abbrev pub contact_handed_over : Transfer → Contact → Contact
contact_handed_over x c = record c { sponsor = x.requester; transferred = Some x.ac_date; transfer = Some x }

abbrev pub contact_moved : Transfer → Contact → Contact
contact_moved x c = contact_handed_over (approved x) c

abbrev pub contact_completion : Transfer → Contact → List Posting
contact_completion x c =
    lapse_notice x.losing_registrar x.ac_date TransferApproved c.name subjects.Contact
    ∷ lapse_notice x.requester x.ac_date TransferApproved c.name subjects.Contact
    ∷ []

abbrev pub contact_completed : Option Transfer → Contact → Lapsed Contact
contact_completed None c = leaves c []
contact_completed (Some x) c = leaves (contact_moved x c) (contact_completion x c)

abbrev pub lapse_contact : ℕ → Contact → Lapsed Contact
lapse_contact t c = contact_completed (due_by t c.transfer) c

-- ---- when an object is due: the earliest moment at which its lapse changes or removes it

abbrev pub earlier : ℕ → Option ℕ → ℕ
earlier m None = m
earlier m (Some n) = min m n

-- the same, where there is no end
abbrev pub earlier_end : Option ℕ → ℕ → ℕ
earlier_end None n = n
earlier_end (Some m) n = min m n

-- when a pending transfer is completed
abbrev pub completes_at : Option Transfer → Option ℕ
completes_at None = None
completes_at (Some x) = if is_pending_state x.state then Some x.ac_date else None

abbrev pub due_of : PolicyRules → Option Deletion → Domain → ℕ
due_of p None d = earlier (expiry d) (completes_at d.transfer)
due_of p (Some x) d = purge_at p x

abbrev pub due_at : PolicyRules → Domain → ℕ
due_at p d = due_of p d.deletion d

-- ---- laws

-- to lapse on from there is to lapse at once
abbrev pub LapsesOn : PolicyRules → ℕ → Lapsed Domain → Domain → Type 0
LapsesOn p t l d = (u : ℕ) → t ≤ u → (l >>= lapse p u) ≡ lapse p u d

-- what is left is due after t alone
abbrev pub IsDueAfter : PolicyRules → ℕ → Lapsed Domain → Type 0
IsDueAfter p t l = (d : Domain) → l.object ≡ Some d → t < due_at p d

-- what isn't due by t stays as it is
abbrev pub StaysUntilDue : PolicyRules → ℕ → Lapsed Domain → Domain → Type 0
StaysUntilDue p t l d = t < due_at p d → l ≡ leaves d []

-- what time alone makes of a domain up to t
pub record IsLapseOf (p : PolicyRules) (t : ℕ) (d : Domain) (l : Lapsed Domain) : Type 0 where
  pub value : l ≡ lapse p t d
  pub on : LapsesOn p t l d
  pub due_after : IsDueAfter p t l
  pub until_due : StaysUntilDue p t l d

pub record IsContactLapseOf (t : ℕ) (c : Contact) (l : Lapsed Contact) : Type 0 where
  pub value : l ≡ lapse_contact t c
  pub on : (u : ℕ) → t ≤ u → (l >>= lapse_contact u) ≡ lapse_contact u c
  pub due_after : (b : Contact) → l.object ≡ Some b → due_by t b.transfer ≡ None
