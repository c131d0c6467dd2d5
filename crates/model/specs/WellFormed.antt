-- When a value of the registry's maps is well formed: what every call of the registry keeps. A reply is promised of
-- every value of the maps, and what a registrar sees afterwards of each that meets the standards (`Standards`), so
-- no promise of what a registrar may learn asks for more.
use Rattle.std.specs.Prelude.{◌≡◌, ◌≢◌, ℕ, ◌≤◌, ◌<◌, ◌^◌, ◌==◌, nat_lt, Bool, true, false, ◌&&◌, if◌then◌else◌, List, length, Option, Some, None, IsSome, ◌↔◌}
use Rattle.std.specs.Cmp.Lexicographic.{slice_cmp}
use Rattle.std.specs.FinMap.{FinMap, get}
use Rattle.std.specs.List.{All, filter, list_any}
use Rattle.std.specs.Ordering.{nat_cmp}
use Rattle.accounts.specs.declared.line.Line.{Line}
use Rattle.accounts.specs.declared.message.Message.{Message}
use Rattle.accounts.specs.Lines.{is_on, waits}
use Rattle.names.specs.Zone.{superordinate_of}
use Rattle.objects.specs.declared.contact.Contact.{Contact}
use Rattle.objects.specs.declared.domain.Domain.{Domain}
use Rattle.objects.specs.declared.domain.Deletion.{Deletion}
use Rattle.objects.specs.declared.host.Host.{Host}
use Rattle.objects.specs.declared.roid.ObjectKind.{ObjectKind}
use Rattle.objects.specs.declared.roid.ObjectKind.TheVariants as kinds
use Rattle.objects.specs.declared.roid.Roid.{Roid}
use Rattle.objects.specs.declared.transfer.Transfer.{Transfer}
use Rattle.objects.specs.Links.{names_contact, names_host}
use Rattle.objects.specs.Transfers.{is_pending, is_pending_state}
use Rattle.policy.specs.Rules.{PolicyRules, IsRegistrar}
use Rattle.model.specs.Registry.{Registry, account_of}
use Rattle.model.specs.Shapes.{HasShapes, end_of_expiries}

-- the ROID of an object of this kind: its creator's own number for it (RFC 5730, 2.8)
pub record HasRoid (p : PolicyRules) (s : Registry) (kind : ObjectKind) (roid : Roid) : Type 0 where
  pub kind_is : roid.kind ≡ kind
  pub creator : IsRegistrar p roid.creator
  pub serial : roid.serial ≤ (account_of roid.creator s).serial

-- a moment that is kept has been
abbrev pub HasBeen : Registry → Option ℕ → Type 0
HasBeen s None = Unit {0}
HasBeen s (Some moment) = moment ≤ s.clock

-- a moment that is kept is not before another
abbrev pub IsAfter : ℕ → Option ℕ → Type 0
IsAfter moment None = Unit {0}
IsAfter moment (Some earlier) = earlier ≤ moment

-- The record of a transfer lies between two registrars. The transfer was asked for, and one that isn't pending has
-- ended (RFC 5730, 2.9.3.4).
pub record IsTransferRecord (p : PolicyRules) (s : Registry) (t : Transfer) : Type 0 where
  pub requester : IsRegistrar p t.requester
  pub losing_registrar : IsRegistrar p t.losing_registrar
  pub requested : t.requested ≤ s.clock
  pub acted : is_pending_state t.state ≡ false → t.ac_date ≤ s.clock

-- A transfer was requested after the object's creation; one that is pending, after the last that was completed. What
-- is due is due before 2120, as expiries are.
pub record IsTransfer
    (p : PolicyRules) (s : Registry) (created : ℕ) (transferred : Option ℕ) (t : Transfer)
    : Type 0 where
  pub recorded : IsTransferRecord p s t
  pub begun : created ≤ t.requested
  pub next : is_pending_state t.state ≡ true → IsAfter t.requested transferred
  pub due : t.ac_date < end_of_expiries

abbrev pub IsLastTransfer : PolicyRules → Registry → ℕ → Option ℕ → Option Transfer → Type 0
IsLastTransfer p s created transferred None = Unit {0}
IsLastTransfer p s created transferred (Some t) = IsTransfer p s created transferred t

-- a moment that is kept is not before this one
abbrev pub IsSince : ℕ → Option ℕ → Type 0
IsSince moment None = Unit {0}
IsSince moment (Some later) = moment ≤ later

-- A deleted domain has neither subordinate hosts nor a pending transfer (RFC 5731, 3.2.2), and its restoration was
-- requested since it was deleted (RFC 3915, 4.2.5).
pub record IsDeleted (p : PolicyRules) (s : Registry) (d : Domain) (deletion : Deletion) : Type 0 where
  pub deleted : deletion.deleted ≤ s.clock
  pub requested : HasBeen s deletion.restore_requested
  pub since : IsSince deletion.deleted deletion.restore_requested
  pub hosts : (host : List ℕ) → IsSome (get s.hosts host)
      → superordinate_of p.zone host ≢ Some d.name
  pub transfer : is_pending d.transfer ≡ false

abbrev pub IsDeletion : PolicyRules → Registry → Domain → Option Deletion → Type 0
IsDeletion p s d None = Unit {0}
IsDeletion p s d (Some deletion) = IsDeleted p s d deletion

-- a pending transfer takes the object from its sponsor
abbrev pub IsFromSponsor : ℕ → Option Transfer → Type 0
IsFromSponsor sponsor None = Unit {0}
IsFromSponsor sponsor (Some t) = is_pending_state t.state ≡ true → t.losing_registrar ≡ sponsor

-- a contact has a name, a ROID, a sponsor and dates that have been (RFC 5733, 2)
pub record IsContactAt (p : PolicyRules) (s : Registry) (name : List ℕ) (c : Contact) : Type 0 where
  pub named : c.name ≡ name
  pub roid : HasRoid p s kinds.Contact c.roid
  pub sponsor : IsRegistrar p c.sponsor
  pub created : c.created ≤ s.clock
  pub transferred : HasBeen s c.transferred
  pub updated : HasBeen s c.updated

pub record IsContactOf (p : PolicyRules) (s : Registry) (name : List ℕ) (c : Contact) : Type 0 where
  pub is_at : IsContactAt p s name c
  pub transfer : IsLastTransfer p s c.created c.transferred c.transfer
  pub losing : IsFromSponsor c.sponsor c.transfer

-- a host in the zone has its superordinate domain, and no registrar of its own (RFC 5732, 1.1)
abbrev pub BelongsTo : PolicyRules → Registry → Option (List ℕ) → Option ℕ → Type 0
BelongsTo p s (Some domain) by = IsSome (get s.domains domain) × (by ≡ None)
BelongsTo p s None None = ⊥
BelongsTo p s None (Some registrar) = IsRegistrar p registrar

pub record IsHostOf (p : PolicyRules) (s : Registry) (name : List ℕ) (h : Host) : Type 0 where
  pub named : h.name ≡ name
  pub roid : HasRoid p s kinds.Host h.roid
  pub belongs : BelongsTo p s (superordinate_of p.zone name) h.external_sponsor
  pub created : h.created ≤ s.clock
  pub updated : HasBeen s h.updated

-- A domain has a name, a ROID, a sponsor and dates that have been (RFC 5731, 2), and names only contacts and hosts
-- that are there (3.2.1).
pub record IsDomainAt (p : PolicyRules) (s : Registry) (name : List ℕ) (d : Domain) : Type 0 where
  pub named : d.name ≡ name
  pub roid : HasRoid p s kinds.Domain d.roid
  pub sponsor : IsRegistrar p d.sponsor
  pub created : d.created ≤ s.clock
  pub transferred : HasBeen s d.transferred
  pub updated : HasBeen s d.updated
  pub deletion : IsDeletion p s d d.deletion
  pub contacts : (contact : List ℕ) → names_contact contact d.links ≡ true
      → IsSome (get s.contacts contact)
  pub hosts : (host : List ℕ) → names_host host d.links ≡ true → IsSome (get s.hosts host)

pub record IsDomainOf (p : PolicyRules) (s : Registry) (name : List ℕ) (d : Domain) : Type 0 where
  pub is_at : IsDomainAt p s name d
  pub transfer : IsLastTransfer p s d.created d.transferred d.transfer

-- no two objects of a kind share a ROID (RFC 5730, 2.8)
abbrev pub AreApart : {X : Type 0} → (X → Roid) → FinMap (slice_cmp nat_cmp) X → Type 0
AreApart {X} roid_of m =
    (a b : List ℕ) (x y : X) → get m a ≡ Some x → get m b ≡ Some y → roid_of x ≡ roid_of y → a ≡ b

abbrev pub contact_roid : Contact → Roid
contact_roid c = c.roid

abbrev pub host_roid : Host → Roid
host_roid h = h.roid

abbrev pub domain_roid : Domain → Roid
domain_roid d = d.roid

-- exactly the policy's registrars have accounts, and ROIDs tell the objects of a kind apart
pub record HasIdentities (p : PolicyRules) (s : Registry) : Type 0 where
  pub accounts : (r : ℕ) → IsSome (get s.accounts r) ↔ IsRegistrar p r
  pub contact_roids : AreApart contact_roid s.contacts
  pub host_roids : AreApart host_roid s.hosts
  pub domain_roids : AreApart domain_roid s.domains

-- each object is under its name, and domains name what is there
pub record HasObjects (p : PolicyRules) (s : Registry) : Type 0 where
  pub identities : HasIdentities p s
  pub contacts : (name : List ℕ) (c : Contact) → get s.contacts name ≡ Some c
      → IsContactOf p s name c
  pub hosts : (name : List ℕ) (h : Host) → get s.hosts name ≡ Some h → IsHostOf p s name h
  pub domains : (name : List ℕ) (d : Domain) → get s.domains name ≡ Some d → IsDomainOf p s name d

-- ---- what is charged for domains

-- the ROID is one that a domain was given
abbrev pub WasGiven : PolicyRules → Registry → Option Roid → Type 0
WasGiven p s None = Unit {0}
WasGiven p s (Some roid) = HasRoid p s kinds.Domain roid

-- a line is of a domain that is there or was, and none of its moments is ahead of the clock
pub record IsLineOf (p : PolicyRules) (s : Registry) (l : Line) : Type 0 where
  pub roid : WasGiven p s l.roid
  pub recorded : l.recorded ≤ s.clock
  pub started : HasBeen s l.started
  pub refunded : HasBeen s l.refunded

-- a grace began after a moment; after none, it began at all
abbrev pub is_begun_after : Option ℕ → Option ℕ → Bool
is_begun_after last None = false
is_begun_after None (Some started) = true
is_begun_after (Some last) (Some started) = nat_lt last started

abbrev pub begins_after : Roid → Option ℕ → Line → Bool
begins_after roid last l = is_on roid l && is_begun_after last l.started

-- how many charges of a registrar wait for the completion of a transfer: its requester's one
abbrev pub charges_waiting : ℕ → Option Transfer → ℕ
charges_waiting r None = 0
charges_waiting r (Some t) = if is_pending_state t.state && (t.requester == r) then 1 else 0

-- a moment is later than another that is kept
abbrev pub IsLater : ℕ → Option ℕ → Type 0
IsLater moment None = Unit {0}
IsLater moment (Some earlier) = earlier < moment

-- A pending transfer takes the domain from its sponsor to another registrar. It was requested after
-- the creation and the last transfer, and no grace of the sponsor's begins after it is due (RFC 5730,
-- 2.9.3.4).
pub record IsAwaited (s : Registry) (d : Domain) (t : Transfer) : Type 0 where
  pub losing_registrar : t.losing_registrar ≡ d.sponsor
  pub requester : t.requester ≢ d.sponsor
  pub created : d.created < t.requested
  pub transferred : IsLater t.requested d.transferred
  pub due : t.requested ≤ t.ac_date
  pub lines : list_any (begins_after d.roid (Some t.ac_date)) (account_of d.sponsor s).lines ≡ false

abbrev pub IsAwaitedIfPending : Registry → Domain → Option Transfer → Type 0
IsAwaitedIfPending s d None = Unit {0}
IsAwaitedIfPending s d (Some t) = is_pending_state t.state ≡ true → IsAwaited s d t

-- Whoever doesn't sponsor a domain has no grace on it that began after it was last transferred: the
-- graces of a sponsor end with its sponsorship (RFC 3915, 3.1). One charge waits for each transfer that
-- is pending, and none for any other.
pub record HasLinesOn (s : Registry) (d : Domain) : Type 0 where
  pub elsewhere : (r : ℕ) → r ≢ d.sponsor
      → list_any (begins_after d.roid d.transferred) (account_of r s).lines ≡ false
  pub waiting : (r : ℕ)
      → length (filter (waits d.roid) (account_of r s).lines) ≡ charges_waiting r d.transfer
  pub awaited : IsAwaitedIfPending s d d.transfer

-- the lines of all accounts
pub record HasLines (p : PolicyRules) (s : Registry) : Type 0 where
  pub each : (r : ℕ) → All (IsLineOf p s) (account_of r s).lines
  pub domains : (name : List ℕ) (d : Domain) → get s.domains name ≡ Some d → HasLinesOn s d

-- ---- messages to registrars

-- a message is of a moment that has come
abbrev pub HasCome : ℕ → Message → Type 0
HasCome t m = m.moment ≤ t

abbrev pub HasMessages : Registry → Type 0
HasMessages s = (r : ℕ) → All (HasCome s.clock) (account_of r s).queue

-- the latest moment of a clock, as no call is taken later: 2099-12-31T23:59:59Z
abbrev pub last_clock : ℕ
last_clock = 4_102_444_799

-- a well-formed registry
pub record IsRegistry (p : PolicyRules) (s : Registry) : Type 0 where
  pub clock : s.clock ≤ last_clock
  pub objects : HasObjects p s
  pub lines : HasLines p s
  pub messages : HasMessages s
  pub shapes : HasShapes p.zone s

-- A counter stays at its greatest value, and two objects would then share a ROID: the registrar's own number of what
-- it creates is far below it.
abbrev pub HasNumbersLeft : ℕ → Registry → Type 0
HasNumbersLeft r s = (account_of r s).serial < 2 ^ 62
