-- When a value of the registry's maps is a registry by the standards. What a registrar sees after a command is
-- promised of these; the calls keep more (`WellFormed`), and each registry that is well formed is one of these.
use Rattle.std.specs.Prelude.{◌≡◌, ◌≢◌, ℕ, ◌≤◌, ◌<◌, true, false, List, length, Some, IfSome}
use Rattle.std.specs.FinMap.{get}
use Rattle.std.specs.List.{All, filter, list_any}
use Rattle.accounts.specs.Lines.{waits}
use Rattle.objects.specs.declared.contact.Contact.{Contact}
use Rattle.objects.specs.declared.domain.Domain.{Domain}
use Rattle.objects.specs.declared.host.Host.{Host}
use Rattle.objects.specs.declared.transfer.Transfer.{Transfer}
use Rattle.objects.specs.Transfers.{is_pending_state}
use Rattle.policy.specs.Rules.{PolicyRules}
use Rattle.model.specs.Registry.{Registry, account_of}
use Rattle.model.specs.WellFormed.{HasIdentities, HasMessages, IsContactAt, IsDomainAt, IsHostOf, IsLater, IsLineOf, IsRegistry, IsTransferRecord, begins_after, last_clock}

-- a contact is under its name, and its transfer is a record of one (RFC 5733, 2)
pub record IsStandardContact (p : PolicyRules) (s : Registry) (name : List ℕ) (c : Contact) : Type 0 where
  pub is_at : IsContactAt p s name c
  pub transfer : IfSome c.transfer (IsTransferRecord p s)

-- A domain's pending transfer was asked for after its creation and its last transfer (what was created or
-- transferred is locked for days), and one charge of its requester waits for its completion.
pub record IsStandardRequest (s : Registry) (d : Domain) (t : Transfer) : Type 0 where
  pub created : d.created < t.requested
  pub transferred : IsLater t.requested d.transferred
  pub charge : length (filter (waits d.roid) (account_of t.requester s).lines) ≡ 1

-- A domain is under its name (RFC 5731, 2), and its transfer is a record of one. The graces of a sponsor end with
-- its sponsorship: nobody else has one that began after the last transfer (RFC 3915, 3.1).
pub record IsStandardDomain (p : PolicyRules) (s : Registry) (name : List ℕ) (d : Domain) : Type 0 where
  pub is_at : IsDomainAt p s name d
  pub transfer : IfSome d.transfer (IsTransferRecord p s)
  pub awaited : IfSome d.transfer (λ (t : Transfer). is_pending_state t.state ≡ true → IsStandardRequest s d t)
  pub elsewhere : (r : ℕ) → r ≢ d.sponsor
      → list_any (begins_after d.roid d.transferred) (account_of r s).lines ≡ false

-- Exactly the policy's registrars have accounts. Objects are under their names; a host in the zone has its
-- superordinate domain (RFC 5732, 1.1); and no two objects of a kind share a ROID (RFC 5730, 2.8). No call is
-- taken later than the last moment.
pub record MeetsStandards (p : PolicyRules) (s : Registry) : Type 0 where
  pub clock : s.clock ≤ last_clock
  pub identities : HasIdentities p s
  pub contacts : (name : List ℕ) (c : Contact) → get s.contacts name ≡ Some c
      → IsStandardContact p s name c
  pub hosts : (name : List ℕ) (h : Host) → get s.hosts name ≡ Some h → IsHostOf p s name h
  pub domains : (name : List ℕ) (d : Domain) → get s.domains name ≡ Some d
      → IsStandardDomain p s name d
  pub lines : (r : ℕ) → All (IsLineOf p s) (account_of r s).lines
  pub messages : HasMessages s

-- a well formed registry is one by the standards
abbrev pub RegistriesMeetStandards : Type 0
RegistriesMeetStandards = (p : PolicyRules) (s : Registry) → IsRegistry p s → MeetsStandards p s
