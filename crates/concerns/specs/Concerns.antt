-- What a registrar and some names concern: the contacts and domains that bear on the registrar's account,
-- or on what is found at these names. All others may be behind the clock.
use Rattle.std.specs.Prelude.{◌≡◌, ◌<◌, ℕ, Bool, true, false, not, ◌&&◌, ◌||◌, ◌==◌, List, ◌++◌, Option, Some, None, option_map}
use Rattle.std.specs.Cmp.Lexicographic.{slice_cmp}
use Rattle.std.specs.FinMap.{FinMap, get}
use Rattle.std.specs.List.{filter_map, list_any}
use Rattle.std.specs.Ordering.{nat_cmp}
use Rattle.accounts.specs.Lines.{is_same_roid}
use Rattle.lifecycle.specs.Lapse.{due_at, due_by}
use Rattle.model.specs.Lapse.{Choice}
use Rattle.model.specs.Registry.{Registry}
use Rattle.objects.specs.declared.contact.Contact.{Contact}
use Rattle.objects.specs.declared.domain.Domain.{Domain}
use Rattle.objects.specs.declared.roid.Roid.{Roid}
use Rattle.objects.specs.declared.transfer.Transfer.{Transfer}
use Rattle.objects.specs.Links.{has_name, names_contact, names_host}
use Rattle.objects.specs.Transfers.{is_pending_state, names}
use Rattle.policy.specs.Rules.{PolicyRules}
use Rattle.protocol.specs.Requests.{holds_of}
use Rattle.concerns.specs.declared.concern.Meant.{Meant}
use Rattle.concerns.specs.declared.given.Names.{Names}

-- ---- whom an object is about

-- a pending transfer brings the object to the registrar, or takes it away
abbrev pub is_at_stake : ℕ → Option Transfer → Bool
is_at_stake r None = false
is_at_stake r (Some t) = is_pending_state t.state && names r t

-- the registrar sponsors it, or it is at stake
abbrev pub is_about : Option ℕ → ℕ → Option Transfer → Bool
is_about None sponsor transfer = false
is_about (Some r) sponsor transfer = (sponsor == r) || is_at_stake r transfer

-- ---- what is named, and what is there

-- what is read off the objects under these names
abbrev pub read_at : {X A : Type 0} → (X → A) → FinMap (slice_cmp nat_cmp) X → List (List ℕ)
    → List A
read_at of m names = filter_map (λ n. option_map of (get m n)) names

-- The names, and those that the objects under them bear: of a registry, the same. A change puts an
-- object under the name that it bears.
abbrev pub meant : {X : Type 0} → (X → List ℕ) → FinMap (slice_cmp nat_cmp) X → List (List ℕ)
    → List (List ℕ)
meant name_of m names = names ++ read_at name_of m names

abbrev pub contact_name : Contact → List ℕ
contact_name c = c.name

abbrev pub domain_name : Domain → List ℕ
domain_name d = d.name

abbrev pub domain_roid : Domain → Roid
domain_roid d = d.roid

-- ---- what is concerned

-- A domain that is the registrar's, or has one of these ROIDs, or names a contact or host that is named
abbrev pub concerns_domain : Option ℕ → Names → List Roid → Domain → Bool
concerns_domain r g roids d =
    is_about r d.sponsor d.transfer
    || (list_any (is_same_roid d.roid) roids
    || (list_any (λ contact. names_contact contact d.links) g.contacts
    || list_any (λ host. names_host host d.links) g.hosts))

-- The ROIDs are those of the domains under the names: of a registry, no other domain has one of them.
-- Graces are read off lines by ROIDs.
abbrev pub is_concerned : Option ℕ → Names → Registry → Domain → Bool
is_concerned r g s d = concerns_domain r g (read_at domain_roid s.domains g.domains) d

-- what is meant by names in a registry
abbrev pub meant_at : Names → Registry → Meant
meant_at g s = record {
  contacts = meant contact_name s.contacts g.contacts;
  domains = meant domain_name s.domains g.domains;
  roids = read_at domain_roid s.domains g.domains;
}

abbrev pub concerned : Option ℕ → Names → Registry → Choice
concerned r g s = record {
  contacts = λ name. has_name (meant contact_name s.contacts g.contacts) name || holds_of (λ (x : Contact). is_about r x.sponsor x.transfer) (get s.contacts name);
  domains = λ name. has_name (meant domain_name s.domains g.domains) name || holds_of (is_concerned r g s) (get s.domains name);
}

-- ---- a registry in which what is concerned has lapsed

-- nothing that is chosen is due by the registry's own clock
pub record IsSettledIn (p : PolicyRules) (chosen : Choice) (s : Registry) : Type 0 where
  pub contacts : (name : List ℕ) (c : Contact) → get s.contacts name ≡ Some c
      → chosen.contacts name ≡ true → due_by s.clock c.transfer ≡ None
  pub domains : (name : List ℕ) (d : Domain) → get s.domains name ≡ Some d
      → chosen.domains name ≡ true → s.clock < due_at p d

-- among what is chosen is all that is due by a moment and concerned
pub record HasConcerned (p : PolicyRules) (r : Option ℕ) (g : Names) (t : ℕ) (chosen : Choice) (s : Registry) : Type 0 where
  pub contacts : (name : List ℕ) (x : Contact) → get s.contacts name ≡ Some x
      → (concerned r g s).contacts name ≡ true → chosen.contacts name ≡ false
      → due_by t x.transfer ≡ None
  pub domains : (name : List ℕ) (d : Domain) → get s.domains name ≡ Some d
      → (concerned r g s).domains name ≡ true → chosen.domains name ≡ false → t < due_at p d

-- the others
abbrev pub without : Choice → Choice
without chosen = record { contacts = λ name. not (chosen.contacts name); domains = λ name. not (chosen.domains name) }
