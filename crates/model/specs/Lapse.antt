-- What time alone makes of a registry.
use Rattle.std.specs.Prelude.{ℕ, max, Bool, false, ◌||◌, List, [], ◌∷◌, ◌++◌, Option, Some, None, fold, if◌then◌else◌}
use Rattle.std.specs.Cmp.Lexicographic.{slice_cmp}
use Rattle.std.specs.FinMap.{FinMap, get, insert, remove}
use Rattle.std.specs.Ordering.{eq_by_cmp, nat_cmp}
use Rattle.accounts.specs.declared.account.Account.{Account}
use Rattle.accounts.specs.declared.entries.Posting.{Posting}
use Rattle.accounts.specs.declared.message.Subject.{Subject}
use Rattle.accounts.specs.declared.message.Subject.TheVariants as subjects
use Rattle.accounts.specs.Entries.{posted}
use Rattle.basis.specs.Sweeps.{given, kept}
use Rattle.lifecycle.specs.declared.lapsed.Lapsed.{Lapsed}
use Rattle.lifecycle.specs.Lapse.{lapse as lapse_domain, lapse_contact}
use Rattle.objects.specs.declared.contact.Contact.{Contact}
use Rattle.objects.specs.declared.domain.Domain.{Domain}
use Rattle.policy.specs.Rules.{PolicyRules}
use Rattle.model.specs.Registry.{Registry}

-- ---- the lapse of a registry

-- the contacts, each as its own lapse leaves it
unfoldable pub contacts_at : ℕ → FinMap (slice_cmp nat_cmp) Contact
    → FinMap (slice_cmp nat_cmp) Contact
contacts_at t contacts = kept (λ name c. (lapse_contact t c).object) contacts

-- the domains, each as its own lapse leaves it, or gone
unfoldable pub domains_at : PolicyRules → ℕ → FinMap (slice_cmp nat_cmp) Domain
    → FinMap (slice_cmp nat_cmp) Domain
domains_at p t domains = kept (λ name d. (lapse_domain p t d).object) domains

-- what contacts and domains post into accounts, where this becomes of each
abbrev pub postings : (List ℕ → Contact → Lapsed Contact) → (List ℕ → Domain → Lapsed Domain)
    → Registry → List Posting
postings contact domain s = given (λ name c. (contact name c).postings) s.contacts ++ given (λ name d. (domain name d).postings) s.domains

-- the accounts, with all that these lapses post into them
unfoldable pub accounts_at : PolicyRules → ℕ → Registry → FinMap nat_cmp Account
accounts_at p t s =
    fold posted s.accounts (postings (λ name. lapse_contact t) (λ name. lapse_domain p t) s)

-- what time alone makes of a registry up to a moment; hosts have no lapse
abbrev pub lapse : PolicyRules → ℕ → Registry → Registry
lapse p t s = record {
  contacts = contacts_at t s.contacts;
  hosts = s.hosts;
  domains = domains_at p t s.domains;
  accounts = accounts_at p t s;
  clock = t;
}

-- the registry as a call at a moment finds it: a moment before the clock counts as the clock
abbrev pub lapsed : PolicyRules → ℕ → Registry → Registry
lapsed p moment s = lapse p (max moment s.clock) s

-- The registry with all that is due by its own clock. Two values with one `now` are the same registry.
abbrev pub now : PolicyRules → Registry → Registry
now p s = lapse p s.clock s

-- ---- the lapse of some objects

-- each contact and each domain is replaced by what becomes of it, or is gone, and what they post is
-- entered into the accounts
abbrev pub swept : (List ℕ → Contact → Lapsed Contact) → (List ℕ → Domain → Lapsed Domain)
    → Registry → Registry
swept contact domain s = record s {
  contacts = kept (λ name c. (contact name c).object) s.contacts;
  domains = kept (λ name d. (domain name d).object) s.domains;
  accounts = fold posted s.accounts (postings contact domain s);
}

abbrev pub at : ℕ → Registry → Registry
at moment s = record s { clock = moment }

-- the contacts and the domains whose names pass the tests
pub record Choice : Type 0 where
  pub contacts : List ℕ → Bool
  pub domains : List ℕ → Bool

-- an object that isn't chosen stays, and posts nothing
abbrev pub lapse_if : {X : Type 0} → Bool → Lapsed X → X → Lapsed X
lapse_if chosen l x = record {
  object = if chosen then l.object else Some x;
  postings = if chosen then l.postings else [];
}

-- the registry with those that are chosen as their own lapses leave them
abbrev pub lapse_some : PolicyRules → Choice → ℕ → Registry → Registry
lapse_some p chosen t s = swept
    (λ name c. lapse_if (chosen.contacts name) (lapse_contact t c) c)
    (λ name d. lapse_if (chosen.domains name) (lapse_domain p t d) d) s

abbrev pub either : Choice → Choice → Choice
either x y = record {
  contacts = λ name. x.contacts name || y.contacts name;
  domains = λ name. x.domains name || y.domains name;
}

abbrev pub nothing : Choice
nothing = record { contacts = λ name. false; domains = λ name. false }

-- ---- one object after another, each looked up by its name

abbrev pub is_named : List ℕ → List ℕ → Bool
is_named name other = eq_by_cmp (slice_cmp nat_cmp) name other

-- the object of that name alone
abbrev pub only : Subject → List ℕ → Choice
only subjects.Contact name = record { contacts = is_named name; domains = λ other. false }
only subjects.Domain name = record { contacts = λ other. false; domains = is_named name }

abbrev pub among : List (Subject × List ℕ) → Choice
among [] = nothing
among (object ∷ objects) = either (only object.0 object.1) (among objects)

-- the map with what became of the value under a name
abbrev pub put_or_drop : {X : Type 0} → FinMap (slice_cmp nat_cmp) X → List ℕ → Option X
    → FinMap (slice_cmp nat_cmp) X
put_or_drop m name None = remove m name
put_or_drop m name (Some x) = insert m name x

abbrev pub with_contact_lapsed : ℕ → List ℕ → Option Contact → Registry → Registry
with_contact_lapsed t name None s = s
with_contact_lapsed t name (Some c) s = record s {
  contacts = put_or_drop s.contacts name (lapse_contact t c).object;
  accounts = fold posted s.accounts (lapse_contact t c).postings;
}

abbrev pub with_domain_lapsed : PolicyRules → ℕ → List ℕ → Option Domain → Registry → Registry
with_domain_lapsed p t name None s = s
with_domain_lapsed p t name (Some d) s = record s {
  domains = put_or_drop s.domains name (lapse_domain p t d).object;
  accounts = fold posted s.accounts (lapse_domain p t d).postings;
}

-- the object of a name is replaced by its own lapse, or removed, and its postings are entered; where
-- there is none, nothing changes
abbrev pub lapse_one : PolicyRules → ℕ → Subject → List ℕ → Registry → Registry
lapse_one p t subjects.Contact name s = with_contact_lapsed t name (get s.contacts name) s
lapse_one p t subjects.Domain name s = with_domain_lapsed p t name (get s.domains name) s

abbrev pub lapse_each : PolicyRules → ℕ → List (Subject × List ℕ) → Registry → Registry
lapse_each p t objects s = fold (λ s object. lapse_one p t object.0 object.1 s) s objects
