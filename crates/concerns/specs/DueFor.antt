-- Of all that is due, what concerns a registrar and some names.
use Rattle.std.specs.Prelude.{ℕ, Bool, false, ◌||◌, List, filter, Option}
use Rattle.std.specs.FinMap.{get}
use Rattle.concerns.specs.Concerns.{concerned, concerns_domain, is_about}
use Rattle.concerns.specs.declared.concern.Meant.{Meant}
use Rattle.concerns.specs.declared.given.Names.{Names}
use Rattle.lifecycle.specs.declared.due_object.Due.{Due}
use Rattle.model.specs.DueBy.{due_by}
use Rattle.model.specs.Lapse.{Choice}
use Rattle.model.specs.Registry.{Registry}
use Rattle.objects.specs.Links.{has_name}
use Rattle.objects.specs.declared.contact.Contact.{Contact}
use Rattle.objects.specs.declared.roid.ObjectKind.{ObjectKind}
use Rattle.objects.specs.declared.roid.ObjectKind.TheVariants as kinds
use Rattle.policy.specs.Rules.{PolicyRules}
use Rattle.protocol.specs.Requests.{holds_of}

abbrev pub picks : ObjectKind → Bool → Bool → Bool
picks kinds.Contact contact domain = contact
picks kinds.Domain contact domain = domain
picks kinds.Host contact domain = false

abbrev pub is_picked : Choice → Due → Bool
is_picked chosen d = picks d.kind (chosen.contacts d.name) (chosen.domains d.name)

-- the same, by what is meant by the names
abbrev pub picks_by : Option ℕ → Names → Meant → Registry → Due → Bool
picks_by r g m s d =
    picks d.kind (has_name m.contacts d.name || holds_of (λ (x : Contact). is_about r x.sponsor x.transfer) (get s.contacts d.name))
    (has_name m.domains d.name || holds_of (concerns_domain r g m.roids) (get s.domains d.name))

abbrev pub due_for : PolicyRules → Option ℕ → Names → ℕ → Registry → List Due
due_for p r g t s = filter (is_picked (concerned r g s)) (due_by p t s)
