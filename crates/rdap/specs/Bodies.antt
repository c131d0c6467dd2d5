-- The bodies of answers (RFC 9083, 4 and 5): compact JSON, the members of each object in the order of
-- their names' bytes.
use Rattle.std.specs.Prelude.{ℕ, Bool, false, not, List, [], ◌∷◌, ◌++◌, map, filter, Option, Some, None, Result, Ok, Err, codes}
use Rattle.std.specs.List.{dedup}
use Rattle.std.specs.Str.{bytes_eq}
use Rattle.serde_json.specs.Data.{Data, string, array, object}
use Rattle.serde_json.specs.View.{items_of}
use Rattle.serde_json.specs.Written.{compact_text}
use Rattle.jsonobjects.specs.Members.{members_with, texts_value, moment_value}
use Rattle.names.specs.Addresses.{has_colon}
use Rattle.names.specs.Canonical.{unicode_of}
use Rattle.names.specs.declared.fault.NameFault.{NameFault}
use Rattle.names.specs.Reading.{or_syntax}
use Rattle.objects.specs.declared.contact.ContactFace.{ContactFace}
use Rattle.objects.specs.declared.domain.DomainFace.{DomainFace}
use Rattle.objects.specs.declared.domain.Links.{Links}
use Rattle.objects.specs.declared.host.HostFace.{HostFace}
use Rattle.objects.specs.declared.grace.Standing.{Standing}
use Rattle.objects.specs.declared.status.Status.{Status}
use Rattle.objects.specs.Graces.{states_of}
use Rattle.objects.specs.Links.{has_name, in_order}
use Rattle.objects.specs.Roid.{roid_text}
use Rattle.policy.specs.Rules.{PolicyRules, id_at}
use Rattle.rdap.specs.declared.domain.Role.{Role}
use Rattle.rdap.specs.declared.domain.Role.TheVariants.{Registrant, Administrative, Technical, Registrar}
use Rattle.rdap.specs.StatusWords.{status_words}

-- what every answer conforms to (RFC 9083, 4.1)
abbrev pub conformance : Data
conformance = texts_value (codes "rdap_level_0" ∷ [])

-- ---- events (RFC 9083, 4.5), where they have a date

abbrev pub event_members : List ℕ → ℕ → List (List ℕ × Option Data)
event_members action date = (codes "eventAction", Some (string action)) ∷ (codes "eventDate", Some (moment_value date)) ∷ []

abbrev pub event_value : List ℕ → ℕ → Data
event_value action date = object (members_with (event_members action date))

abbrev pub event_if_dated : List ℕ → Option ℕ → List Data
event_if_dated action None = []
event_if_dated action (Some date) = event_value action date ∷ []

abbrev pub events : ℕ → Option ℕ → Option ℕ → Option ℕ → List Data
events created expires updated transferred =
    ((event_if_dated (codes "registration") (Some created)
    ++ event_if_dated (codes "expiration") expires)
    ++ event_if_dated (codes "last changed") updated)
    ++ event_if_dated (codes "transfer") transferred

abbrev pub events_value : ℕ → Option ℕ → Option ℕ → Option ℕ → Data
events_value created expires updated transferred =
    array (items_of (events created expires updated transferred))

-- ---- names in Unicode (RFC 9083, 3)

abbrev pub text_if_valid : Result (List ℕ) NameFault → Option Data
text_if_valid (Ok text) = Some (string text)
text_if_valid (Err fault) = None

abbrev pub unicode_value : List ℕ → Option Data
unicode_value name = text_if_valid (or_syntax (unicode_of name))

-- ---- nameservers (RFC 9083, 5.2), by their names

-- an address of version 6 has a colon (RFC 3596, 2.1), and others are of version 4 (RFC 1035, 3.4.1)
abbrev pub is_version_6 : List ℕ → Bool
is_version_6 address = has_colon address

-- the addresses of one version, if there are any
abbrev pub some_texts : List (List ℕ) → Option Data
some_texts [] = None
some_texts (text ∷ texts) = Some (texts_value (text ∷ texts))

abbrev pub of_version_4 : List (List ℕ) → List (List ℕ)
of_version_4 addresses = filter (λ address. not (is_version_6 address)) addresses

abbrev pub of_version_6 : List (List ℕ) → List (List ℕ)
of_version_6 addresses = filter is_version_6 addresses

abbrev pub address_members : List (List ℕ) → List (List ℕ × Option Data)
address_members addresses = (codes "v4", some_texts (of_version_4 addresses)) ∷ (codes "v6", some_texts (of_version_6 addresses)) ∷ []

abbrev pub addresses_object : List (List ℕ) → Data
addresses_object addresses = object (members_with (address_members addresses))

abbrev pub addresses_value : List (List ℕ) → Option Data
addresses_value [] = None
addresses_value (address ∷ addresses) = Some (addresses_object (address ∷ addresses))

abbrev pub nameserver_members : List ℕ → HostFace → List (List ℕ × Option Data)
nameserver_members name h =
    (codes "events", Some (events_value h.created None h.updated None))
    ∷ (codes "handle", Some (string (roid_text h.roid)))
    ∷ (codes "ipAddresses", addresses_value h.addresses)
    ∷ (codes "ldhName", Some (string name))
    ∷ (codes "objectClassName", Some (string (codes "nameserver")))
    ∷ (codes "rdapConformance", Some conformance)
    ∷ (codes "status", Some (texts_value (status_words h.statuses [])))
    ∷ (codes "unicodeName", unicode_value name) ∷ []

abbrev pub nameserver_value : List ℕ → HostFace → Data
nameserver_value name h = object (members_with (nameserver_members name h))

abbrev pub nameserver_text : List ℕ → HostFace → List ℕ
nameserver_text name h = compact_text (nameserver_value name h)

-- ---- entities (RFC 9083, 5.1)

-- a contact, by its name
abbrev pub members_of_entity : ContactFace → List (List ℕ × Option Data)
members_of_entity c =
    (codes "events", Some (events_value c.created None c.updated c.transferred))
    ∷ (codes "handle", Some (string c.name))
    ∷ (codes "objectClassName", Some (string (codes "entity")))
    ∷ (codes "rdapConformance", Some conformance)
    ∷ (codes "status", Some (texts_value (status_words c.statuses []))) ∷ []

abbrev pub entity_object : ContactFace → Data
entity_object c = object (members_with (members_of_entity c))

abbrev pub contact_text : ContactFace → List ℕ
contact_text c = compact_text (entity_object c)

-- ---- domains (RFC 9083, 5.3), by their names

abbrev pub role_text : Role → List ℕ
role_text Registrant = codes "registrant"
role_text Administrative = codes "administrative"
role_text Technical = codes "technical"
role_text Registrar = codes "registrar"

-- the contact has the role (RFC 9083, 10.2.4)
abbrev pub plays : Links → List ℕ → Role → Bool
plays links name Registrant = bytes_eq links.registrant name
plays links name Administrative = has_name links.admin name
plays links name Technical = has_name links.tech name
plays links name Registrar = false

abbrev pub contact_roles : List Role
contact_roles = Registrant ∷ Administrative ∷ Technical ∷ []

abbrev pub roles_of : Links → List ℕ → List Role
roles_of links name = filter (plays links name) contact_roles

abbrev pub role_members : List ℕ → List Role → List (List ℕ × Option Data)
role_members handle roles =
    (codes "handle", Some (string handle))
    ∷ (codes "objectClassName", Some (string (codes "entity")))
    ∷ (codes "roles", Some (texts_value (map role_text roles))) ∷ []

abbrev pub role_value : List ℕ → List Role → Data
role_value handle roles = object (members_with (role_members handle roles))

-- the contacts by name, each once
abbrev pub contact_names : Links → List (List ℕ)
contact_names links = dedup bytes_eq (in_order ((links.registrant ∷ links.admin) ++ links.tech))

abbrev pub contact_entity : Links → List ℕ → Data
contact_entity links name = role_value name (roles_of links name)

-- the sponsor's id, if the policy has one
abbrev pub registrar_entity : Option (List ℕ) → List Data
registrar_entity None = []
registrar_entity (Some id) = role_value id (Registrar ∷ []) ∷ []

abbrev pub entities : Option (List ℕ) → Links → List Data
entities sponsor links = map (contact_entity links) (contact_names links) ++ registrar_entity sponsor

abbrev pub members_of_host : List ℕ → List (List ℕ × Option Data)
members_of_host name = (codes "ldhName", Some (string name)) ∷ (codes "objectClassName", Some (string (codes "nameserver"))) ∷ []

abbrev pub host_object : List ℕ → Data
host_object name = object (members_with (members_of_host name))

abbrev pub standing_value : List Status → Standing → Data
standing_value statuses standing = texts_value (status_words statuses (states_of standing))

abbrev pub members_of_domain : PolicyRules → List ℕ → DomainFace → List (List ℕ × Option Data)
members_of_domain p name d =
    (codes "entities", Some (array (items_of (entities (id_at p d.sponsor) d.links))))
    ∷ (codes "events", Some (events_value d.created (Some d.expires) d.updated d.transferred))
    ∷ (codes "handle", Some (string (roid_text d.roid)))
    ∷ (codes "ldhName", Some (string name))
    ∷ (codes "nameservers", Some (array (items_of (map host_object d.links.hosts))))
    ∷ (codes "objectClassName", Some (string (codes "domain")))
    ∷ (codes "rdapConformance", Some conformance)
    ∷ (codes "status", Some (standing_value d.statuses d.standing))
    ∷ (codes "unicodeName", unicode_value name) ∷ []

abbrev pub domain_object : PolicyRules → List ℕ → DomainFace → Data
domain_object p name d = object (members_with (members_of_domain p name d))

abbrev pub domain_text : PolicyRules → List ℕ → DomainFace → List ℕ
domain_text p name d = compact_text (domain_object p name d)
