-- What everyone may know of the objects of a registry, whoever asks.
use Rattle.std.specs.Prelude.{ℕ, Bool, false, List, Option, option_map}
use Rattle.std.specs.FinMap.{get}
use Rattle.facts.specs.declared.facts.HostFacts.{HostFacts}
use Rattle.facts.specs.Facts.{host_sponsor, is_linked_contact, is_linked_host}
use Rattle.model.specs.Registry.{Registry}
use Rattle.model.specs.Standing.{standing_of}
use Rattle.names.specs.Zone.{ZoneRules}
use Rattle.objects.specs.declared.contact.Contact.{Contact}
use Rattle.objects.specs.declared.contact.ContactFace.{ContactFace}
use Rattle.objects.specs.declared.domain.Domain.{Domain}
use Rattle.objects.specs.declared.domain.DomainFace.{DomainFace}
use Rattle.objects.specs.declared.host.Host.{Host}
use Rattle.objects.specs.declared.host.HostFace.{HostFace}
use Rattle.objects.specs.Contacts.{contact_face_of}
use Rattle.objects.specs.Domains.{face_of}
use Rattle.policy.specs.Rules.{PolicyRules}
use Rattle.books.specs.Lookups.{superordinate_in}
use Rattle.rules.specs.ResponseData.{host_info, with_shown_link}

-- a domain, with the graces and the phase that it has at the registry's clock
abbrev pub domain_face : PolicyRules → Registry → Domain → DomainFace
domain_face p s d = face_of (standing_of p s d) d

-- a contact, with the status linked where a domain names it
abbrev pub contact_face : Registry → List ℕ → Contact → ContactFace
contact_face s name c = with_shown_link (is_linked_contact s name) (contact_face_of c)

-- what there is at a host's name, given whether a domain names it
abbrev pub host_facts_given : Registry → Bool → List ℕ → HostFacts
host_facts_given s linked name = record { name = name; host = get s.hosts name; superordinate = superordinate_in s name; linked = linked }

abbrev pub sponsor_of_host : ZoneRules → Registry → List ℕ → Host → Option ℕ
sponsor_of_host zone s name h = host_sponsor zone (host_facts_given s false name) h

-- a host, as its info shows it to everyone
abbrev pub host_face_shown : PolicyRules → Registry → Bool → List ℕ → Host → HostFace
host_face_shown p s linked name h = (host_info p (host_facts_given s linked name) h).face

abbrev pub host_face : PolicyRules → Registry → List ℕ → Host → HostFace
host_face p s name h = host_face_shown p s (is_linked_host s name) name h

-- ---- the face under a name

abbrev pub domain_face_at : PolicyRules → Registry → List ℕ → Option DomainFace
domain_face_at p s name = option_map (domain_face p s) (get s.domains name)

abbrev pub contact_face_at : Registry → List ℕ → Option ContactFace
contact_face_at s name = option_map (contact_face s name) (get s.contacts name)

abbrev pub host_face_at : PolicyRules → Registry → List ℕ → Option HostFace
host_face_at p s name = option_map (host_face p s name) (get s.hosts name)
