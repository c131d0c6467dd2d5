-- What everybody may look up is read off the public part.
use Rattle.std.proofs.Common.{◌≡◌, ℕ, Bool, not, ◌&&◌, cond, List, [], ◌∷◌, map, Option, Some, None, option_and_then, option_map, refl, sym, ap, ◌∙◌}
use Rattle.std.specs.List.{filter_map, list_any}
use Rattle.registry.proofs.Words.{Contact, Domain, entries, get, keys, LookUpsArePublic, nat_cmp, nat_list_cmp_total, PolicyRules, Registry}
use Rattle.registry.proofs.Words.{slice_cmp, unwrap_or, values}
use Rattle.basis.proofs.MapLemmas.{entries-map_values, get-map_values, map-twice, names_apart}
use Rattle.books.specs.Faces.{contact_face_at, domain_face, domain_face_at, host_face_at}
use Rattle.facts.specs.Facts.{is_inside, superordinate_of_domain}
use Rattle.isolation.specs.Public.{PublicPart, public_part}
use Rattle.model.specs.Zone.{delegations, glue_at, own_hosts, zone_data}
use Rattle.names.specs.Zone.{ZoneRules, last_two_of}
use Rattle.objects.specs.declared.{contact.ContactFace.ContactFace, domain.{DomainFace.DomainFace, Links.Links}, host.Host.Host}
use Rattle.objects.specs.declared.{host.HostFace.HostFace, status.Status.TheVariants.{ClientHold, PendingDelete, ServerHold}}
use Rattle.objects.specs.{declared.zone.{Delegation.Delegation, Glue.Glue, ZoneData.ZoneData}, Contacts.contact_face_of}
use Rattle.objects.specs.{Delegations.delegation_of, Domains.shows, Hosts.host_face_of, Links.{names_contact, names_host}}
use Rattle.objects.specs.Statuses.{has_status}
use Rattle.objects.proofs.StatusLemmas.{has_status-filter}
use Rattle.policy.proofs.TextLemmas.{list_any_of_map}
use Rattle.rules.specs.ResponseData.{with_shown_link}

-- ---- read off the public part

abbrev is_linked : (Links → Bool) → PublicPart → Bool
is_linked test part = list_any (λ face. test face.links) (values part.domains)

abbrev contact_read : List ℕ → PublicPart → Option ContactFace
contact_read name part = option_map (with_shown_link (is_linked (names_contact name) part)) (get part.contacts name)

-- the sponsor of the domain that a host is below
abbrev sponsor_above : PublicPart → Option (List ℕ) → Option ℕ
sponsor_above part above = option_map (λ face. face.sponsor) (option_and_then (get part.domains) above)

abbrev host_read : PolicyRules → List ℕ → PublicPart → Host → HostFace
host_read p name part h = host_face_of (unwrap_or (cond (is_inside p.zone name) (sponsor_above part (last_two_of name)) h.external_sponsor) 0) (is_linked (names_host name) part) h

-- what the zone has of a domain, by the statuses that it shows
abbrev delegation_read : DomainFace → Delegation
delegation_read face = record { name = face.name; hosts = cond (not (has_status face.statuses ClientHold) && not (has_status face.statuses ServerHold) && not (has_status face.statuses PendingDelete)) face.links.hosts [] }

abbrev delegations_read : PublicPart → List Delegation
delegations_read part = map delegation_read (values part.domains)

abbrev glue_read : PublicPart → List ℕ → Option Glue
glue_read part name = option_map (λ addresses. record { host = name; addresses = addresses }) (option_map (λ h. h.addresses) (get part.hosts name))

abbrev zone_read : ZoneRules → PublicPart → ZoneData
zone_read zone part = record { moment = part.clock; delegations = delegations_read part; glue = filter_map (glue_read part) (keys (own_hosts zone (delegations_read part))) }

-- ---- as it is found

module _ (p : PolicyRules) (s : Registry) where
  abbrev part : PublicPart
  part = public_part p s

  values-read : values part.domains ≡ map (domain_face p s) (values s.domains)
  values-read =
      ap (λ (es : List (List ℕ × DomainFace)). map (λ (e : List ℕ × DomainFace). e.1) es) (entries-map_values (slice_cmp nat_cmp) (λ name. domain_face p s) nat_list_cmp_total names_apart s.domains)
      ∙ by (entries s.domains)
    where
      by : (es : List (List ℕ × Domain)) → map (λ (e : List ℕ × DomainFace). e.1) (map (λ (e : List ℕ × Domain). (e.0, domain_face p s e.1)) es)
          ≡ map (domain_face p s) (map (λ (e : List ℕ × Domain). e.1) es)
      by [] = refl
      by (e ∷ es) = ap (λ (faces : List DomainFace). domain_face p s e.1 ∷ faces) (by es)

  domain-found : (name : List ℕ) → domain_face_at p s name ≡ get part.domains name
  domain-found name = sym (get-map_values (slice_cmp nat_cmp) nat_list_cmp_total names_apart (λ name. domain_face p s) s.domains name)

  linked-found : (test : Links → Bool) → list_any (λ d. test d.links) (values s.domains) ≡ is_linked test part
  linked-found test = sym (ap (list_any (λ (face : DomainFace). test face.links)) values-read ∙ list_any_of_map (λ face. test face.links) (domain_face p s) (values s.domains))

  contact-found : (name : List ℕ) → contact_face_at s name ≡ contact_read name part
  contact-found name =
      ap (λ (linked : Bool). option_map (λ (c : Contact). with_shown_link linked (contact_face_of c)) (get s.contacts name)) (linked-found (names_contact name))
      ∙ sym (ap (option_map (with_shown_link (is_linked (names_contact name) part))) (get-map_values (slice_cmp nat_cmp) nat_list_cmp_total names_apart (λ name. contact_face_of) s.contacts name)
      ∙ map-twice contact_face_of (with_shown_link (is_linked (names_contact name) part)) (λ c. with_shown_link (is_linked (names_contact name) part) (contact_face_of c)) (λ c. refl) (get s.contacts name))

  above-found : (above : Option (List ℕ)) → option_map (λ it. it.sponsor) (option_and_then (λ name. option_map superordinate_of_domain (get s.domains name)) above) ≡ sponsor_above part above
  above-found None = refl
  above-found (Some name) =
      map-twice superordinate_of_domain (λ it. it.sponsor) (λ d. d.sponsor) (λ d. refl) (get s.domains name)
      ∙ sym (ap (option_map (λ face. face.sponsor)) (sym (domain-found name))
      ∙ map-twice (domain_face p s) (λ face. face.sponsor) (λ d. d.sponsor) (λ d. refl) (get s.domains name))

  host-found : (name : List ℕ) → host_face_at p s name ≡ option_map (host_read p name part) (get part.hosts name)
  host-found name = λ i. option_map (λ (h : Host). host_face_of (unwrap_or (cond (is_inside p.zone name) (above-found (last_two_of name) i) h.external_sponsor) 0) (linked-found (names_host name) i) h) (get s.hosts name)

  delegation-found : (d : Domain) → delegation_of d ≡ delegation_read (domain_face p s d)
  delegation-found d = sym (λ i. record {
    name = d.name;
    hosts = cond (not (has_status-filter (shows d) ClientHold i) && not (has_status-filter (shows d) ServerHold i) && not (has_status-filter (shows d) PendingDelete i)) d.links.hosts [];
  })

  delegations-found : delegations s ≡ delegations_read part
  delegations-found = by (values s.domains) ∙ sym (ap (map delegation_read) values-read)
    where
      by : (ds : List Domain) → map delegation_of ds ≡ map delegation_read (map (domain_face p s) ds)
      by [] = refl
      by (d ∷ ds) = λ i. delegation-found d i ∷ by ds i

  zone-found : (zone : ZoneRules) → zone_data zone s ≡ zone_read zone part
  zone-found zone = λ i. record {
    moment = s.clock;
    delegations = delegations-found i;
    glue = filter_map (glue_at s) (keys (own_hosts zone (delegations-found i)));
  }

pub look-ups-are-public : LookUpsArePublic
look-ups-are-public p = record {
  domain = λ name. (λ part. get part.domains name, λ s. domain-found p s name);
  host = λ name. (λ part. option_map (host_read p name part) (get part.hosts name), λ s. host-found p s name);
  contact = λ name. (contact_read name, λ s. contact-found p s name);
  zone = (zone_read p.zone, λ s. zone-found p s p.zone);
}
