-- No body has a float.
use Rattle.std.proofs.{Common.{ℕ, List, [], ◌∷◌, ◌++◌, Option, Some, None, refl, Result, Ok, Err, codes}, lemmas.Bool.{or_parts, or_from}}
use Rattle.std.specs.Prelude.{IfSome, map}
use Rattle.serde_json.specs.{Data.{Data, array}, View.items_of, Written.has_float}
use Rattle.jsonobjects.proofs.Floats.{IsPlain, items_plain, members_plain, texts}
use Rattle.names.specs.{Canonical.unicode_of, declared.fault.NameFault.NameFault, Reading.or_syntax}
use Rattle.objects.specs.declared.{contact.ContactFace.ContactFace, domain.{DomainFace.DomainFace, Links.Links}, host.HostFace.HostFace}
use Rattle.objects.specs.Graces.{states_of}
use Rattle.policy.specs.Rules.{PolicyRules, id_at}
use Rattle.rdap.specs.declared.domain.Role.{Role, TheVariants.Registrar}
use Rattle.rdap.specs.Bodies.{address_members, addresses_value, members_of_entity, entity_object, event_if_dated, events_value, nameserver_members, nameserver_value, of_version_4, of_version_6, text_if_valid, some_texts, contact_entity, contact_names, members_of_domain, domain_object, entities, members_of_host, host_object, registrar_entity, role_members, role_text, role_value, roles_of}
use Rattle.rdap.specs.StatusWords.{status_words}

abbrev ArePlainItems : List Data → Type 0
ArePlainItems items = IsPlain (array (items_of items))

pub append_plain : (xs ys : List Data) → ArePlainItems xs → ArePlainItems ys → ArePlainItems (xs ++ ys)
append_plain [] ys p q = q
append_plain (x ∷ xs) ys p q = let parts = or_parts (has_float x) _ p in or_from _ _ parts.0 (append_plain xs ys parts.1 q)

dated_plain : (action : List ℕ) (date : Option ℕ) → ArePlainItems (event_if_dated action date)
dated_plain action None = refl
dated_plain action (Some date) = refl

pub events_plain : (created : ℕ) (expires updated transferred : Option ℕ) → IsPlain (events_value created expires updated transferred)
events_plain created expires updated transferred =
    let first : List Data = event_if_dated (codes "registration") (Some created) in
    let second : List Data = event_if_dated (codes "expiration") expires in
    let third : List Data = event_if_dated (codes "last changed") updated in
    let two = append_plain first second (dated_plain (codes "registration") (Some created)) (dated_plain (codes "expiration") expires) in
    let three = append_plain (first ++ second) third two (dated_plain (codes "last changed") updated) in
    append_plain ((first ++ second) ++ third) (event_if_dated (codes "transfer") transferred) three (dated_plain (codes "transfer") transferred)

pub shown_plain : (read : Result (List ℕ) NameFault) → IfSome (text_if_valid read) IsPlain
shown_plain (Ok text) = refl
shown_plain (Err fault) = tt

some_texts_plain : (ts : List (List ℕ)) → IfSome (some_texts ts) IsPlain
some_texts_plain [] = tt
some_texts_plain (t ∷ ts) = texts (t ∷ ts)

addresses_plain : (addresses : List (List ℕ)) → IfSome (addresses_value addresses) IsPlain
addresses_plain [] = tt
addresses_plain (a ∷ addresses) = members_plain (address_members (a ∷ addresses)) (some_texts_plain (of_version_4 (a ∷ addresses)), (some_texts_plain (of_version_6 (a ∷ addresses)), tt))

pub nameserver_plain : (name : List ℕ) (h : HostFace) → IsPlain (nameserver_value name h)
nameserver_plain name h = members_plain (nameserver_members name h) (
  events_plain h.created None h.updated None,
  (refl, (addresses_plain h.addresses, (refl, (refl, (refl, (texts (status_words h.statuses []), (shown_plain (or_syntax (unicode_of name)), tt))))))),
)

pub contact_plain : (c : ContactFace) → IsPlain (entity_object c)
contact_plain c = members_plain (members_of_entity c) (events_plain c.created None c.updated c.transferred, (refl, (refl, (refl, (texts (status_words c.statuses []), tt)))))

role_plain : (handle : List ℕ) (roles : List Role) → IsPlain (role_value handle roles)
role_plain handle roles = members_plain (role_members handle roles) (refl, (refl, (texts (map role_text roles), tt)))

registrar_plain : (sponsor : Option (List ℕ)) → ArePlainItems (registrar_entity sponsor)
registrar_plain None = refl
registrar_plain (Some id) = or_from _ _ (role_plain id (Registrar ∷ [])) refl

entities_plain : (sponsor : Option (List ℕ)) (links : Links) → ArePlainItems (entities sponsor links)
entities_plain sponsor links =
    append_plain (map (contact_entity links) (contact_names links)) (registrar_entity sponsor)
    (items_plain (contact_entity links) (contact_names links) (λ name. role_plain name (roles_of links name))) (registrar_plain sponsor)

host_plain : (name : List ℕ) → IsPlain (host_object name)
host_plain name = members_plain (members_of_host name) (refl, (refl, tt))

pub domain_plain : (p : PolicyRules) (name : List ℕ) (d : DomainFace) → IsPlain (domain_object p name d)
domain_plain p name d = members_plain (members_of_domain p name d) (
  entities_plain (id_at p d.sponsor) d.links,
  (
    events_plain d.created (Some d.expires) d.updated d.transferred,
    (refl, (refl, (items_plain host_object d.links.hosts host_plain, (refl, (refl, (texts (status_words d.statuses (states_of d.standing)), (shown_plain (or_syntax (unicode_of name)), tt))))))),
  ),
)
