-- What leads from the row of a domain to what the domain names, and when it says that it is due.
use Rattle.std.proofs.Common.{◌≡◌, ◌⊎◌, ⊎_elim, inl, inr, ℕ, ℤ, true, false, ◌||◌, List, filter, Option, Some, None, refl, sym, ap, ◌∙◌, true≢false}
use Rattle.std.specs.Str as str
use Rattle.sqldomains.proofs.Words.{alone, bytes_eq-Decides, contact_name_by_number, Content, Domain, domain_read, DomainRow, each-passes, Has}
use Rattle.sqldomains.proofs.Words.{has-filter, has_name, HasLinkRows, host_name_by_number, HostRow, int_eq, link_with_domain, LinkRow}
use Rattle.sqldomains.proofs.Words.{named_contacts, named_hosts, names_contact, names_host, or_cases, registrant_alone, Role, same_int, ◌>>=◌}
use Rattle.sqldomains.proofs.{FoundLemmas.parts, LinkedLemmas.{IsLedTo, all-rows, links-led, names_in}}
use Rattle.sqlcolumns.specs.declared.code.Role.TheVariants as roles
use Rattle.sqltables.specs.declared.contact.ContactRow.{ContactRow}
use Rattle.sqlobjects.proofs.PutLemmas.{row-named}

-- a link of a domain's row leads to the contact, or the host, with this number, and says when the domain is due
pub record LinksContact (xs : Content) (row : DomainRow) (id : ℤ) : Type 0 where
  pub link : LinkRow
  pub there : Has xs.links link
  pub domain : link.domain ≡ row.id
  pub contact : link.contact ≡ Some id
  pub due : link.due ≡ row.due

pub record LinksHost (xs : Content) (row : DomainRow) (id : ℤ) : Type 0 where
  pub link : LinkRow
  pub there : Has xs.links link
  pub domain : link.domain ≡ row.id
  pub host : link.host ≡ Some id
  pub due : link.due ≡ row.due

-- the row of a contact that has the name, which is the registrant's or linked
pub record NamesContact (xs : Content) (row : DomainRow) (name : List ℕ) : Type 0 where
  pub contact : ContactRow
  pub there : Has xs.contacts contact
  pub named : contact.name ≡ name
  pub way : (row.registrant ≡ contact.id) ⊎ LinksContact xs row contact.id

pub record NamesHost (xs : Content) (row : DomainRow) (name : List ℕ) : Type 0 where
  pub host : HostRow
  pub there : Has xs.hosts host
  pub named : host.name ≡ name
  pub way : LinksHost xs row host.id

alone-leads : {X : Type 0} (number other : Option ℤ) (f : ℤ → Option X) (x : X) → (alone number other >>= f) ≡ Some x → (id : ℤ) × (number ≡ Some id) × (f id ≡ Some x)
alone-leads None None f x e = cc
alone-leads (Some id) None f x e = (id, refl, e)
alone-leads number (Some id) f x e = cc

module _ (xs : Content) (row : DomainRow) (d : Domain) (reads : domain_read xs row ≡ Some d) (name : List ℕ) where
  led : (contact_name_by_number xs row.registrant ≡ Some d.links.registrant) × HasLinkRows row.id row.due d.links xs
  led = links-led xs row d.links (parts xs row d reads).links

  dated-so : (l : LinkRow) → Has (filter (link_with_domain row.id) xs.links) l → l.due ≡ row.due
  dated-so l there = same_int l.due row.due (each-passes (λ (x : LinkRow). int_eq x.due row.due) (filter (link_with_domain row.id) xs.links) led.1.dated l there)

  listed-leads : (role : Role) → has_name (names_in role (registrant_alone d.links.registrant)) name ≡ false → has_name (names_in role d.links) name ≡ true → IsLedTo xs name role (filter (link_with_domain row.id) xs.links)
  listed-leads role none has =
      ⊎_elim (λ (before : has_name (names_in role (registrant_alone d.links.registrant)) name ≡ true). absurd (true≢false (sym before ∙ none))) (λ found. found)
      (all-rows xs name role (filter (link_with_domain row.id) xs.links) (registrant_alone d.links.registrant) d.links led.1.all has)

  by-registrant : str.bytes_eq d.links.registrant name ≡ true → NamesContact xs row name
  by-registrant same =
      let it = row-named named_contacts.key named_contacts.name xs.contacts row.registrant name (led.0 ∙ ap Some ((bytes_eq-Decides d.links.registrant name).0 same)) in
      record { contact = it.0; there = it.1; named = it.2; way = inl (sym it.3) }

  by-link : (l : LinkRow) × Has (filter (link_with_domain row.id) xs.links) l × ((alone l.contact l.host >>= contact_name_by_number xs) ≡ Some name) → NamesContact xs row name
  by-link found =
      let l = found.0 in
      let there = has-filter (link_with_domain row.id) xs.links l found.1 in
      let at = alone-leads l.contact l.host (contact_name_by_number xs) name found.2 in
      let it = row-named named_contacts.key named_contacts.name xs.contacts at.0 name at.2 in
      record {
        contact = it.0;
        there = it.1;
        named = it.2;
        way = inr (record { link = l; there = there.0; domain = same_int l.domain row.id there.1; contact = at.1 ∙ ap Some (sym it.3); due = dated-so l found.1 });
      }

  pub names-contact : names_contact name d.links ≡ true → NamesContact xs row name
  names-contact has =
      ⊎_elim by-registrant (λ rest.
      ⊎_elim (λ admin. by-link (listed-leads roles.Admin refl admin)) (λ tech. by-link (listed-leads roles.Tech refl tech)) (or_cases (has_name d.links.admin name) (has_name d.links.tech name) rest))
      (or_cases (str.bytes_eq d.links.registrant name) (has_name d.links.admin name || has_name d.links.tech name) has)

  pub names-host : names_host name d.links ≡ true → NamesHost xs row name
  names-host has =
      let found = listed-leads roles.Host refl has in
      let l = found.0 in
      let there = has-filter (link_with_domain row.id) xs.links l found.1 in
      let at = alone-leads l.host l.contact (host_name_by_number xs) name found.2 in
      let it = row-named named_hosts.key named_hosts.name xs.hosts at.0 name at.2 in
      record {
        host = it.0;
        there = it.1;
        named = it.2;
        way = record { link = l; there = there.0; domain = same_int l.domain row.id there.1; host = at.1 ∙ ap Some (sym it.3); due = dated-so l found.1 };
      }
