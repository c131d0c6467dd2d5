-- Domains are as they were where a contact or a host is put or dropped: what refers to one leads to the
-- same name as before.
use Rattle.std.proofs.Common.{◌≡◌, inl, inr, ℕ, ℤ, Bool, true, false, cond, List, [], ◌∷◌, map, filter, Option, Some, None, option_map, refl, ap, ◌∙◌}
use Rattle.sqldomains.proofs.Words.{cons_option, contact_name_by_number, Content, domain_entry, domain_read, DomainRow, domains_of, filter_map}
use Rattle.sqldomains.proofs.Words.{from_entries, get_by, get_by-update_where, Has, has-filter, Host, host_name_by_number, HostRow, IsContactPut}
use Rattle.sqldomains.proofs.Words.{IsHostPut, link_with_domain, LinkRow, maybe_registrar_column, named, named_contacts, named_hosts}
use Rattle.sqldomains.proofs.{Words.transfer_with_domain, LinkLemmas.{name-where, read-where}, NumberLemmas.name-kept}
use Rattle.objects.specs.declared.contact.Contact.{Contact}
use Rattle.sqlcolumns.specs.Transfers.{is_same}
use Rattle.sqltables.specs.Host as host_table
use Rattle.sqlobjects.specs.Sponsors.{IsSponsorSetBelow, sponsor_by_name, takes_sponsor, with_sponsor}

entries-where : {R E : Type 0} (f g : R → Option E) (rows : List R) → ((row : R) → Has rows row → f row ≡ g row) → filter_map f rows ≡ filter_map g rows
entries-where f g [] same = refl
entries-where f g (row ∷ rows) same = λ i. cons_option (same row (inl refl) i) (entries-where f g rows (λ r h. same r (inr h)) i)

-- domains, their links and their transfers are as they were, and what refers to a contact or a host leads to
-- the same name
pub record IsFrame (xs ys : Content) : Type 0 where
  pub domains : ys.domains ≡ xs.domains
  pub links : ys.links ≡ xs.links
  pub transfers : (id : ℤ) → filter (transfer_with_domain id) ys.transfers ≡ filter (transfer_with_domain id) xs.transfers
  pub registrants : (row : DomainRow) → Has xs.domains row → contact_name_by_number ys row.registrant ≡ contact_name_by_number xs row.registrant
  pub contacts : (row : LinkRow) → Has xs.links row → (id : ℤ) → row.contact ≡ Some id → contact_name_by_number ys id ≡ contact_name_by_number xs id
  pub hosts : (row : LinkRow) → Has xs.links row → (id : ℤ) → row.host ≡ Some id → host_name_by_number ys id ≡ host_name_by_number xs id

module _ (xs ys : Content) (it : IsFrame xs ys) where
  pub reads-same : (row : DomainRow) → Has xs.domains row → domain_read ys row ≡ domain_read xs row
  reads-same row there = read-where xs ys row (ap (filter (link_with_domain row.id)) it.links) (it.transfers row.id) (it.registrants row there) (λ link has role.
      let before = (has-filter (link_with_domain row.id) xs.links link has).0 in
      name-where xs ys role link.contact link.host (it.contacts link before) (it.hosts link before))

  pub domains-same : domains_of ys ≡ domains_of xs
  domains-same =
      ap (λ rows. from_entries (filter_map (domain_entry ys) rows)) it.domains
      ∙ ap from_entries (entries-where (domain_entry ys) (domain_entry xs) xs.domains (λ row there. ap (named row.name) (reads-same row there)))

-- ---- a contact put

module _ (name : List ℕ) (value : Option Contact) (xs ys : Content) (put : IsContactPut name value xs ys) where
  pub contact-frame : IsFrame xs ys
  contact-frame =
      let was = put.consistent.0.linked in
      let now = put.consistent.1.linked in
      record {
        domains = put.domains;
        links = put.links;
        transfers = put.transfers;
        registrants = λ row there. name-kept named_contacts xs ys put.consistent put.names xs.domains ys.domains (λ (x : DomainRow). Some x.registrant) was.domain_registrant now.domain_registrant put.domains row there row.registrant refl;
        contacts = name-kept named_contacts xs ys put.consistent put.names xs.links ys.links (λ (x : LinkRow). x.contact) was.link_contact now.link_contact put.links;
        hosts = λ row there id is. ap (λ rows. host_name_by_number (record ys { hosts = rows }) id) put.host_rows;
      }

-- ---- a host put

module _ (name : List ℕ) (value : Option Host) (xs ys : Content) (put : IsHostPut name value xs ys) where
  pub host-frame : IsFrame xs ys
  host-frame =
      let contacts = λ (id : ℤ). ap (λ rows. contact_name_by_number (record ys { contacts = rows }) id) put.contact_rows in
      record {
        domains = put.domains;
        links = put.links;
        transfers = λ id. ap (filter (transfer_with_domain id)) put.transfers;
        registrants = λ row there. contacts row.registrant;
        contacts = λ row there id is. contacts id;
        hosts = name-kept named_hosts xs ys put.consistent put.names xs.links ys.links (λ (x : LinkRow). x.host) put.consistent.0.linked.link_host put.consistent.1.linked.link_host put.links;
      }

-- ---- hosts that take a domain's sponsor

abbrev name_in : Option HostRow → Option (List ℕ)
name_in o = option_map (λ (r : HostRow). r.name) o

-- the rows have the numbers and names that they had
names-kept : (above : List ℕ) (sponsor : Option ℤ) (rows : List HostRow) (id : ℤ)
    → name_in (get_by host_table.hosts.key (map (with_sponsor above sponsor) rows) id) ≡ name_in (get_by host_table.hosts.key rows id)
names-kept above sponsor rows id =
    ap name_in (get_by-update_where host_table.hosts.key (takes_sponsor above) (λ (row : HostRow). record row { sponsor = sponsor }) (λ row. refl) rows id) ∙ same (get_by host_table.hosts.key rows id)
  where
    at : (row : HostRow) (b : Bool) → (cond b (record row { sponsor = sponsor }) row).name ≡ row.name
    at row true = refl
    at row false = refl

    same : (o : Option HostRow) → name_in (option_map (λ (row : HostRow). cond (takes_sponsor above row) (record row { sponsor = sponsor }) row) o) ≡ name_in o
    same None = refl
    same (Some row) = ap Some (at row (takes_sponsor above row))

module _ (above : List ℕ) (after : Option ℕ) (xs ys : Content) (it : IsSponsorSetBelow above after xs ys) where
  sponsor-names : (id : ℤ) → host_name_by_number ys id ≡ host_name_by_number xs id
  sponsor-names id = go (is_same (sponsor_by_name xs above) (maybe_registrar_column after)) refl
    where
      go : (b : Bool) → is_same (sponsor_by_name xs above) (maybe_registrar_column after) ≡ b → host_name_by_number ys id ≡ host_name_by_number xs id
      go true e = ap (λ rows. name_in (get_by host_table.hosts.key rows id)) (it.stays e)
      go false e =
          ap (λ rows. name_in (get_by host_table.hosts.key rows id)) (it.moves e).has
          ∙ names-kept above (maybe_registrar_column after) xs.hosts id

  pub sponsor-frame : IsFrame xs ys
  sponsor-frame = record {
    domains = ap (λ (x : Content). x.domains) it.rest;
    links = ap (λ (x : Content). x.links) it.rest;
    transfers = λ id. ap (λ (x : Content). filter (transfer_with_domain id) x.transfers) it.rest;
    registrants = λ row there. ap (λ (x : Content). contact_name_by_number x row.registrant) it.rest;
    contacts = λ row there id is. ap (λ (x : Content). contact_name_by_number x id) it.rest;
    hosts = λ row there id is. sponsor-names id;
  }
