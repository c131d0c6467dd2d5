-- What rows of domains mean after a change.
use Rattle.std.proofs.Common.{◌≡◌, ℕ, ℤ, pos, false, List, [], ◌∷◌, filter, Option, Some, None, option_map, refl, sym, ap, subst, ◌∙◌, int_eq, Bool, is_some, not, true}
use Rattle.sqldomains.proofs.Words.{are_dated, AreLinksCleared, AreLinksPut, AreOtherPartsKept, columns_with}
use Rattle.sqldomains.proofs.Words.{contact_entry, contact_name_by_number, contact_read, contacts_of, Content, dated, delete_where, Domain}
use Rattle.sqldomains.proofs.Words.{domain_of_columns, domain_read, DomainRow, domains_to, filter_map, from_entries, Has}
use Rattle.sqldomains.proofs.Words.{host_name_by_number, hosts_of, IsConsistent, IsDomainPut}
use Rattle.sqldomains.proofs.Words.{IsPlaced, IsTransferCleared, IsTransferPut, last_transfer, link_with_domain, maybe_registrar_column}
use Rattle.sqldomains.proofs.Words.{moment_column, named, passed, registrant_alone, registrar_column, registration_columns, row_beside}
use Rattle.sqldomains.proofs.Words.{rows_of, same_some, sponsor_in, step, transfer_with_contact, transfer_with_domain, with_links, ◌>>=◌}
use Rattle.sqldomains.proofs.Words.{AreOtherLinksKept, AreOtherTransfersKept, ArePartsPut, HasNoParts, IsPlacedAt, IsRowPlaced, named_domains, rows_named}
use Rattle.sqldomains.proofs.{LinkLemmas.{links-alike, name-where, read-where}, NewRowLemmas.no-parts}
use Rattle.objects.specs.declared.roid.ObjectKind.TheVariants as kinds
use Rattle.sqlcolumns.specs.{Contacts.contact_of_columns, inner.Domains.{IsDomain, deletion_columns, domain_registration, domain_row_with}}
use Rattle.sqlcolumns.specs.Roids.{roid_columns}
use Rattle.sqlcolumns.proofs.DomainLemmas.{domain_back}
use Rattle.sqltables.specs.declared.contact.ContactRow.{ContactRow}
use Rattle.sqltables.specs.Domain as table
use Rattle.sqlobjects.specs.declared.transfers.Transferable.TheVariants as transferable
use Rattle.sqlobjects.proofs.{NamedRowLemmas.placed-as, NewRowLemmas.none-found}
use Rattle.sqlobjects.proofs.PutLemmas.{changed-drop, changed-put, IsChanged, nobody, none-removed, not-changed}
use Rattle.sqldomains.specs.declared.domain_changes.DerivedColumns.{DerivedColumns}

abbrev name_of : DomainRow → List ℕ
name_of row = row.name

abbrev key : DomainRow → ℤ
key = table.domains.key

-- ---- what else is as it was

module _ (xs ys : Content) (id : ℤ) (kept : AreOtherPartsKept id xs ys) where
  -- a domain whose row, links and transfer are as they were is read as before
  pub reads-alike : (r : DomainRow) → int_eq id r.id ≡ false → domain_read ys r ≡ domain_read xs r
  reads-alike r other =
      let contacts = λ (k : ℤ). ap (λ (x : Content). contact_name_by_number x k) kept.rest in
      let hosts = λ (k : ℤ). ap (λ (x : Content). host_name_by_number x k) kept.rest in
      read-where xs ys r (kept.links r.id other) (kept.transfers r.id other) (contacts r.registrant) (λ link there role. name-where xs ys role link.contact link.host (λ k e. contacts k) (λ k e. hosts k))

  contact-same : (row : ContactRow) → contact_read ys row ≡ contact_read xs row
  contact-same row = λ i. last_transfer (kept.contacts row.id i) >>= (λ transfer. contact_of_columns row transfer)

  contacts-same : contacts_of ys ≡ contacts_of xs
  contacts-same =
      ap (λ (x : Content). from_entries (filter_map (contact_entry ys) x.contacts)) kept.rest
      ∙ (λ i. from_entries (filter_map (λ (row : ContactRow). named row.name (contact-same row i)) xs.contacts))

  assembled : (name : List ℕ) (value : Option Domain) (due : Option ℕ) → IsChanged name_of (domain_read xs) (domain_read ys) name value xs.domains ys.domains
      → ((r : DomainRow) → Has ys.domains r → r.name ≡ name → (Some r.due ≡ option_map moment_column due) × (Some r.sponsor ≡ maybe_registrar_column (sponsor_in value)))
      → IsConsistent xs → IsConsistent ys → IsDomainPut name value due xs ys
  assembled name value due it now consistent after = record {
    domains = it.stands;
    contacts = contacts-same;
    hosts = ap hosts_of kept.rest;
    metas = ap (λ (x : Content). x.metas) kept.rest;
    days = ap (λ (x : Content). x.days) kept.rest;
    accounts = ap (λ (x : Content). x.accounts) kept.rest;
    contact_rows = ap (λ (x : Content). x.contacts) kept.rest;
    host_rows = ap (λ (x : Content). x.hosts) kept.rest;
    addresses = ap (λ (x : Content). x.addresses) kept.rest;
    lines = ap (λ (x : Content). x.lines) kept.rest;
    messages = ap (λ (x : Content). x.messages) kept.rest;
    others = it.others;
    readings = it.readings;
    due_is = λ r there same. (now r there same).0;
    sponsor_is = λ r there same. (now r there same).1;
    consistent = (consistent, after);
  }

-- where a row is placed and then one domain's links and its transfer are changed
parts-kept : (id : ℤ) (xs a b ys : Content) → a ≡ record xs { domains = a.domains } → AreOtherLinksKept id a b → AreOtherTransfersKept (transferable.Domain id) b ys → AreOtherPartsKept id xs ys
parts-kept id xs a b ys placed links transfer =
    let back : Content → Content = λ x. record x { domains = xs.domains; links = xs.links; transfers = xs.transfers } in
    record {
      links = λ other e. ap (λ (x : Content). filter (link_with_domain other) x.links) transfer.rest ∙ links.domains other e ∙ ap (λ (x : Content). filter (link_with_domain other) x.links) placed;
      transfers = λ other e. transfer.others (transferable.Domain other) e ∙ ap (λ (x : Content). filter (transfer_with_domain other) x.transfers) (links.rest ∙ ap (λ (x : Content). record x { links = b.links }) placed);
      contacts = λ contact. transfer.others (transferable.Contact contact) refl ∙ ap (λ (x : Content). filter (transfer_with_contact contact) x.transfers) (links.rest ∙ ap (λ (x : Content). record x { links = b.links }) placed);
      rest = ap back transfer.rest ∙ ap back links.rest ∙ ap back placed;
    }

-- ---- dropped

pub none-dropped : (xs : Content) (name : List ℕ) → IsConsistent xs → rows_named named_domains name xs ≡ [] → IsDomainPut name None None xs xs
none-dropped xs name consistent none =
    assembled xs xs (pos 0) (record { links = λ other e. refl; transfers = λ other e. refl; contacts = λ contact. refl; rest = refl }) name None None (not-changed name_of (domain_read xs) name xs.domains none)
    (λ r there is. absurd (nobody name_of name xs.domains none r there is)) consistent consistent

module _ (xs b m : Content) (name : List ℕ) (row : DomainRow) (consistent : IsConsistent xs) (found : rows_named named_domains name xs ≡ row ∷ []) (links : AreLinksCleared row.id xs b) (transfer : IsTransferCleared (transferable.Domain row.id) b m) where
  abbrev left : Content
  left = domains_to (delete_where (table.domain_with_id row.id)) m

  kept_then : AreOtherPartsKept row.id xs left
  kept_then = let kept = parts-kept row.id xs xs b m refl links.others transfer.kept in record { links = kept.links; transfers = kept.transfers; contacts = kept.contacts; rest = kept.rest }

  rows_then : left.domains ≡ delete_where (table.domain_with_id row.id) xs.domains
  rows_then = ap (λ (x : Content). delete_where (table.domain_with_id row.id) x.domains) transfer.kept.rest ∙ ap (λ (x : Content). delete_where (table.domain_with_id row.id) x.domains) links.others.rest

  pub one-dropped : (ys : Content) → ys ≡ left → IsConsistent ys → IsDomainPut name None None xs ys
  one-dropped ys gone = subst (λ z. IsConsistent z → IsDomainPut name None None xs z) (sym gone) (assembled xs left row.id kept_then name None None
      (changed-drop key name_of (domain_read xs) (domain_read left) name row xs.domains left.domains (reads-alike xs left row.id kept_then) found consistent.keyed.domains consistent.named.domains rows_then)
      (λ r there is. absurd (nobody name_of name left.domains (ap (filter (table.domain_with_name name)) rows_then ∙ none-removed key name_of name xs.domains row found consistent.keyed.domains consistent.named.domains) r there is))
      consistent)

-- ---- put

record IsWritten (beside : DerivedColumns) (d : Domain) (row : DomainRow) : Type 0 where
  pub name : row.name ≡ d.name
  pub registrant : row.registrant ≡ beside.registrant
  pub due : row.due ≡ moment_column beside.due
  pub sponsor : row.sponsor ≡ registrar_column d.sponsor
  pub again : (k : ℤ) → row_beside k beside d ≡ Some (record row { id = k })

written : (id : ℤ) (beside : DerivedColumns) (d : Domain) (row : DomainRow) → row_beside id beside d ≡ Some row → IsWritten beside d row
written id beside d row e =
    let columns = step (registration_columns kinds.Domain (domain_registration d)) (λ x. Some (domain_row_with id beside.registrant beside.due d x (deletion_columns d.deletion))) row e in
    let roid = step (roid_columns kinds.Domain d.roid) (λ x. Some (columns_with (domain_registration d) x)) columns.given columns.is in
    let registered : columns_with (domain_registration d) roid.given ≡ columns.given = same_some (columns_with (domain_registration d) roid.given) columns.given roid.rest in
    let same : domain_row_with id beside.registrant beside.due d columns.given (deletion_columns d.deletion) ≡ row = same_some _ row columns.rest in
    record {
      name = sym (ap (λ (r : DomainRow). r.name) same);
      registrant = sym (ap (λ (r : DomainRow). r.registrant) same);
      due = sym (ap (λ (r : DomainRow). r.due) same);
      sponsor = sym ((λ i. (registered i).sponsor) ∙ ap (λ (r : DomainRow). r.sponsor) same);
      again = λ k. (λ i. columns.is i >>= (λ x. Some (domain_row_with k beside.registrant beside.due d x (deletion_columns d.deletion)))) ∙ ap (λ (r : DomainRow). Some (record r { id = k })) same;
    }

-- a domain in this row, but for its number, its links and its transfer, which is placed, and then those are put
module _ (xs m ys : Content) (beside : DerivedColumns) (d : Domain) (found : Option DomainRow) (bare row : DomainRow) (is_new : Bool) (consistent : IsConsistent xs) (between : IsConsistent m) (after : IsConsistent ys) (is : IsDomain d)
    (made : row_beside (pos 0) beside d ≡ Some bare) (there : rows_named named_domains d.name xs ≡ rows_of found) (registrant : contact_name_by_number xs beside.registrant ≡ Some d.links.registrant) (new : is_some found ≡ not is_new)
    (put : IsPlacedAt named_domains found bare row xs m) (parts : (is_new ≡ true → HasNoParts row.id m) → ArePartsPut row.id row.due d m ys) where
  placed : IsRowPlaced named_domains (λ (r : DomainRow). row_beside r.id beside d ≡ Some r) d.name row xs m
  placed =
      let so = written (pos 0) beside d bare made in
      placed-as named_domains (λ (r : DomainRow). row_beside r.id beside d ≡ Some r) d.name found bare row xs m so.name so.again there put consistent

  so_now : IsWritten beside d row
  so_now = written row.id beside d row placed.is

  all : ArePartsPut row.id row.due d m ys
  all = parts (λ e. no-parts xs m d.name row consistent between placed.rows placed.rest (there ∙ none-found found is_new new e))

  abbrev b : Content
  b = all.between

  named_by : AreLinksPut row.id row.due d.links m b
  named_by = all.links

  with : IsTransferPut (transferable.Domain row.id) d.transfer b ys
  with = all.transfer

  rows_now : IsPlaced name_of d.name row xs.domains ys.domains
  rows_now = subst (IsPlaced name_of d.name row xs.domains) (sym (ap (λ (x : Content). x.domains) with.kept.rest ∙ ap (λ (x : Content). x.domains) named_by.others.rest)) placed.rows

  -- names are as they were
  contact_now : (k : ℤ) → contact_name_by_number ys k ≡ contact_name_by_number xs k
  contact_now k = ap (λ (x : Content). contact_name_by_number x k) with.kept.rest ∙ ap (λ (x : Content). contact_name_by_number x k) named_by.others.rest ∙ ap (λ (x : Content). contact_name_by_number x k) placed.rest

  registrant_now : contact_name_by_number ys row.registrant ≡ Some d.links.registrant
  registrant_now = ap (contact_name_by_number ys) so_now.registrant ∙ contact_now beside.registrant ∙ registrant

  links_now : with_links ys (registrant_alone d.links.registrant) (filter (link_with_domain row.id) ys.links) ≡ Some d.links
  links_now =
      ap (λ (x : Content). with_links ys (registrant_alone d.links.registrant) (filter (link_with_domain row.id) x.links)) with.kept.rest
      ∙ links-alike b ys (λ k. ap (λ (x : Content). contact_name_by_number x k) with.kept.rest) (λ k. ap (λ (x : Content). host_name_by_number x k) with.kept.rest) (filter (link_with_domain row.id) b.links) (registrant_alone d.links.registrant)
      ∙ named_by.here.all

  dated_now : dated row.due (filter (link_with_domain row.id) ys.links) ≡ Some (filter (link_with_domain row.id) ys.links)
  dated_now = passed (filter (link_with_domain row.id) ys.links) (are_dated row.due (filter (link_with_domain row.id) ys.links))
      (ap (λ (x : Content). are_dated row.due (filter (link_with_domain row.id) x.links)) with.kept.rest ∙ named_by.here.dated)

  reads_now : domain_read ys row ≡ Some d
  reads_now =
      (λ i. (registrant_now i >>= (λ a. dated row.due (filter (link_with_domain row.id) ys.links) >>= (λ rows. with_links ys (registrant_alone a) rows))) >>= (λ l. last_transfer (filter (transfer_with_domain row.id) ys.transfers) >>= (λ transfer. domain_of_columns row l transfer)))
      ∙ (λ i. (dated_now i >>= (λ rows. with_links ys (registrant_alone d.links.registrant) rows)) >>= (λ l. last_transfer (filter (transfer_with_domain row.id) ys.transfers) >>= (λ transfer. domain_of_columns row l transfer)))
      ∙ (λ i. links_now i >>= (λ l. with.last i >>= (λ transfer. domain_of_columns row l transfer)))
      ∙ domain_back row.id beside.registrant beside.due d row is placed.is

  kept_now : AreOtherPartsKept row.id xs ys
  kept_now = parts-kept row.id xs m b ys placed.rest named_by.others with.kept

  -- the row of its name
  is_now : (r : DomainRow) → Has ys.domains r → r.name ≡ d.name → r ≡ row
  is_now r there same = after.named.domains r row there rows_now.there (same ∙ sym rows_now.named)

  pub domain-put : IsDomainPut d.name (Some d) (Some beside.due) xs ys
  domain-put = assembled xs ys row.id kept_now d.name (Some d) (Some beside.due)
      (changed-put key name_of (domain_read xs) (domain_read ys) d.name row xs.domains ys.domains (reads-alike xs ys row.id kept_now) d rows_now after.keyed.domains after.named.domains reads_now)
      (λ r there same. (ap (λ (x : DomainRow). Some x.due) (is_now r there same) ∙ ap Some so_now.due, ap (λ (x : DomainRow). Some x.sponsor) (is_now r there same) ∙ ap Some so_now.sponsor))
      consistent after
