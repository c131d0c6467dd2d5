-- What is found near is, of all that is due, what is concerned.
use Rattle.std.proofs.Common.{◌≡◌, ◌⊎◌, ⊎_elim, inl, inr, ℕ, ℤ, pos, take, Bool, true, false, cond, ◌&&◌, ◌||◌, ◌==◌, int_le, List, [], ◌∷◌, ◌++◌, filter, Option, Some, None, option_map, refl, sym, ap, subst, ◌∙◌}
use Rattle.std.proofs.lemmas.{List.Folds.list_any-append, Slice.Eq.bytes_eq-Decides}
use Rattle.std.specs.Str as str
use Rattle.sqlderived.proofs.Words.{and_from, AreDue, cons_option, contact_due_in_row, contact_read, contacts_of, contacts_until, Content}
use Rattle.sqlderived.proofs.Words.{counter_column, days_of_rows, Domain, domain_due_shown, domain_read, DomainRow, domains_of, domains_until, Due}
use Rattle.sqlderived.proofs.Words.{due_then, dues_are_right, eqb-true, filter-has, filter_map, FinMap, flat_map, get, Has, has-filter, has_either}
use Rattle.sqlderived.proofs.Words.{has_left, has_right, is_pending_state, IsConsistent, last_transfer, list_any, names, nat_cmp, ObjectKind}
use Rattle.sqlderived.proofs.Words.{option_map_or, or_cases, or_parts, PolicyRules, registrar_column, row_of_transfer, same_some, slice_cmp}
use Rattle.sqlderived.proofs.{Words.{some_has, Transfer, transfer_of_columns, transfer_written, with_rows}, NobodyLemmas.last-has}
use Rattle.sqlderived.proofs.DueLemmas.{all-due, contact-row, contact-stands, contact-under, due-picked, never-before}
use Rattle.sqlite_keyed.specs.Rules.{points_to}
use Rattle.sqlite_typed.specs.Tests.{bytes_eq}
use Rattle.accounts.proofs.LineLaws.{same-roids}
use Rattle.accounts.specs.Lines.{is_same_roid}
use Rattle.objects.specs.{Links.{has_name, names_contact, names_host}, declared.{contact.Contact.Contact, roid.Roid.Roid}}
use Rattle.objects.specs.declared.roid.ObjectKind.TheVariants as kinds
use Rattle.sqlcolumns.proofs.{NumberLemmas.{registrar_written, serial_written}, RoidLemmas.roid_read}
use Rattle.protocol.specs.Requests.{holds_of}
use Rattle.concerns.specs.Concerns.{concerns_domain, contact_name, domain_name, domain_roid, is_about, is_at_stake, meant, read_at}
use Rattle.concerns.specs.{declared.given.Names.Names, DueFor.{is_picked, picks}}
use Rattle.model.specs.Lapse.{Choice}
use Rattle.sqltables.specs.Contact as contact_table
use Rattle.sqltables.specs.{declared.{contact.ContactRow.ContactRow, link.LinkRow.LinkRow}, inner.Due.falls_due}
use Rattle.sqltables.specs.declared.transfer.TransferRow.{TransferRow}
use Rattle.sqltables.specs.Domain as domain_table
use Rattle.sqltables.specs.Link as link_table
use Rattle.sqltables.specs.Transfer as transfer_table
use Rattle.sqltables.proofs.RowLemmas.{bytes_same}
use Rattle.sqlobjects.specs.inner.Stages.{NamedTable, named_contacts, named_domains, named_hosts, rows_named}
use Rattle.sqlobjects.proofs.NewRowLemmas.{points-so}
use Rattle.sqldomains.proofs.{AnswerLemmas.equal, LeadingLemmas.{LinksContact, names-contact, names-host}}
use Rattle.sqldomains.proofs.{NameOrderLemmas.{name-read, row-under, stands-there}, SponsorLemmas.{parts, sponsor-read}}
use Rattle.sqlderived.specs.inner.Near.{HasAllNear, concerned_in, contacts_led, contacts_near, domain_of_link, domains_alike, domains_by_names, domains_led, domains_near, domains_to_contact, domains_to_host, each_named, is_any, is_behind, pending_of}

-- ---- rows found one after another

-- each of the first is among the others
pub record AreAmong {X : Type 0} (xs ys : List X) : Type 0 where
  pub each : (x : X) → Has xs x → Has ys x

module _ {X : Type 0} where
  among-filter : (test : X → Bool) (xs : List X) → AreAmong (filter test xs) xs
  among-filter test xs = record { each = λ x there. (has-filter test xs x there).0 }

  among-append : {xs ys zs : List X} → AreAmong xs zs → AreAmong ys zs → AreAmong (xs ++ ys) zs
  among-append {xs} {ys} left right = record { each = λ x there. ⊎_elim (left.each x) (right.each x) (has_either xs ys x there) }

  among-some : {A : Type 0} {gives : A → List X} {xs : List X} → ((a : A) → AreAmong (gives a) xs) → (o : Option A) → AreAmong (option_map_or gives o []) xs
  among-some each None = record { each = λ x there. absurd there }
  among-some each (Some a) = each a

  among-each : {A : Type 0} {gives : A → List X} {xs : List X} → ((a : A) → AreAmong (gives a) xs) → (as_ : List A) → AreAmong (flat_map gives as_) xs
  among-each each [] = record { each = λ x there. absurd there }
  among-each each (a ∷ as_) = among-append (each a) (among-each each as_)

each-has : {A R : Type 0} (gives : A → List R) (as_ : List A) (a : A) (r : R) → Has as_ a → Has (gives a) r → Has (flat_map gives as_) r
each-has gives [] a r there given = absurd there
each-has gives (b ∷ bs) a r (inl same) given = has_left (gives b) (flat_map gives bs) r (subst (λ x. Has (gives x) r) same given)
each-has gives (b ∷ bs) a r (inr later) given = has_right (gives b) (flat_map gives bs) r (each-has gives bs a r later given)

-- ---- each row that is found is there

module _ (xs : Content) (r : Option ℕ) (g : Names) (t : ℕ) where
  contacts-among : AreAmong (contacts_led r (pending_of r xs) g t xs) xs.contacts
  contacts-among = among-append (among-some (λ q. among-filter _ _) r)
      (among-append (among-each (λ x. among-some (λ id. among-filter _ _) x.contact) (pending_of r xs)) (among-each (λ n. among-filter _ _) g.contacts))

  linked-among : (links : List LinkRow) → AreAmong (flat_map (domain_of_link xs) links) xs.domains
  linked-among links = among-each (λ l. among-filter _ _) links

  domains-among : AreAmong (domains_led r (pending_of r xs) g t xs) xs.domains
  domains-among = among-append (among-some (λ q. among-filter _ _) r)
      (among-append (among-each (λ x. among-some (λ id. among-filter _ _) x.domain) (pending_of r xs))
      (among-append (among-each (λ d. among-filter _ _) (each_named named_domains xs g.domains))
      (among-append (among-each (λ c. among-append (among-filter _ _) (linked-among (filter (link_table.link_of_contact_within c.id (pos t)) xs.links))) (each_named named_contacts xs g.contacts))
      (among-each (λ h. linked-among (filter (link_table.link_of_host_within h.id (pos t)) xs.links)) (each_named named_hosts xs g.hosts)))))

-- ---- names

-- what passes was read at one of the names
read-from : {A : Type 0} (f : List ℕ → Option A) (test : A → Bool) (names : List (List ℕ)) → list_any test (filter_map f names) ≡ true → (n : List ℕ) × (a : A) × Has names n × (f n ≡ Some a) × (test a ≡ true)
read-from f test [] e = cc
read-from {A} f test (n ∷ ns) e = go (f n) refl e (read-from f test ns)
  where
    later : (k : List ℕ) × (a : A) × Has ns k × (f k ≡ Some a) × (test a ≡ true) → (k : List ℕ) × (a : A) × Has (n ∷ ns) k × (f k ≡ Some a) × (test a ≡ true)
    later it = (it.0, it.1, inr it.2, it.3, it.4)

    go : (o : Option A) → f n ≡ o → list_any test (cons_option o (filter_map f ns)) ≡ true → (list_any test (filter_map f ns) ≡ true → (k : List ℕ) × (a : A) × Has ns k × (f k ≡ Some a) × (test a ≡ true))
        → (k : List ℕ) × (a : A) × Has (n ∷ ns) k × (f k ≡ Some a) × (test a ≡ true)
    go None is rest more = later (more rest)
    go (Some a) is rest more = ⊎_elim (λ passes. (n, a, inl refl, is, passes)) (λ others. later (more others)) (or_cases (test a) (list_any test (filter_map f ns)) rest)

name-has : (names : List (List ℕ)) (n : List ℕ) → has_name names n ≡ true → Has names n
name-has names n e = let it = some_has (λ other. str.bytes_eq other n) names e in subst (Has names) ((bytes_eq-Decides it.0 n).0 it.2) it.1

-- where each object has the name that it stands under, no other name is meant
module _ {X : Type 0} (its : X → List ℕ) (m : FinMap (slice_cmp nat_cmp) X) (named : (k : List ℕ) (x : X) → get m k ≡ Some x → its x ≡ k) where
  read-name : (k y : List ℕ) → option_map its (get m k) ≡ Some y → y ≡ k
  read-name k y e = go (get m k) refl e
    where
      go : (o : Option X) → get m k ≡ o → option_map its o ≡ Some y → y ≡ k
      go None is f = cc
      go (Some x) is f = sym (same_some (its x) y f) ∙ named k x is

  pub meant-has : (names : List (List ℕ)) (n : List ℕ) → has_name (meant its m names) n ≡ true → Has names n
  meant-has names n e =
      ⊎_elim (name-has names n) (λ read.
      let it = read-from (λ k. option_map its (get m k)) (λ other. str.bytes_eq other n) names read in
      subst (Has names) (sym (read-name it.0 it.1 it.3) ∙ (bytes_eq-Decides it.1 n).0 it.4) it.2)
      (or_cases (has_name names n) (has_name (read_at its m names) n) (sym (list_any-append (λ other. str.bytes_eq other n) names (read_at its m names)) ∙ e))

domain-name-is : (xs : Content) (k : List ℕ) (d : Domain) → get (domains_of xs) k ≡ Some d → domain_name d ≡ k
domain-name-is xs k d e = let it = row-under xs k d e in name-read xs it.0 d it.2 ∙ it.3

contact-name-is : (xs : Content) (k : List ℕ) (c : Contact) → get (contacts_of xs) k ≡ Some c → contact_name c ≡ k
contact-name-is xs k c e = let it = contact-under xs k c e in (contact-row xs it.0 c it.2).name ∙ it.3

-- ---- pending transfers

-- the row of a pending transfer that is about a registrar is found by it
pending-has : (xs : Content) (r : ℕ) (x : Transfer) (row : TransferRow) → Has xs.transfers row → transfer_of_columns row ≡ Some x → (is_pending_state x.state && names r x) ≡ true → Has (pending_of (Some r) xs) row
pending-has xs r x row there reads at = go (is_pending_state x.state) refl at
  where
    written : row_of_transfer row.id row.contact row.domain x ≡ row
    written = transfer_written row x reads

    go : (b : Bool) → is_pending_state x.state ≡ b → (b && names r x) ≡ true → Has (pending_of (Some r) xs) row
    go false is e = cc
    go true is e =
        let by = filter (transfer_table.transfer_pending_by (registrar_column r)) xs.transfers in
        let from = filter (transfer_table.transfer_pending_from (registrar_column r)) xs.transfers in
        let due : falls_due row.due ≡ true = sym (ap (λ (z : TransferRow). falls_due z.due) written) ∙ ap (λ b. falls_due (cond b (Some (pos x.ac_date)) None)) is ∙ never-before x.ac_date in
        ⊎_elim
        (λ asked. has_left by from row (filter-has (transfer_table.transfer_pending_by (registrar_column r)) xs.transfers row there
        (and_from _ _ (equal row.requester (registrar_column r) (sym (ap (λ (z : TransferRow). z.requester) written) ∙ ap registrar_column (eqb-true x.requester r asked))) due)))
        (λ lost. has_right by from row (filter-has (transfer_table.transfer_pending_from (registrar_column r)) xs.transfers row there
        (and_from _ _ (equal row.losing (registrar_column r) (sym (ap (λ (z : TransferRow). z.losing) written) ∙ ap registrar_column (eqb-true x.losing_registrar r lost))) due)))
        (or_cases (x.requester == r) (x.losing_registrar == r) e)

-- ---- what is about a registrar

-- rows, some of which a registrar leads to, and others a transfer of an object with a number
module _ {R : Type 0} (xs : Content) (own : ℕ → List R) (side : TransferRow → Option ℤ) (numbered : ℤ → List R) (others : List R) (id : ℤ) (row : R) (there : Has (numbered id) row) where
  abbrev transferred : TransferRow → List R
  transferred x = option_map_or numbered (side x) []

  at-stake : (q : ℕ) (o : Option Transfer) → last_transfer (filter (λ x. points_to (side x) id) xs.transfers) ≡ Some o → is_at_stake q o ≡ true
      → Has (flat_map transferred (pending_of (Some q) xs)) row
  at-stake q None last e = cc
  at-stake q (Some x) last e =
      let it = last-has (filter (λ x. points_to (side x) id) xs.transfers) x last in
      let found = has-filter (λ x. points_to (side x) id) xs.transfers it.0 it.1 in
      each-has transferred (pending_of (Some q) xs) it.0 row (pending-has xs q x it.0 found.0 it.2 e)
      (subst (λ o. Has (option_map_or numbered o []) row) (sym (points-so (side it.0) id found.1)) there)

  about-found : (r : Option ℕ) (sponsor : ℕ) (o : Option Transfer) → last_transfer (filter (λ x. points_to (side x) id) xs.transfers) ≡ Some o
      → ((q : ℕ) → sponsor ≡ q → Has (own q) row) → is_about r sponsor o ≡ true
      → Has (option_map_or own r [] ++ (flat_map transferred (pending_of r xs) ++ others)) row
  about-found None sponsor o last sponsored e = cc
  about-found (Some q) sponsor o last sponsored e =
      let pending = flat_map transferred (pending_of (Some q) xs) in
      ⊎_elim (λ same. has_left (own q) (pending ++ others) row (sponsored q (eqb-true sponsor q same)))
      (λ stake. has_right (own q) (pending ++ others) row (has_left pending others row (at-stake q o last stake)))
      (or_cases (sponsor == q) (is_at_stake q o) e)

  -- or else it is among the others
  elsewhere : (r : Option ℕ) → Has others row → Has (option_map_or own r [] ++ (flat_map transferred (pending_of r xs) ++ others)) row
  elsewhere r has = has_right (option_map_or own r []) (flat_map transferred (pending_of r xs) ++ others) row (has_right (flat_map transferred (pending_of r xs)) others row has)

-- a row of one of these names is found
named-has : {R : Type 0} (table : NamedTable R) (xs : Content) (names : List (List ℕ)) (row : R) (name : List ℕ) → Has names name → Has (table.rows xs) row → table.name row ≡ name
    → Has (each_named table xs names) row
named-has table xs names row name has there is =
    each-has (λ n. rows_named table n xs) names name row has (filter-has (λ r. bytes_eq (table.name r) name) (table.rows xs) row there (bytes_same (table.name row) name is))

-- ---- a contact that is concerned

module _ (xs : Content) (t : ℕ) (g : Names) (row : ContactRow) (c : Contact) (there : Has xs.contacts row) (reads : contact_read xs row ≡ Some c) (within : contact_table.contact_within_due (pos t) row ≡ true) where
  abbrev contacts_of_sponsor : ℕ → List ContactRow
  contacts_of_sponsor q = filter (contact_table.contact_of_sponsor_within (registrar_column q) (pos t)) xs.contacts

  abbrev contacts_numbered : ℤ → List ContactRow
  contacts_numbered id = filter (contact_table.contact_with_id id) xs.contacts

  contact-here : Has (contacts_numbered row.id) row
  contact-here = filter-has (contact_table.contact_with_id row.id) xs.contacts row there (equal row.id row.id refl)

  contact-named-near : (r : Option ℕ) → Has g.contacts row.name → Has (contacts_led r (pending_of r xs) g t xs) row
  contact-named-near r has =
      elsewhere xs contacts_of_sponsor (λ x. x.contact) contacts_numbered (each_named named_contacts xs g.contacts) row.id row contact-here r
      (named-has named_contacts xs g.contacts row row.name has there refl)

  contact-about : (r : Option ℕ) → is_about r c.sponsor c.transfer ≡ true → Has (contacts_led r (pending_of r xs) g t xs) row
  contact-about r e =
      about-found xs contacts_of_sponsor (λ x. x.contact) contacts_numbered (each_named named_contacts xs g.contacts) row.id row contact-here r
      c.sponsor c.transfer (contact-row xs row c reads).transfer
      (λ q own. filter-has (contact_table.contact_of_sponsor_within (registrar_column q) (pos t)) xs.contacts row there
      (and_from _ _ (equal row.sponsor (registrar_column q) ((contact-row xs row c reads).sponsor ∙ ap registrar_column own)) within)) e

  contact-near : (r : Option ℕ) → IsConsistent xs → (concerned_in r g xs).contacts row.name ≡ true → Has (contacts_near r g t xs) row
  contact-near r consistent e =
      filter-has (contact_table.contact_within_due (pos t)) (contacts_led r (pending_of r xs) g t xs) row
      (⊎_elim
      (λ named. contact-named-near r (meant-has contact_name (contacts_of xs) (contact-name-is xs) g.contacts row.name named))
      (λ about. contact-about r (sym (ap (holds_of (λ (x : Contact). is_about r x.sponsor x.transfer)) (contact-stands xs row c consistent there reads)) ∙ about))
      (or_cases (has_name (meant contact_name (contacts_of xs) g.contacts) row.name) (holds_of (λ (x : Contact). is_about r x.sponsor x.transfer) (get (contacts_of xs) row.name)) e))
      within

-- ---- a domain that is concerned

-- the object that was read at a name
read-object : {X A : Type 0} (of_it : X → A) (o : Option X) (a : A) → option_map of_it o ≡ Some a → (x : X) × (o ≡ Some x) × (of_it x ≡ a)
read-object of_it None a e = cc
read-object of_it (Some x) a e = (x, refl, same_some (of_it x) a e)

module _ (xs : Content) (row : DomainRow) (d : Domain) (reads : domain_read xs row ≡ Some d) where
  creator-read : row.creator ≡ registrar_column d.roid.creator
  creator-read = sym (registrar_written row.creator d.roid.creator (roid_read kinds.Domain row.creator row.serial d.roid (parts xs row d reads).roid).creator_is)

  serial-read : row.serial ≡ counter_column d.roid.serial
  serial-read = sym (serial_written row.serial d.roid.serial (roid_read kinds.Domain row.creator row.serial d.roid (parts xs row d reads).roid).serial_is)

module _ (xs : Content) (t : ℕ) (g : Names) (row : DomainRow) (d : Domain) (there : Has xs.domains row) (reads : domain_read xs row ≡ Some d) (within : int_le row.due (pos t) ≡ true) where
  abbrev alike : List DomainRow
  alike = flat_map (domains_alike xs) (each_named named_domains xs g.domains)

  abbrev to_contacts : List DomainRow
  to_contacts = flat_map (domains_to_contact t xs) (each_named named_contacts xs g.contacts)

  abbrev to_hosts : List DomainRow
  to_hosts = flat_map (domains_to_host t xs) (each_named named_hosts xs g.hosts)

  -- the same identifier as one that is named
  domain-alike : (k : List ℕ) (other : DomainRow) → Has g.domains k → Has xs.domains other → other.name ≡ k → row.creator ≡ other.creator → row.serial ≡ other.serial
      → Has (domains_by_names g t xs) row
  domain-alike k other has other_there named creator serial =
      has_left alike (to_contacts ++ to_hosts) row
      (each-has (domains_alike xs) (each_named named_domains xs g.domains) other row (named-has named_domains xs g.domains other k has other_there named)
      (filter-has (domain_table.domain_with_roid other.creator other.serial) xs.domains row there (and_from _ _ (equal row.creator other.creator creator) (equal row.serial other.serial serial))))

  domain-by-roid : list_any (is_same_roid d.roid) (read_at domain_roid (domains_of xs) g.domains) ≡ true → Has (domains_by_names g t xs) row
  domain-by-roid e =
      let it = read-from (λ k. option_map domain_roid (get (domains_of xs) k)) (is_same_roid d.roid) g.domains e in
      let object = read-object domain_roid (get (domains_of xs) it.0) it.1 it.3 in
      let other = row-under xs it.0 object.0 object.1 in
      let same : d.roid ≡ domain_roid object.0 = same-roids d.roid it.1 it.4 ∙ sym object.2 in
      domain-alike it.0 other.0 it.2 other.1 other.3
      (creator-read xs row d reads ∙ ap (λ (x : Roid). registrar_column x.creator) same ∙ sym (creator-read xs other.0 object.0 other.2))
      (serial-read xs row d reads ∙ ap (λ (x : Roid). counter_column x.serial) same ∙ sym (serial-read xs other.0 object.0 other.2))

  by-link : (side : LinkRow → Option ℤ) (id : ℤ) (l : LinkRow) → Has xs.links l → l.domain ≡ row.id → side l ≡ Some id → l.due ≡ row.due
      → Has (flat_map (domain_of_link xs) (filter (λ x. points_to (side x) id && int_le x.due (pos t)) xs.links)) row
  by-link side id l has domain leads due =
      each-has (domain_of_link xs) (filter (λ x. points_to (side x) id && int_le x.due (pos t)) xs.links) l row
      (filter-has (λ x. points_to (side x) id && int_le x.due (pos t)) xs.links l has (and_from _ _ (ap (λ o. points_to o id) leads ∙ equal id id refl) (ap (λ z. int_le z (pos t)) due ∙ within)))
      (filter-has (domain_table.domain_with_id l.domain) xs.domains row there (equal row.id l.domain (sym domain)))

  to-contact : (contact : ContactRow) → (row.registrant ≡ contact.id) ⊎ LinksContact xs row contact.id → Has (domains_to_contact t xs contact) row
  to-contact contact way =
      let registered = filter (domain_table.domain_of_registrant_within contact.id (pos t)) xs.domains in
      let linked = flat_map (domain_of_link xs) (filter (link_table.link_of_contact_within contact.id (pos t)) xs.links) in
      ⊎_elim
      (λ same. has_left registered linked row (filter-has (domain_table.domain_of_registrant_within contact.id (pos t)) xs.domains row there
      (and_from _ _ (equal row.registrant contact.id same) within)))
      (λ (it : LinksContact xs row contact.id). has_right registered linked row (by-link (λ l. l.contact) contact.id it.link it.there it.domain it.contact it.due))
      way

  domain-by-contact : list_any (λ contact. names_contact contact d.links) g.contacts ≡ true → Has (domains_by_names g t xs) row
  domain-by-contact e =
      let it = some_has (λ contact. names_contact contact d.links) g.contacts e in
      let named = names-contact xs row d reads it.0 it.2 in
      has_right alike (to_contacts ++ to_hosts) row (has_left to_contacts to_hosts row
      (each-has (domains_to_contact t xs) (each_named named_contacts xs g.contacts) named.contact row (named-has named_contacts xs g.contacts named.contact it.0 it.1 named.there named.named)
      (to-contact named.contact named.way)))

  domain-by-host : list_any (λ host. names_host host d.links) g.hosts ≡ true → Has (domains_by_names g t xs) row
  domain-by-host e =
      let it = some_has (λ host. names_host host d.links) g.hosts e in
      let named = names-host xs row d reads it.0 it.2 in
      let way = named.way in
      has_right alike (to_contacts ++ to_hosts) row (has_right to_contacts to_hosts row
      (each-has (domains_to_host t xs) (each_named named_hosts xs g.hosts) named.host row (named-has named_hosts xs g.hosts named.host it.0 it.1 named.there named.named)
      (by-link (λ l. l.host) named.host.id way.link way.there way.domain way.host way.due)))

  abbrev domains_of_sponsor : ℕ → List DomainRow
  domains_of_sponsor q = filter (domain_table.domain_of_sponsor_within (registrar_column q) (pos t)) xs.domains

  abbrev domains_numbered : ℤ → List DomainRow
  domains_numbered id = filter (domain_table.domain_with_id id) xs.domains

  domain-here : Has (domains_numbered row.id) row
  domain-here = filter-has (domain_table.domain_with_id row.id) xs.domains row there (equal row.id row.id refl)

  domain-by-names : (r : Option ℕ) → Has (domains_by_names g t xs) row → Has (domains_led r (pending_of r xs) g t xs) row
  domain-by-names r has = elsewhere xs domains_of_sponsor (λ x. x.domain) domains_numbered (domains_by_names g t xs) row.id row domain-here r has

  domain-concerned : (r : Option ℕ) → concerns_domain r g (read_at domain_roid (domains_of xs) g.domains) d ≡ true → Has (domains_led r (pending_of r xs) g t xs) row
  domain-concerned r e =
      let b = list_any (is_same_roid d.roid) (read_at domain_roid (domains_of xs) g.domains) in
      let x = list_any (λ contact. names_contact contact d.links) g.contacts in
      let y = list_any (λ host. names_host host d.links) g.hosts in
      ⊎_elim
      (about-found xs domains_of_sponsor (λ z. z.domain) domains_numbered (domains_by_names g t xs) row.id row domain-here r d.sponsor d.transfer (parts xs row d reads).transfer
      (λ q own. filter-has (domain_table.domain_of_sponsor_within (registrar_column q) (pos t)) xs.domains row there
      (and_from _ _ (equal row.sponsor (registrar_column q) (sponsor-read xs row d reads ∙ ap registrar_column own)) within)))
      (λ rest. domain-by-names r (⊎_elim domain-by-roid (λ more. ⊎_elim domain-by-contact domain-by-host (or_cases x y more)) (or_cases b (x || y) rest)))
      (or_cases (is_about r d.sponsor d.transfer) (b || (x || y)) e)

  domain-near : (r : Option ℕ) → IsConsistent xs → (concerned_in r g xs).domains row.name ≡ true → Has (domains_near r g t xs) row
  domain-near r consistent e =
      filter-has (domain_table.domain_within_due (pos t)) (domains_led r (pending_of r xs) g t xs) row
      (⊎_elim
      (λ named. domain-by-names r (domain-alike row.name row (meant-has domain_name (domains_of xs) (domain-name-is xs) g.domains row.name named) there refl refl refl))
      (λ concerned. domain-concerned r (sym (ap (holds_of (concerns_domain r g (read_at domain_roid (domains_of xs) g.domains))) (stands-there xs row d consistent there reads)) ∙ concerned))
      (or_cases (has_name (meant domain_name (domains_of xs) g.domains) row.name) (holds_of (concerns_domain r g (read_at domain_roid (domains_of xs) g.domains)) (get (domains_of xs) row.name)) e))
      within

-- ---- all of them

picked-as : (chosen : Choice) (kind : ObjectKind) (n : List ℕ) (o : Option ℕ) (d : Due) → due_then kind n o ≡ Some d → is_picked chosen d ≡ true
    → picks kind (chosen.contacts n) (chosen.domains n) ≡ true
picked-as chosen kind n None d e picked = cc
picked-as chosen kind n (Some m) d e picked = ap (is_picked chosen) (same_some _ d e) ∙ picked

pub near-found : (xs : Content) (p : PolicyRules) (r : Option ℕ) (g : Names) (t : ℕ) (due : List Due) → IsConsistent xs → days_of_rows xs ≡ Some p.days → dues_are_right xs ≡ true
    → AreDue p t xs (contacts_near r g t xs) (domains_near r g t xs) due → HasAllNear p r g t xs due
near-found xs p r g t due consistent days right are =
    due-picked xs p t (is_picked (concerned_in r g xs)) (contacts_near r g t xs) (domains_near r g t xs)
    (record {
      some = λ row there. (contacts-among xs r g t).each row (has-filter (contact_table.contact_within_due (pos t)) (contacts_led r (pending_of r xs) g t xs) row there).0;
      all = λ row c due there reads within is picked. contact-near xs t g row c there reads within r consistent (picked-as (concerned_in r g xs) kinds.Contact row.name _ due is picked);
    })
    (record {
      some = λ row there. (domains-among xs r g t).each row (has-filter (domain_table.domain_within_due (pos t)) (domains_led r (pending_of r xs) g t xs) row there).0;
      all = λ row d due there reads within is picked. domain-near xs t g row d there reads within r consistent (picked-as (concerned_in r g xs) kinds.Domain row.name _ due is picked);
    })
    consistent days right due are

-- ---- nothing

any-of : {R : Type 0} (rows : List R) → is_any (take 1 rows) ≡ false → rows ≡ []
any-of [] e = refl
any-of (row ∷ rows) e = cc

-- where nothing is due by the columns of rows, nothing is
pub nothing-due : (xs : Content) (p : PolicyRules) (r : Option ℕ) (g : Names) (t : ℕ) → IsConsistent xs → days_of_rows xs ≡ Some p.days → dues_are_right xs ≡ true → is_behind t xs ≡ false
    → HasAllNear p r g t xs []
nothing-due xs p r g t consistent days right still =
    let both = or_parts (is_any (take 1 (contacts_until t xs))) (is_any (take 1 (domains_until t xs))) still in
    ap (filter (is_picked (concerned_in r g xs))) (all-due xs p t [] consistent days right (record {
      found = [];
      first = ap (with_rows (contact_due_in_row t xs) []) (any-of (contacts_until t xs) both.0);
      second = ap (with_rows (domain_due_shown p t xs) []) (any-of (domains_until t xs) both.1);
    }))
