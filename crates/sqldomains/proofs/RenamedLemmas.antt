-- What domains name where the row of one host was made another's: each names the other in place of the one.
use Rattle.std.proofs.Common.{◌≡◌, ℕ, ℤ, false, List, [], ◌∷◌, filter, Option, Some, None, option_map, refl, sym, ap, subst, ◌∙◌}
use Rattle.std.specs.Str.{bytes_eq}
use Rattle.sqldomains.proofs.Words.{alone, bytes_eq-Decides, contact_name_by_number, Content, dated, deletion_in, Domain, domain_of_columns}
use Rattle.sqldomains.proofs.Words.{domain_read, domain_registration_columns, domain_with, DomainRow, domains_of, false_from_ne_true, first_read}
use Rattle.sqldomains.proofs.Words.{get, Host, host_name_by_number, IsRowRenamed, last_transfer, link_with_domain, linked_name, LinkRow, Links}
use Rattle.sqldomains.proofs.Words.{links_of, new_name, or_else, placed, registrant_alone, registration_in, Role, role_in, same_some, statuses_in}
use Rattle.sqldomains.proofs.Words.{step, transfer_with_domain, with_link_read, with_linked_name, with_links, years_in_column, ◌>>=◌}
use Rattle.sqldomains.proofs.FoundLemmas.{domain-named}
use Rattle.objects.specs.declared.roid.ObjectKind.TheVariants as kinds
use Rattle.objects.specs.declared.transfer.Transfer.{Transfer}
use Rattle.sqlcolumns.specs.declared.code.Role.TheVariants as roles
use Rattle.sqltables.specs.Domain as table

-- steps that go on alike afterwards
mapped : {A C B D : Type 0} (o : Option A) (f : A → C) (g : B → D) (k : A → Option B) (m : C → Option D) → ((x : A) → o ≡ Some x → m (f x) ≡ option_map g (k x)) → (option_map f o >>= m) ≡ option_map g (o >>= k)
mapped None f g k m same = refl
mapped (Some x) f g k m same = same x refl

each : {A B D : Type 0} (o : Option A) (g : B → D) (k : A → Option B) (m : A → Option D) → ((x : A) → m x ≡ option_map g (k x)) → (o >>= m) ≡ option_map g (o >>= k)
each None g k m same = refl
each (Some x) g k m same = same x

itself : {A : Type 0} (o : Option A) → o ≡ option_map (λ x. x) o
itself None = refl
itself (Some x) = refl

map-or : {A B : Type 0} (f : A → B) (a b : Option A) → or_else (option_map f a) (option_map f b) ≡ option_map f (or_else a b)
map-or f None b = refl
map-or f (Some x) b = refl

-- `after` says how a domain's hosts stand afterwards: none as none, and with one more by its name of then
module _ (from : List ℕ) (h : Host) (xs ys : Content) (it : IsRowRenamed from h xs ys) (after : List (List ℕ) → List (List ℕ)) (Before : List (List ℕ) → Type 0) (none : Before []) (same : after [] ≡ [])
    (more : (n : List ℕ) (l : List (List ℕ)) → Before l → bytes_eq n h.name ≡ false → Before (placed n l))
    (moved : (n : List ℕ) (l : List (List ℕ)) → Before l → bytes_eq n h.name ≡ false → after (placed n l) ≡ placed (new_name from h.name n) (after l)) where
  abbrev links_after : Links → Links
  links_after l = record l { hosts = after l.hosts }

  abbrev domain_after : Domain → Domain
  domain_after d = record d { links = links_after d.links }

  -- ---- one row

  abbrev name_after : Role → List ℕ → List ℕ
  name_after roles.Admin n = n
  name_after roles.Tech n = n
  name_after roles.Host n = new_name from h.name n

  contact-same : (id : ℤ) → contact_name_by_number ys id ≡ contact_name_by_number xs id
  contact-same id = ap (λ rows. contact_name_by_number (record ys { contacts = rows }) id) it.contact_rows

  name-after : (role : Role) (contact host : Option ℤ) → linked_name ys role contact host ≡ option_map (name_after role) (linked_name xs role contact host)
  name-after roles.Host contact host = each (alone host contact) (name_after roles.Host) (host_name_by_number xs) (host_name_by_number ys) it.names
  name-after roles.Admin contact host = each (alone contact host) (λ n. n) (contact_name_by_number xs) (contact_name_by_number ys) (λ id. contact-same id ∙ itself (contact_name_by_number xs id))
  name-after roles.Tech contact host = each (alone contact host) (λ n. n) (contact_name_by_number xs) (contact_name_by_number ys) (λ id. contact-same id ∙ itself (contact_name_by_number xs id))

  host-free : (contact host : Option ℤ) (n : List ℕ) → linked_name xs roles.Host contact host ≡ Some n → bytes_eq n h.name ≡ false
  host-free None (Some id) n e = false_from_ne_true (bytes_eq n h.name) (λ f. it.free id (e ∙ ap Some ((bytes_eq-Decides n h.name).0 f)))
  host-free None None n e = cc
  host-free (Some c) host n e = cc

  -- with a name more, in its role
  named-after : (role : Role) (l : Links) (contact host : Option ℤ) (n : List ℕ) → Before l.hosts → linked_name xs role contact host ≡ Some n → with_linked_name (links_after l) role (name_after role n) ≡ links_after (with_linked_name l role n)
  named-after roles.Admin l contact host n before e = refl
  named-after roles.Tech l contact host n before e = refl
  named-after roles.Host l contact host n before e = λ i. record l { hosts = sym (moved n l.hosts before (host-free contact host n e)) i }

  named-before : (role : Role) (l : Links) (contact host : Option ℤ) (n : List ℕ) → Before l.hosts → linked_name xs role contact host ≡ Some n → Before (with_linked_name l role n).hosts
  named-before roles.Admin l contact host n before e = before
  named-before roles.Tech l contact host n before e = before
  named-before roles.Host l contact host n before e = more n l.hosts before (host-free contact host n e)

  link-after : (l : Links) (row : LinkRow) → Before l.hosts → with_link_read ys (links_after l) row ≡ option_map links_after (with_link_read xs l row)
  link-after l row before = each (role_in row.role) links_after (λ role. linked_name xs role row.contact row.host >>= (λ n. Some (with_linked_name l role n))) _ (λ role.
      ap (λ o. o >>= (λ n. Some (with_linked_name (links_after l) role n))) (name-after role row.contact row.host)
      ∙ mapped (linked_name xs role row.contact row.host) (name_after role) links_after (λ n. Some (with_linked_name l role n)) (λ n. Some (with_linked_name (links_after l) role n))
      (λ n e. ap Some (named-after role l row.contact row.host n before e)))

  link-before : (l m : Links) (row : LinkRow) → Before l.hosts → with_link_read xs l row ≡ Some m → Before m.hosts
  link-before l m row before e =
      let role = step (role_in row.role) (λ r. linked_name xs r row.contact row.host >>= (λ n. Some (with_linked_name l r n))) m e in
      let name = step (linked_name xs role.given row.contact row.host) (λ n. Some (with_linked_name l role.given n)) m role.rest in
      subst (λ (z : Links). Before z.hosts) (same_some (with_linked_name l role.given name.given) m name.rest) (named-before role.given l row.contact row.host name.given before name.is)

  -- ---- the rows of a domain

  rows-after : (rows : List LinkRow) (l : Links) → Before l.hosts → with_links ys (links_after l) rows ≡ option_map links_after (with_links xs l rows)
  rows-after [] l before = refl
  rows-after (row ∷ rows) l before =
      ap (λ o. o >>= (λ n. with_links ys n rows)) (link-after l row before)
      ∙ mapped (with_link_read xs l row) links_after links_after (λ n. with_links xs n rows) (λ n. with_links ys n rows) (λ m e. rows-after rows m (link-before l m row before e))

  links-after : (row : DomainRow) → links_of ys row ≡ option_map links_after (links_of xs row)
  links-after row =
      let own = dated row.due (filter (link_with_domain row.id) xs.links) in
      (λ i. contact-same row.registrant i >>= (λ a. dated row.due (filter (link_with_domain row.id) (it.links i)) >>= with_links ys (registrant_alone a)))
      ∙ each (contact_name_by_number xs row.registrant) links_after (λ a. own >>= with_links xs (registrant_alone a)) (λ a. own >>= with_links ys (registrant_alone a)) (λ a.
      each own links_after (with_links xs (registrant_alone a)) (with_links ys (registrant_alone a)) (λ rows.
      (λ i. with_links ys (record (registrant_alone a) { hosts = sym same i }) rows) ∙ rows-after rows (registrant_alone a) none))

  -- ---- domains

  columns-after : (row : DomainRow) (l : Links) (transfer : Option Transfer) → domain_of_columns row (links_after l) transfer ≡ option_map domain_after (domain_of_columns row l transfer)
  columns-after row l transfer =
      each (registration_in kinds.Domain (domain_registration_columns row)) domain_after _ _ (λ r.
      each (years_in_column row.years) domain_after _ _ (λ y.
      each (statuses_in row.statuses) domain_after _ _ (λ s.
      each (deletion_in row.deleted row.restore_requested) domain_after (λ x. Some (domain_with row r y s x l transfer)) (λ x. Some (domain_with row r y s x (links_after l) transfer)) (λ x. refl))))

  pub reading-after : (row : DomainRow) → domain_read ys row ≡ option_map domain_after (domain_read xs row)
  reading-after row =
      let transfers = last_transfer (filter (transfer_with_domain row.id) xs.transfers) in
      (λ i. links-after row i >>= (λ l. last_transfer (filter (transfer_with_domain row.id) (it.transfers i)) >>= (λ transfer. domain_of_columns row l transfer)))
      ∙ mapped (links_of xs row) links_after domain_after (λ l. transfers >>= domain_of_columns row l) (λ l. transfers >>= domain_of_columns row l) (λ l e.
      each transfers domain_after (domain_of_columns row l) (domain_of_columns row (links_after l)) (columns-after row l))

  pub domains-after : (q : List ℕ) → get (domains_of ys) q ≡ option_map domain_after (get (domains_of xs) q)
  domains-after q =
      sym (domain-named ys q) ∙ ap (λ rows. first_read (domain_read ys) (filter (table.domain_with_name q) rows)) it.domains
      ∙ firsts (filter (table.domain_with_name q) xs.domains) ∙ ap (option_map domain_after) (domain-named xs q)
    where
      firsts : (rows : List DomainRow) → first_read (domain_read ys) rows ≡ option_map domain_after (first_read (domain_read xs) rows)
      firsts [] = refl
      firsts (row ∷ rows) = (λ i. or_else (reading-after row i) (firsts rows i)) ∙ map-or domain_after (domain_read xs row) (first_read (domain_read xs) rows)
