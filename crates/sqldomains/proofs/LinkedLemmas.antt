-- What the domain of a row names, by the rows that lead from it, and whether any domain passes a test.
use Rattle.std.proofs.Common.{◌≡◌, ◌⊎◌, ⊎_elim, inl, inr, ℕ, Bool, true, false, ◌||◌, cond, List, [], ◌∷◌, ◌++◌, map, filter, Option, Some, None, refl, sym, ap, ◌∙◌}
use Rattle.std.proofs.{Math.Bool.{or-false, or_comm}, lemmas.List.Folds.list_any-append}
use Rattle.std.specs.Str as str
use Rattle.sqldomains.proofs.Words.{are_dated, bytes_eq-Decides, contact_name_by_number, Content, dated, Domain, domain_read, DomainRow, domains_of}
use Rattle.sqldomains.proofs.Words.{entries, first_read, get, Has, has-filter, has_name, HasLinkRows, IsConsistent, link_with_domain, linked_name}
use Rattle.sqldomains.proofs.Words.{LinkRow, Links, links_of, list_any, names_apart, nat_cmp, nat_list_cmp_total, only_named, or_cases, or_else}
use Rattle.sqldomains.proofs.Words.{PassesTest, placed, registrant_alone, Role, role_in, same_some, slice_cmp, step, values, with_link_read}
use Rattle.sqldomains.proofs.{Words.{with_linked_name, with_links, ◌>>=◌}, FoundLemmas.domain-named}
use Rattle.basis.specs.Bag.{add, precedes}
use Rattle.basis.proofs.{BagLaws.any-add, EntryLaws.{Each, among_values, each_entry}}
use Rattle.sqlcolumns.specs.declared.code.Role.TheVariants as roles
use Rattle.sqlcolumns.proofs.ReadLemmas.{kept}
use Rattle.sqltables.specs.Domain as table

-- ---- the domains that rows mean, one by one

pub first-has : {R X : Type 0} (read : R → Option X) (rows : List R) (x : X) → first_read read rows ≡ Some x → (row : R) × Has rows row × (read row ≡ Some x)
first-has read [] x e = cc
first-has {R} {X} read (row ∷ rows) x e = go (read row) refl e (first-has read rows x)
  where
    go : (o : Option X) → read row ≡ o → or_else o (first_read read rows) ≡ Some x → (first_read read rows ≡ Some x → (r : R) × Has rows r × (read r ≡ Some x))
        → (r : R) × Has (row ∷ rows) r × (read r ≡ Some x)
    go None is e more = ((more e).0, inr (more e).1, (more e).2)
    go (Some y) is e more = (row, inl refl, is ∙ e)

-- the domain of a row stands under the row's name
pub stands-there : (xs : Content) (row : DomainRow) (d : Domain) → IsConsistent xs → Has xs.domains row → domain_read xs row ≡ Some d → get (domains_of xs) row.name ≡ Some d
stands-there xs row d consistent there reads =
    sym (domain-named xs row.name) ∙ ap (first_read (domain_read xs)) (only_named table.domains.key (λ (r : DomainRow). r.name) xs.domains row consistent.keyed.domains consistent.named.domains there) ∙ ap (λ o. or_else o None) reads

module _ (xs : Content) (test : Domain → Bool) where
  each-any : (es : List (List ℕ × Domain)) → Each (λ k d. test d ≡ false) es → list_any test (map (λ (e : List ℕ × Domain). e.1) es) ≡ false
  each-any [] all = refl
  each-any (e ∷ es) all = ap (λ b. b || list_any test (map (λ (f : List ℕ × Domain). f.1) es)) all.0 ∙ each-any es all.1

  -- where no row's domain passes, none does
  pub none-passes : ((row : DomainRow) (d : Domain) → Has xs.domains row → domain_read xs row ≡ Some d → test d ≡ false) → list_any test (values (domains_of xs)) ≡ false
  none-passes fails =
      each-any (entries (domains_of xs)) (each_entry (slice_cmp nat_cmp) nat_list_cmp_total names_apart (λ k d. test d ≡ false) (domains_of xs) (λ k d found.
      let it = first-has (domain_read xs) (filter (table.domain_with_name k) xs.domains) d (domain-named xs k ∙ found) in
      fails it.0 d (has-filter (table.domain_with_name k) xs.domains it.0 it.1).0 it.2))

  -- where the domain of a row passes, one does
  pub one-passes : IsConsistent xs → (row : DomainRow) → Has xs.domains row → PassesTest xs test row → list_any test (values (domains_of xs)) ≡ true
  one-passes consistent row there it = among_values (slice_cmp nat_cmp) test (domains_of xs) row.name it.0 it.2 (stands-there xs row it.0 consistent there it.1)

-- ---- names in the lists

-- the names in a role
abbrev pub names_in : Role → Links → List (List ℕ)
names_in roles.Admin l = l.admin
names_in roles.Tech l = l.tech
names_in roles.Host l = l.hosts

-- in a list with a name more, at its end or in its place, a name was there before or is the new one
module _ (name : List ℕ) (before : List (List ℕ)) (new : List ℕ) where
  is_either : (has_name before name || str.bytes_eq new name) ≡ true → (has_name before name ≡ true) ⊎ (new ≡ name)
  is_either e = ⊎_elim inl (λ same. inr ((bytes_eq-Decides new name).0 same)) (or_cases (has_name before name) (str.bytes_eq new name) e)

  is_there : has_name (before ++ new ∷ []) name ≡ true → (has_name before name ≡ true) ⊎ (new ≡ name)
  is_there e =
      is_either (ap (λ b. has_name before name || b) (sym (or-false (str.bytes_eq new name))) ∙ sym (list_any-append (λ o. str.bytes_eq o name) before (new ∷ [])) ∙ e)

  is_placed : has_name (placed new before) name ≡ true → (has_name before name ≡ true) ⊎ (new ≡ name)
  is_placed e = go (has_name before new) e
    where
      go : (c : Bool) → has_name (cond c before (add (precedes (slice_cmp nat_cmp)) new before)) name ≡ true → (has_name before name ≡ true) ⊎ (new ≡ name)
      go true f = inl f
      go false f = is_either (or_comm (has_name before name) (str.bytes_eq new name) ∙ sym (any-add (precedes (slice_cmp nat_cmp)) (λ o. str.bytes_eq o name) new before) ∙ f)

-- one name more, in its list
named-more : (name : List ℕ) (l : Links) (new : List ℕ) (role other : Role) → has_name (names_in role (with_linked_name l other new)) name ≡ true → (has_name (names_in role l) name ≡ true) ⊎ ((other ≡ role) × (new ≡ name))
named-more name l new roles.Admin roles.Admin has = ⊎_elim inl (λ same. inr (refl, same)) (is_there name l.admin new has)
named-more name l new roles.Admin roles.Tech has = inl has
named-more name l new roles.Admin roles.Host has = inl has
named-more name l new roles.Tech roles.Admin has = inl has
named-more name l new roles.Tech roles.Tech has = ⊎_elim inl (λ same. inr (refl, same)) (is_there name l.tech new has)
named-more name l new roles.Tech roles.Host has = inl has
named-more name l new roles.Host roles.Admin has = inl has
named-more name l new roles.Host roles.Tech has = inl has
named-more name l new roles.Host roles.Host has = ⊎_elim inl (λ same. inr (refl, same)) (is_placed name l.hosts new has)

pub registrant-more : (l : Links) (role : Role) (new : List ℕ) → (with_linked_name l role new).registrant ≡ l.registrant
registrant-more l roles.Admin new = refl
registrant-more l roles.Tech new = refl
registrant-more l roles.Host new = refl

-- ---- what the domain of a row names

module _ (xs : Content) where
  -- what a row that reads leads to
  record Led (l n : Links) (row : LinkRow) : Type 0 where
    pub role : Role
    pub name : List ℕ
    pub leads : linked_name xs role row.contact row.host ≡ Some name
    pub makes : with_linked_name l role name ≡ n

  led : (l n : Links) (row : LinkRow) → with_link_read xs l row ≡ Some n → Led l n row
  led l n row e =
      let role = step (role_in row.role) (λ r. linked_name xs r row.contact row.host >>= (λ m. Some (with_linked_name l r m))) n e in
      let name = step (linked_name xs role.given row.contact row.host) (λ m. Some (with_linked_name l role.given m)) n role.rest in
      record { role = role.given; name = name.given; leads = name.is; makes = same_some _ n name.rest }

  -- one of these rows leads to this name in a role
  abbrev pub IsLedTo : List ℕ → Role → List LinkRow → Type 0
  IsLedTo name role rows = (row : LinkRow) × Has rows row × (linked_name xs role row.contact row.host ≡ Some name)

  -- a name in the list of a role was there before, or one of the rows leads to it
  pub all-rows : (name : List ℕ) (role : Role) (rows : List LinkRow) (l m : Links) → with_links xs l rows ≡ Some m → has_name (names_in role m) name ≡ true → (has_name (names_in role l) name ≡ true) ⊎ IsLedTo name role rows
  all-rows name role [] l m e has = inl (ap (λ z. has_name (names_in role z) name) (same_some l m e) ∙ has)
  all-rows name role (row ∷ rows) l m e has =
      let first = step (with_link_read xs l row) (λ n. with_links xs n rows) m e in
      let it = led l first.given row first.is in
      ⊎_elim
      (λ (before : has_name (names_in role first.given) name ≡ true).
      ⊎_elim inl (λ (new : (it.role ≡ role) × (it.name ≡ name)). inr (row, inl refl, ap (λ r. linked_name xs r row.contact row.host) (sym new.0) ∙ it.leads ∙ ap Some new.1))
      (named-more name l it.name role it.role (ap (λ z. has_name (names_in role z) name) it.makes ∙ before)))
      (λ (later : IsLedTo name role rows). inr (later.0, inr later.1, later.2))
      (all-rows name role rows first.given m first.rest has)

  registrant-kept : (rows : List LinkRow) (l m : Links) → with_links xs l rows ≡ Some m → m.registrant ≡ l.registrant
  registrant-kept [] l m e = sym (ap (λ (z : Links). z.registrant) (same_some l m e))
  registrant-kept (row ∷ rows) l m e =
      let first = step (with_link_read xs l row) (λ n. with_links xs n rows) m e in
      let it = led l first.given row first.is in
      registrant-kept rows first.given m first.rest ∙ sym (ap (λ (z : Links). z.registrant) it.makes) ∙ registrant-more l it.role it.name

  -- what a row's links read as is led to by its registrant's number and by the rows with its number
  pub links-led : (row : DomainRow) (l : Links) → links_of xs row ≡ Some l → (contact_name_by_number xs row.registrant ≡ Some l.registrant) × HasLinkRows row.id row.due l xs
  links-led row l e =
      let own = filter (link_with_domain row.id) xs.links in
      let registrant = step (contact_name_by_number xs row.registrant) _ l e in
      let rows = step (dated row.due own) (with_links xs (registrant_alone registrant.given)) l registrant.rest in
      let so = kept own rows.given (are_dated row.due own) rows.is in
      let all = ap (with_links xs (registrant_alone registrant.given)) so.1 ∙ rows.rest in
      let same = registrant-kept own (registrant_alone registrant.given) l all in
      (registrant.is ∙ ap Some (sym same), record { all = ap (λ r. with_links xs (registrant_alone r) own) same ∙ all; dated = so.0 })
