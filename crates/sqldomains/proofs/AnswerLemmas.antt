-- What is answered to whether a contact, or a host, is linked.
use Rattle.std.proofs.Common.{◌≡◌, ⊎_elim, inl, ℕ, ℤ, Bool, true, false, List, [], ◌∷◌, filter, Option, Some, refl, ap, subst, ◌∙◌, int_eq, take}
use Rattle.std.proofs.lemmas.Bool.Decides.{Decides-int_eq}
use Rattle.sqldomains.proofs.Words.{bytes_same, Content, false_from_ne_true, filter-has, Has, has-filter, HostRow, rows_named, IsNoContact}
use Rattle.sqldomains.proofs.Words.{link_with_contact, link_with_host, named_contacts, named_hosts, names_contact}
use Rattle.sqldomains.proofs.Words.{names_host, some_domain_names_contact, some_domain_names_host}
use Rattle.sqldomains.proofs.{LeadingLemmas.{LinksContact, names-contact, names-host}, LinkedLemmas.none-passes}
use Rattle.sqlite_keyed.specs.Rules.{points_to}
use Rattle.sqltables.specs.Domain as table
use Rattle.sqltables.specs.{Contact.contact_with_name, Host.host_with_name, declared.contact.ContactRow.ContactRow}
use Rattle.sqlobjects.proofs.PutLemmas.{nobody, the-one}

pub equal : (a b : ℤ) → a ≡ b → int_eq a b ≡ true
equal a b e = (Decides-int_eq a b).1 e

-- ---- rows of which one is taken

has-taken : {R : Type 0} (all : List R) (row : R) → take 1 all ≡ row ∷ [] → Has all row
has-taken [] row e = cc
has-taken (x ∷ all) row e = inl cc

-- the first of those that pass
pub first-in : {R : Type 0} (p : R → Bool) (xs : List R) (row : R) → take 1 (filter p xs) ≡ row ∷ [] → Has xs row
first-in p xs row e = (has-filter p xs row (has-taken (filter p xs) row e)).0

-- ---- whether one is linked

points : (o : Option ℤ) (id : ℤ) → o ≡ Some id → points_to o id ≡ true
points o id e = ap (λ n. points_to n id) e ∙ equal id id refl

module _ (xs : Content) (name : List ℕ) where
  pub contact-nowhere : rows_named named_contacts name xs ≡ [] → some_domain_names_contact xs name ≡ false
  contact-nowhere none = none-passes xs (λ d. names_contact name d.links) (λ row d there reads. false_from_ne_true _ (λ has.
      let it = names-contact xs row d reads name has in
      nobody (λ (r : ContactRow). r.name) name xs.contacts none it.contact it.there it.named))

  pub host-nowhere : rows_named named_hosts name xs ≡ [] → some_domain_names_host xs name ≡ false
  host-nowhere none = none-passes xs (λ d. names_host name d.links) (λ row d there reads. false_from_ne_true _ (λ has.
      let it = names-host xs row d reads name has in
      nobody (λ (r : HostRow). r.name) name xs.hosts none it.host it.there it.named))

  pub contact-unused : (contact : ContactRow) → rows_named named_contacts name xs ≡ contact ∷ [] → IsNoContact xs contact.id → some_domain_names_contact xs name ≡ false
  contact-unused contact found none = none-passes xs (λ d. names_contact name d.links) (λ row d there reads. false_from_ne_true _ (λ has.
      let it = names-contact xs row d reads name has in
      let same = ap (λ (r : ContactRow). r.id) (the-one (contact_with_name name) xs.contacts contact it.contact found it.there (bytes_same it.contact.name name it.named)) in
      ⊎_elim
      (λ (by : row.registrant ≡ it.contact.id). subst (λ l. Has l row) none.registrant (filter-has (table.domain_with_registrant contact.id) xs.domains row there (equal row.registrant contact.id (by ∙ same))))
      (λ (by : LinksContact xs row it.contact.id). subst (λ l. Has l by.link) none.links (filter-has (link_with_contact contact.id) xs.links by.link by.there (points by.link.contact contact.id (by.contact ∙ ap Some same))))
      it.way))

  pub host-unused : (host : HostRow) → rows_named named_hosts name xs ≡ host ∷ [] → filter (link_with_host host.id) xs.links ≡ [] → some_domain_names_host xs name ≡ false
  host-unused host found none = none-passes xs (λ d. names_host name d.links) (λ row d there reads. false_from_ne_true _ (λ has.
      let it = names-host xs row d reads name has in
      let same = ap (λ (r : HostRow). r.id) (the-one (host_with_name name) xs.hosts host it.host found it.there (bytes_same it.host.name name it.named)) in
      let by = it.way in
      subst (λ l. Has l by.link) none (filter-has (link_with_host host.id) xs.links by.link by.there (points by.link.host host.id (by.host ∙ ap Some same)))))

-- the same of states that are alike
pub alike : {R : Type 0} (Is : Content → R → Type 0) (xs ys : Content) (o p : R) → xs ≡ ys → o ≡ p → Is xs o → Is ys p
alike Is xs ys o p same is it = subst (Is ys) is (subst (λ c. Is c o) same it)
