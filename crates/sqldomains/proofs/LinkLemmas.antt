-- What rows of links lead to, and what they then read as, where their numbers lead to the same names.
use Rattle.std.proofs.Common.{◌≡◌, ℤ, Bool, true, false, cond, List, [], ◌∷◌, filter, Option, Some, None, inl, inr, refl, ap, ◌∙◌}
use Rattle.sqldomains.proofs.Words.{alone, are_dated, contact_name_by_number, Content, dated, domain_of_columns, domain_read, DomainRow, Has}
use Rattle.sqldomains.proofs.Words.{host_name_by_number, last_transfer, link_with_domain, linked_name, LinkRow, Links, registrant_alone, Role}
use Rattle.sqldomains.proofs.Words.{role_in, transfer_with_domain, with_linked_name, with_links, ◌>>=◌}
use Rattle.sqlcolumns.specs.declared.code.Role.TheVariants as roles

alone-alike : {X : Type 0} (number other : Option ℤ) (f g : ℤ → Option X) → ((id : ℤ) → number ≡ Some id → f id ≡ g id) → (alone number other >>= f) ≡ (alone number other >>= g)
alone-alike None None f g same = refl
alone-alike (Some id) None f g same = same id refl
alone-alike number (Some id) f g same = refl

module _ (xs ys : Content) where
  -- a row whose numbers lead to the same names
  pub name-where : (role : Role) (contact host : Option ℤ) → ((id : ℤ) → contact ≡ Some id → contact_name_by_number ys id ≡ contact_name_by_number xs id) → ((id : ℤ) → host ≡ Some id → host_name_by_number ys id ≡ host_name_by_number xs id)
      → linked_name ys role contact host ≡ linked_name xs role contact host
  name-where roles.Host contact host contacts hosts = alone-alike host contact (host_name_by_number ys) (host_name_by_number xs) hosts
  name-where roles.Admin contact host contacts hosts = alone-alike contact host (contact_name_by_number ys) (contact_name_by_number xs) contacts
  name-where roles.Tech contact host contacts hosts = alone-alike contact host (contact_name_by_number ys) (contact_name_by_number xs) contacts

  pub links-where : (rows : List LinkRow) → ((row : LinkRow) → Has rows row → (role : Role) → linked_name ys role row.contact row.host ≡ linked_name xs role row.contact row.host) → (l : Links) → with_links ys l rows ≡ with_links xs l rows
  links-where [] names l = refl
  links-where (row ∷ rows) names l =
      λ i. (role_in row.role >>= (λ r. names row (inl refl) r i >>= (λ n. Some (with_linked_name l r n)))) >>= (λ n. links-where rows (λ r h. names r (inr h)) n i)

  -- where all names are the same
  pub links-alike : ((id : ℤ) → contact_name_by_number ys id ≡ contact_name_by_number xs id) → ((id : ℤ) → host_name_by_number ys id ≡ host_name_by_number xs id) → (rows : List LinkRow) (l : Links) → with_links ys l rows ≡ with_links xs l rows
  links-alike contacts hosts rows = links-where rows (λ row there role. name-where role row.contact row.host (λ id e. contacts id) (λ id e. hosts id))

-- what follows on a test, where what was tested gives the same
if-kept : {A B : Type 0} (b : Bool) (x : A) (f g : A → Option B) → f x ≡ g x → (cond b (Some x) None >>= f) ≡ (cond b (Some x) None >>= g)
if-kept true x f g e = e
if-kept false x f g e = refl

-- a domain is read as before, if it has the same links and transfers, and they and its row lead to the same names
pub read-where : (xs ys : Content) (row : DomainRow) → filter (link_with_domain row.id) ys.links ≡ filter (link_with_domain row.id) xs.links → filter (transfer_with_domain row.id) ys.transfers ≡ filter (transfer_with_domain row.id) xs.transfers
    → contact_name_by_number ys row.registrant ≡ contact_name_by_number xs row.registrant
    → ((link : LinkRow) → Has (filter (link_with_domain row.id) xs.links) link → (role : Role) → linked_name ys role link.contact link.host ≡ linked_name xs role link.contact link.host)
    → domain_read ys row ≡ domain_read xs row
read-where xs ys row links transfers registrant names =
    let own = filter (link_with_domain row.id) xs.links in
    λ i. (registrant i >>= (λ a.
    (ap (λ rows. dated row.due rows >>= with_links ys (registrant_alone a)) links
    ∙ if-kept (are_dated row.due own) own (with_links ys (registrant_alone a)) (with_links xs (registrant_alone a)) (links-where xs ys own names (registrant_alone a))) i))
    >>= (λ l. last_transfer (transfers i) >>= (λ transfer. domain_of_columns row l transfer))
