-- Rows that lead from a domain, removed and added.
use Rattle.std.proofs.Common.{◌≡◌, ◌+◌, ◌<◌, get_or, length, take, ℕ, ℤ, Bool, true, false, true≢false, cond, List, [], ◌∷◌, ◌++◌, map, filter, fold, Option, Some, None, refl, sym, ap, subst, ◌∙◌, append_assoc, int_eq}
use Rattle.std.proofs.lemmas.Bool.Decides.{Decides-int_eq}
use Rattle.sqldomains.proofs.Words.{all-changed, all-pass, append-nil, are_dated, AreLinksCleared, AreLinksPutOver, AreNamesAdded, AreOtherLinksKept}
use Rattle.sqldomains.proofs.Words.{Content, delete_where, filter-append, filter-append_pass, filter-delete, filter-deleted, filter-map, filter_same}
use Rattle.sqldomains.proofs.Words.{has-filter, HasLinkRows, in_places, int_eq_apart, IsLinkTo, link_with_domain, linked_name, LinkRow, Links}
use Rattle.sqldomains.proofs.Words.{links_to, list_all_push, next_key, placed, registrant_alone, Role, role_in, same_int, take_more, update_where}
use Rattle.sqldomains.proofs.{Words.{with_link_read, with_linked_name, with_links, with_names, ◌>>=◌}, LinkLemmas.links-alike}
use Rattle.sqldomains.proofs.LinkedLemmas.{registrant-more}
use Rattle.sqlrows.specs.inner.Layouts.{appended}
use Rattle.sqlcolumns.specs.declared.code.Role.TheVariants as roles
use Rattle.sqlcolumns.proofs.CodeLemmas.{role_back}
use Rattle.sqltables.specs.Link as table
use Rattle.sqlobjects.proofs.PutLemmas.{map-stays}
use Rattle.sqldomains.specs.declared.comparison.LinkComparison.TheVariants as comparisons

-- ---- one row more

bind-some : {A : Type 0} (o : Option A) → o >>= (λ x. Some x) ≡ o
bind-some None = refl
bind-some (Some x) = refl

bind-assoc : {A B C : Type 0} (o : Option A) (f : A → Option B) (g : B → Option C) → (o >>= f) >>= g ≡ o >>= (λ x. f x >>= g)
bind-assoc None f g = refl
bind-assoc (Some x) f g = refl

with-more : (xs : Content) (rows : List LinkRow) (l : Links) (row : LinkRow) → with_links xs l (rows ++ row ∷ []) ≡ with_links xs l rows >>= (λ m. with_link_read xs m row)
with-more xs [] l row = bind-some (with_link_read xs l row)
with-more xs (r ∷ rows) l row =
    (λ i. with_link_read xs l r >>= (λ n. with-more xs rows n row i))
    ∙ sym (bind-assoc (with_link_read xs l r) (λ n. with_links xs n rows) (λ m. with_link_read xs m row))

one-leads : (xs : Content) (id due k : ℤ) (role : Role) (name : List ℕ) (row : LinkRow) (m : Links) → IsLinkTo xs id due role name row → with_link_read xs m (record row { id = k }) ≡ Some (with_linked_name m role name)
one-leads xs id due k role name row m is =
    (λ i. (ap role_in is.role_is ∙ role_back role) i >>= (λ r. linked_name xs r row.contact row.host >>= (λ n. Some (with_linked_name m r n))))
    ∙ (λ i. is.leads i >>= (λ n. Some (with_linked_name m role n)))

pub name-added : (id due : ℤ) (role : Role) (name : List ℕ) (xs : Content) (row : LinkRow) → IsLinkTo xs id due role name row
    → AreNamesAdded id due role (name ∷ []) xs (links_to (appended table.links (λ k. record row { id = k })) xs)
name-added id due role name xs row is =
    let k = next_key table.links.key xs.links in
    let new : LinkRow = record row { id = k } in
    let ys : Content = links_to (appended table.links (λ k. record row { id = k })) xs in
    let more : filter (link_with_domain id) ys.links ≡ filter (link_with_domain id) xs.links ++ new ∷ [] = filter-append_pass (link_with_domain id) xs.links new ((Decides-int_eq row.domain id).1 is.domain) in
    record {
      here = λ l before. record {
        all =
            ap (λ r. with_links ys (registrant_alone r) (filter (link_with_domain id) ys.links)) (registrant-more l role name)
            ∙ links-alike xs ys (λ i. refl) (λ i. refl) (filter (link_with_domain id) ys.links) (registrant_alone l.registrant)
            ∙ ap (with_links xs (registrant_alone l.registrant)) more
            ∙ with-more xs (filter (link_with_domain id) xs.links) (registrant_alone l.registrant) new
            ∙ ap (λ o. o >>= (λ m. with_link_read xs m new)) before.all
            ∙ one-leads xs id due k role name row l is;
        dated = ap (are_dated due) more ∙ list_all_push (λ (l : LinkRow). int_eq l.due due) (filter (link_with_domain id) xs.links) new before.dated ((Decides-int_eq row.due due).1 is.due_is);
      };
      others = record {
        domains = λ other apart. filter-append (link_with_domain other) xs.links new (ap (λ n. int_eq n other) is.domain ∙ apart);
        rest = refl;
      };
    }

-- ---- several

pub none-named : (id due : ℤ) (role : Role) (xs : Content) → AreNamesAdded id due role [] xs xs
none-named id due role xs = record { here = λ l is. is; others = record { domains = λ other apart. refl; rest = refl } }

with_names-append : (role : Role) (ts us : List (List ℕ)) (l : Links) → with_names role l (ts ++ us) ≡ with_names role (with_names role l ts) us
with_names-append role [] us l = refl
with_names-append role (t ∷ ts) us l = with_names-append role ts us (with_linked_name l role t)

then-kept : (id : ℤ) (a b c : Content) → AreOtherLinksKept id a b → AreOtherLinksKept id b c → AreOtherLinksKept id a c
then-kept id a b c one two = record {
  domains = λ other apart. two.domains other apart ∙ one.domains other apart;
  rest = two.rest ∙ ap (λ (x : Content). record x { links = c.links }) one.rest;
}

pub next-named : (id due : ℤ) (role : Role) (ts : List (List ℕ)) (i : ℕ) (t : List ℕ) (a b c : Content) → i < length ts → t ≡ get_or ts i t → AreNamesAdded id due role (take i ts) a b → AreNamesAdded id due role (t ∷ []) b c
    → AreNamesAdded id due role (take (i + 1) ts) a c
next-named id due role ts i t a b c within is one two =
    subst (λ l. AreNamesAdded id due role l a c) (ap (λ x. take i ts ++ x ∷ []) is ∙ sym (take_more ts i t within)) (record {
      here = λ l before. subst (λ m. HasLinkRows id due m c) (sym (with_names-append role (take i ts) (t ∷ []) l)) (two.here (with_names role l (take i ts)) (one.here l before));
      others = then-kept id a b c one.others two.others;
    })

-- ---- all of them in place of others

pub links-cleared : (id : ℤ) (xs : Content) → AreLinksCleared id xs (links_to (delete_where (link_with_domain id)) xs)
links-cleared id xs = record {
  none = filter-deleted (link_with_domain id) (link_with_domain id) xs.links (λ r h e. e);
  others = record {
    domains = λ other apart. filter-delete (link_with_domain other) (link_with_domain id) xs.links (λ r h is. ap (λ k. int_eq k other) (same_int r.domain id is) ∙ apart);
    rest = refl;
  };
}

admins : (names : List (List ℕ)) (l : Links) → with_names roles.Admin l names ≡ record l { admin = l.admin ++ names }
admins [] l = λ i. record l { admin = sym (append-nil l.admin) i }
admins (n ∷ ns) l = admins ns (with_linked_name l roles.Admin n) ∙ (λ i. record l { admin = append_assoc l.admin (n ∷ []) ns i })

techs : (names : List (List ℕ)) (l : Links) → with_names roles.Tech l names ≡ record l { tech = l.tech ++ names }
techs [] l = λ i. record l { tech = sym (append-nil l.tech) i }
techs (n ∷ ns) l = techs ns (with_linked_name l roles.Tech n) ∙ (λ i. record l { tech = append_assoc l.tech (n ∷ []) ns i })

all_hosts : (names : List (List ℕ)) (l : Links) → with_names roles.Host l names ≡ record l { hosts = fold (λ all name. placed name all) l.hosts names }
all_hosts [] l = refl
all_hosts (n ∷ ns) l = all_hosts ns (with_linked_name l roles.Host n)

in-all : (l : Links) → in_places l.hosts ≡ l.hosts → with_names roles.Host (with_names roles.Tech (with_names roles.Admin (registrant_alone l.registrant) l.admin) l.tech) l.hosts ≡ l
in-all l so =
    ap (λ m. with_names roles.Host (with_names roles.Tech m l.tech) l.hosts) (admins l.admin (registrant_alone l.registrant))
    ∙ ap (λ m. with_names roles.Host m l.hosts) (techs l.tech (record (registrant_alone l.registrant) { admin = l.admin }))
    ∙ all_hosts l.hosts (record (registrant_alone l.registrant) { admin = l.admin; tech = l.tech })
    ∙ (λ i. record l { hosts = so i })

pub links-added : (id due : ℤ) (l : Links) (a b c d : Content) → AreNamesAdded id due roles.Admin l.admin a b → AreNamesAdded id due roles.Tech l.tech b c → AreNamesAdded id due roles.Host l.hosts c d → AreLinksPutOver id due l comparisons.Absent a d
links-added id due l a b c d admin tech host so none =
    let start : HasLinkRows id due (registrant_alone l.registrant) a = record { all = ap (with_links a (registrant_alone l.registrant)) none; dated = ap (are_dated due) none } in
    record {
      here = subst (λ m. HasLinkRows id due m d) (in-all l so) (host.here _ (tech.here _ (admin.here _ start)));
      others = then-kept id a b d admin.others (then-kept id b c d tech.others host.others);
    }

pub links-replaced : (id due number : ℤ) (l : Links) (a b c : Content) → number ≡ id → AreLinksCleared number a b → AreLinksPutOver id due l comparisons.Absent b c → AreLinksPutOver id due l comparisons.Different a c
links-replaced id due number l a b c same clear added so any =
    let cleared : AreLinksCleared id a b = subst (λ k. AreLinksCleared k a b) same clear in
    let put = added so cleared.none in
    record { here = put.here; others = then-kept id a b c cleared.others put.others }

-- ---- rows that stay

module _ (id due : ℤ) where
  abbrev due_then : LinkRow → LinkRow
  due_then row = record row { due = due }

  abbrev updated : LinkRow → LinkRow
  updated row = cond (link_with_domain id row) (due_then row) row

  -- each domain's rows are its rows, updated
  updated-rows : (other : ℤ) (rows : List LinkRow) → filter (link_with_domain other) (map updated rows) ≡ map updated (filter (link_with_domain other) rows)
  updated-rows other rows =
      filter-map (link_with_domain other) updated rows
      ∙ ap (map updated) (filter_same (λ (row : LinkRow). link_with_domain other (updated row)) (link_with_domain other) (λ row. kept row (link_with_domain id row)) rows)
    where
      kept : (row : LinkRow) (b : Bool) → link_with_domain other (cond b (due_then row) row) ≡ link_with_domain other row
      kept row true = refl
      kept row false = refl

  -- where rows lead doesn't hang on when they are due
  lead-alike : (xs : Content) (rows : List LinkRow) (l : Links) → with_links xs l (map updated rows) ≡ with_links xs l rows
  lead-alike xs [] l = refl
  lead-alike xs (row ∷ rows) l = λ i. at (link_with_domain id row) i >>= (λ n. lead-alike xs rows n i)
    where
      at : (b : Bool) → with_link_read xs l (cond b (due_then row) row) ≡ with_link_read xs l row
      at true = refl
      at false = refl

  all-dated : (rows : List LinkRow) → are_dated due (map updated (filter (link_with_domain id) rows)) ≡ true
  all-dated rows =
      let own = filter (link_with_domain id) rows in
      all-changed (λ (row : LinkRow). true) (λ (l : LinkRow). int_eq l.due due) updated own (λ row there.
      ap (λ (b : Bool). int_eq (cond b (due_then row) row).due due) (has-filter (link_with_domain id) rows row there).1 ∙ (Decides-int_eq due due).1 refl)
      ∙ all-pass (λ (row : LinkRow). true) own (λ row there. refl)

  others-stay : (other : ℤ) → int_eq id other ≡ false → (rows : List LinkRow) → map updated (filter (link_with_domain other) rows) ≡ filter (link_with_domain other) rows
  others-stay other apart rows = map-stays updated (filter (link_with_domain other) rows) (λ row there.
      let is : row.domain ≡ other = same_int row.domain other (has-filter (link_with_domain other) rows row there).1 in
      ap (λ (b : Bool). cond b (due_then row) row) (ap (λ k. int_eq k id) is ∙ int_eq_apart other id (λ e. true≢false (sym ((Decides-int_eq id other).1 (sym e)) ∙ apart))))

  pub dues-set : (l : Links) (xs : Content) → AreLinksPutOver id due l comparisons.Misdated xs (links_to (update_where (link_with_domain id) due_then) xs)
  dues-set l xs so leads =
      let ys : Content = links_to (update_where (link_with_domain id) due_then) xs in
      let own = filter (link_with_domain id) xs.links in
      let alone = registrant_alone l.registrant in
      record {
        here = record {
          all = ap (with_links ys alone) (updated-rows id xs.links) ∙ links-alike xs ys (λ i. refl) (λ i. refl) (map updated own) alone ∙ lead-alike xs own alone ∙ leads;
          dated = ap (are_dated due) (updated-rows id xs.links) ∙ all-dated xs.links;
        };
        others = record { domains = λ other apart. updated-rows other xs.links ∙ others-stay other apart xs.links; rest = refl };
      }
