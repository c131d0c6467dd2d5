-- To give a host its new name in the domains that name it, one after another, is to give it in all.
use Rattle.std.proofs.Common.{◌≡◌, ℕ, Bool, true, false, cond, not, T, map, filter, List, [], ◌∷◌, Option, Some, None, refl, sym, ap, ◌∙◌}
use Rattle.mapbook.proofs.Words.{add, amended_entry, at_begin, bytes_eq, content_of, Domain, domains_naming, edited, entries, entries_sorted}
use Rattle.mapbook.proofs.Words.{eq_by_cmp, eq_by_cmp_equiv, Equal-is, find, FinMap, get, get-entries, get-insert, get-map_values, host_moved}
use Rattle.mapbook.proofs.Words.{host_renamed_at, host_renamed_in, host_set, insert, is_sorted, names_apart, nat_cmp, nat_list_cmp_total}
use Rattle.mapbook.proofs.Words.{option_map, plain_records, precedes, same_map, slice_cmp, Stored, with_domains}
use Rattle.basis.specs.Maps.{map_values}
use Rattle.objects.specs.{Links.names_host, declared.host.Host.Host}
use Rattle.decisions.specs.Changes.{may_rename, with_host_renamed}
use Rattle.mapbook.specs.{declared.plain.Plain.Plain, Plain.registry_in}
use Rattle.mapbook.specs.declared.edit.Edit.TheVariants as edit
use Rattle.basis.proofs.{ApartLaws.missing, MapLemmas.{both-first, both-second}}

-- ---- maps of domains

-- the domains after them
domains_after : (Domain → Bool) → (Domain → Domain) → List (List ℕ × Domain) → FinMap (slice_cmp nat_cmp) Domain → FinMap (slice_cmp nat_cmp) Domain
domains_after test f [] m = m
domains_after test f (e ∷ es) m = domains_after test f es (cond (test e.1) (insert m e.0 (f e.1)) m)

-- what a name has after them
after : (Domain → Bool) → (Domain → Domain) → Option Domain → Option Domain → Option Domain
after test f (Some d) now = cond (test d) (Some (f d)) now
after test f None now = now

get-after : (test : Domain → Bool) (f : Domain → Domain) (es : List (List ℕ × Domain)) → T (is_sorted (slice_cmp nat_cmp) es) → (m : FinMap (slice_cmp nat_cmp) Domain) (q : List ℕ)
    → get (domains_after test f es m) q ≡ after test f (find (slice_cmp nat_cmp) q es) (get m q)
unfolding domains_after after
get-after test f [] h m q = refl
get-after test f (e ∷ es) h m q = by (test e.1) refl (eq_by_cmp (slice_cmp nat_cmp) q e.0) refl (λ n. get-after test f es (both-second _ _ h) n q)
  where
    gone : eq_by_cmp (slice_cmp nat_cmp) q e.0 ≡ true → find (slice_cmp nat_cmp) q es ≡ None
    gone t = ap (λ (k : List ℕ). find (slice_cmp nat_cmp) k es) (names_apart q e.0 ((Equal-is (slice_cmp nat_cmp q e.0)).0 t)) ∙ missing (slice_cmp nat_cmp) e.0 es (both-first _ _ h)

    by : (b : Bool) → test e.1 ≡ b → (c : Bool) → eq_by_cmp (slice_cmp nat_cmp) q e.0 ≡ c
        → ((n : FinMap (slice_cmp nat_cmp) Domain) → get (domains_after test f es n) q ≡ after test f (find (slice_cmp nat_cmp) q es) (get n q))
        → get (domains_after test f (e ∷ es) m) q ≡ after test f (find (slice_cmp nat_cmp) q (e ∷ es)) (get m q)
    by true u true t more = rw (u, t) (more _ ∙ ap (λ (o : Option Domain). after test f o (get (insert m e.0 (f e.1)) q)) (gone t) ∙ get-insert nat_list_cmp_total m e.0 (f e.1) q ∙ ap (λ (c : Bool). cond c (Some (f e.1)) (get m q)) t ∙ sym (ap (λ (b : Bool). cond b (Some (f e.1)) (get m q)) u))
    by true u false t more = rw (u, t) (more _ ∙ ap (after test f (find (slice_cmp nat_cmp) q es)) (get-insert nat_list_cmp_total m e.0 (f e.1) q ∙ ap (λ (c : Bool). cond c (Some (f e.1)) (get m q)) t))
    by false u true t more = rw (u, t) (more _ ∙ ap (λ (o : Option Domain). after test f o (get m q)) (gone t) ∙ sym (ap (λ (b : Bool). cond b (Some (f e.1)) (get m q)) u))
    by false u false t more = rw (u, t) (more _)

after-same : (test : Domain → Bool) (f : Domain → Domain) → ((d : Domain) → test d ≡ false → f d ≡ d) → (o : Option Domain) → after test f o o ≡ option_map f o
unfolding after
after-same test f still None = refl
after-same test f still (Some d) = by (test d) refl
  where
    by : (b : Bool) → test d ≡ b → cond b (Some (f d)) (Some d) ≡ Some (f d)
    by true t = refl
    by false t = ap (λ (d : Domain). Some d) (sym (still d t))

mapped : (test : Domain → Bool) (f : Domain → Domain) → ((d : Domain) → test d ≡ false → f d ≡ d) → (m : FinMap (slice_cmp nat_cmp) Domain) → domains_after test f (entries m) m ≡ map_values (λ name. f) m
mapped test f still m = same_map nat_list_cmp_total names_apart _ _ (λ q.
    get-after test f (entries m) (entries_sorted m) m q
    ∙ ap (λ (o : Option Domain). after test f o (get m q)) (sym (get-entries m q)) ∙ after-same test f still (get m q)
    ∙ sym (get-map_values (slice_cmp nat_cmp) nat_list_cmp_total names_apart (λ name. f) m q))

not-linked : (old new : List ℕ) (d : Domain) → names_host old d.links ≡ false → with_host_renamed old new d ≡ d
not-linked old new d e = ap (λ (b : Bool). record d { links = record d.links { hosts = cond b (add (precedes (slice_cmp nat_cmp)) new (filter (λ host. not (bytes_eq host old)) d.links.hosts)) d.links.hosts } }) e

-- domains amended by name, one after another
amended_all : (Domain → Domain) → FinMap (slice_cmp nat_cmp) Domain → List (List ℕ) → FinMap (slice_cmp nat_cmp) Domain
amended_all f m [] = m
amended_all f m (name ∷ names) = amended_all f (amended_entry f m name (get m name)) names

-- where each stands as it is listed
named-after : (test : Domain → Bool) (f : Domain → Domain) (es : List (List ℕ × Domain)) → T (is_sorted (slice_cmp nat_cmp) es) → (n : FinMap (slice_cmp nat_cmp) Domain)
    → ((q : List ℕ) (d : Domain) → find (slice_cmp nat_cmp) q es ≡ Some d → get n q ≡ Some d)
    → amended_all f n (map (λ (e : List ℕ × Domain). e.0) (filter (λ (e : List ℕ × Domain). test e.1) es)) ≡ domains_after test f es n
unfolding amended_all domains_after
named-after test f [] h n at = refl
named-after test f (e ∷ es) h n at = by (test e.1) refl (named-after test f es (both-second _ _ h))
  where
    here : get n e.0 ≡ Some e.1
    here = at e.0 e.1 (ap (λ (b : Bool). cond b (Some e.1) (find (slice_cmp nat_cmp) e.0 es)) ((eq_by_cmp_equiv nat_list_cmp_total).refl e.0))

    gone : (q : List ℕ) → eq_by_cmp (slice_cmp nat_cmp) q e.0 ≡ true → find (slice_cmp nat_cmp) q es ≡ None
    gone q t = ap (λ (k : List ℕ). find (slice_cmp nat_cmp) k es) (names_apart q e.0 ((Equal-is (slice_cmp nat_cmp q e.0)).0 t)) ∙ missing (slice_cmp nat_cmp) e.0 es (both-first _ _ h)

    kept : (q : List ℕ) (d : Domain) → find (slice_cmp nat_cmp) q es ≡ Some d → (b : Bool) → eq_by_cmp (slice_cmp nat_cmp) q e.0 ≡ b → get n q ≡ Some d
    kept q d found true t = let none : find (slice_cmp nat_cmp) q es ≡ None = gone q t in cc
    kept q d found false t = at q d (ap (λ (b : Bool). cond b (Some e.1) (find (slice_cmp nat_cmp) q es)) t ∙ found)

    put : (q : List ℕ) (d : Domain) → find (slice_cmp nat_cmp) q es ≡ Some d → (b : Bool) → eq_by_cmp (slice_cmp nat_cmp) q e.0 ≡ b → get (insert n e.0 (f e.1)) q ≡ Some d
    put q d found true t = let none : find (slice_cmp nat_cmp) q es ≡ None = gone q t in cc
    put q d found false t = get-insert nat_list_cmp_total n e.0 (f e.1) q ∙ ap (λ (b : Bool). cond b (Some (f e.1)) (get n q)) t ∙ kept q d found false t

    by : (b : Bool) → test e.1 ≡ b
        → ((n : FinMap (slice_cmp nat_cmp) Domain) → ((q : List ℕ) (d : Domain) → find (slice_cmp nat_cmp) q es ≡ Some d → get n q ≡ Some d) → amended_all f n (map (λ (e : List ℕ × Domain). e.0) (filter (λ (e : List ℕ × Domain). test e.1) es)) ≡ domains_after test f es n)
        → amended_all f n (map (λ (e : List ℕ × Domain). e.0) (filter (λ (e : List ℕ × Domain). test e.1) (e ∷ es))) ≡ domains_after test f (e ∷ es) n
    by true t more = rw t (ap (λ (o : Option Domain). amended_all f (amended_entry f n e.0 o) (map (λ (e : List ℕ × Domain). e.0) (filter (λ (e : List ℕ × Domain). test e.1) es))) here
        ∙ more (insert n e.0 (f e.1)) (λ q d found. put q d found (eq_by_cmp (slice_cmp nat_cmp) q e.0) refl))
    by false t more = rw t (more n (λ q d found. kept q d found (eq_by_cmp (slice_cmp nat_cmp) q e.0) refl))

in-domains : (old new : List ℕ) (names : List (List ℕ)) (s : Stored) → host_renamed_in old new names s ≡ with_domains (amended_all (with_host_renamed old new) s.registry.domains names) s
unfolding amended_all
in-domains old new [] s = refl
in-domains old new (name ∷ names) s = in-domains old new names (host_renamed_at old new name s)

-- in those that name it, one after another, is in all
pub all-renamed : (old new : List ℕ) (s : Stored) → host_renamed_in old new (domains_naming old s.registry) s ≡ with_domains (map_values (λ name. with_host_renamed old new) s.registry.domains) s
all-renamed old new s =
    in-domains old new (domains_naming old s.registry) s
    ∙ ap (λ (m : FinMap (slice_cmp nat_cmp) Domain). with_domains m s)
    (named-after (λ (d : Domain). names_host old d.links) (with_host_renamed old new) (entries s.registry.domains) (entries_sorted s.registry.domains) s.registry.domains (λ q d found. get-entries s.registry.domains q ∙ found)
    ∙ mapped (λ (d : Domain). names_host old d.links) (with_host_renamed old new) (not-linked old new) s.registry.domains)

-- then it is taken from under the one name and put under the other
pub moved : (from : List ℕ) (names : List (List ℕ)) (h : Host) (s : Stored) → names ≡ domains_naming from s.registry
    → host_set h.name (Some h) (edited (edit.Host from None) (host_renamed_in from h.name names s)) ≡ host_moved from h s
moved from names h s named =
    (λ i. host_set h.name (Some h) (edited (edit.Host from None) (host_renamed_in from h.name (named i) s)))
    ∙ ap (λ (x : Stored). host_set h.name (Some h) (edited (edit.Host from None) x)) (all-renamed from h.name s)

-- ---- while a transaction is open

pub held-open : (b : Plain) (from to : List ℕ) → b.is_open ≡ true → may_rename (plain_records b).content.registry.hosts from to ≡ may_rename (registry_in b.content).hosts from to
held-open b from to opened = ap (λ (o : Bool). let s : Stored = cond o (content_of b.content) (at_begin b) in may_rename s.registry.hosts from to) opened

pub naming-open : (b : Plain) (from : List ℕ) → b.is_open ≡ true → domains_naming from (registry_in b.content) ≡ domains_naming from (plain_records b).content.registry
naming-open b from opened = ap (λ (o : Bool). let s : Stored = cond o (content_of b.content) (at_begin b) in domains_naming from s.registry) (sym opened)
