-- What rows give under names, gathered one by one, is what the names stand for.
use Rattle.std.proofs.Common.{◌≡◌, inl, inr, ℕ, Bool, true, false, ◌||◌, cond, List, [], ◌∷◌, filter, Option, Some, None, option_map, refl, sym, ap, ◌∙◌, true≢false}
use Rattle.std.proofs.lemmas.Map.Made.{keys_of-map_values}
use Rattle.std.specs.{Map.keys_of, Option.option_map_or}
use Rattle.sqldomains.proofs.Words.{at-all, bytes_is, Content, Domain, domain_read, DomainRow, domains_of, empty, entries, entries-map_values}
use Rattle.sqldomains.proofs.Words.{eq_by_cmp, get, get-empty, get-insert, get-map_values, Has, has-filter, insert, keys, list_any, Named}
use Rattle.sqldomains.proofs.Words.{names_apart, nat_cmp, nat_list_cmp_total, none_from_any, same_map, same_some, slice_cmp, with_one, with_read}
use Rattle.sqldomains.proofs.{Words.◌>>=◌, FoundLemmas.{domain-named, parts}, LinkedLemmas.first-has}
use Rattle.basis.specs.{Maps.map_values, Sweeps.{kept, kept_list}}
use Rattle.basis.proofs.{ApartLaws.get-kept, SweepLaws.entries-kept}
use Rattle.sqltables.specs.Domain as table
pub use Rattle.sqldomains.proofs.LinkedLemmas.{stands-there}

-- ---- what rows give

abbrev pub gives : {V : Type 0} → List ℕ → Option (List ℕ × V) → Bool
gives n None = false
gives n (Some e) = eq_by_cmp (slice_cmp nat_cmp) n e.0

-- where each row gives a name with what it stands for
module _ {R V : Type 0} (read : R → Option (List ℕ × V)) (of : List ℕ → Option V) where
  abbrev AreSound : List R → Type 0
  AreSound rows = (row : R) → Has rows row → (e : List ℕ × V) → read row ≡ Some e → of e.0 ≡ Some e.1

  abbrev given : List ℕ → List R → Bool
  given n rows = list_any (λ row. gives n (read row)) rows

  -- under a name that one gives is that, and under each other what was there
  gathered : (n : List ℕ) (rows : List R) (a b : Named V) → AreSound rows → with_read read a rows ≡ Some b → get b n ≡ cond (given n rows) (of n) (get a n)
  gathered n [] a b sound e = ap (λ m. get m n) (sym (same_some a b e))
  gathered n (row ∷ rows) a b sound e = go (read row) refl e (λ m. gathered n rows m b (λ r there. sound r (inr there)))
    where
      put : (x : List ℕ × V) → read row ≡ Some x → (t u : Bool) → eq_by_cmp (slice_cmp nat_cmp) n x.0 ≡ t → cond u (of n) (cond t (Some x.1) (get a n)) ≡ cond (t || u) (of n) (get a n)
      put x is true true same = refl
      put x is true false same = sym (ap of (bytes_is n x.0 same) ∙ sound row (inl refl) x is)
      put x is false u same = refl

      go : (o : Option (List ℕ × V)) → read row ≡ o → (with_one a o >>= (λ m. with_read read m rows)) ≡ Some b → ((m : Named V) → with_read read m rows ≡ Some b → get b n ≡ cond (given n rows) (of n) (get m n))
          → get b n ≡ cond (gives n o || given n rows) (of n) (get a n)
      go None is f later = cc
      go (Some x) is f later =
          later (insert a x.0 x.1) f ∙ ap (cond (given n rows) (of n)) (get-insert nat_list_cmp_total a x.0 x.1 n)
          ∙ put x is (eq_by_cmp (slice_cmp nat_cmp) n x.0) (given n rows) refl

  -- so where a row gives each name that stands for something, all is gathered
  pub by-rows : (rows : List R) (all : Named V) → AreSound rows → ((n : List ℕ) (v : V) → of n ≡ Some v → (row : R) × Has rows row × (gives n (read row) ≡ true))
      → with_read read empty rows ≡ Some all → (n : List ℕ) → get all n ≡ of n
  by-rows rows all sound complete e n = gathered n rows empty all sound e ∙ go (given n rows) (of n) refl refl
    where
      go : (t : Bool) (o : Option V) → given n rows ≡ t → of n ≡ o → cond t (of n) (get (empty {X = V} {R = slice_cmp nat_cmp}) n) ≡ of n
      go true o is f = refl
      go false None is f = get-empty (slice_cmp nat_cmp) n ∙ sym f
      go false (Some v) is f =
          let it = complete n v f in
          absurd (true≢false (sym it.2 ∙ at-all (λ row. gives n (read row) ≡ false) rows it.0 (none_from_any (λ row. gives n (read row)) rows is) it.1))

-- ---- the names of the values that pass

module _ {X : Type 0} (m : Named X) (p : List ℕ → Bool) where
  abbrev pick : List ℕ → X → Option X
  pick k x = cond (p k) (Some x) None

  abbrev mark : X → Unit {0}
  mark x = tt

  kept-names : (es : List (List ℕ × X)) → keys_of (kept_list pick es) ≡ filter p (keys_of es)
  kept-names [] = refl
  kept-names (e ∷ es) = go (p e.0) (kept-names es)
    where
      go : (b : Bool) → keys_of (kept_list pick es) ≡ filter p (keys_of es)
          → keys_of (option_map_or (λ y. (e.0, y) ∷ kept_list pick es) (cond b (Some e.1) None) (kept_list pick es)) ≡ cond b (e.0 ∷ filter p (keys_of es)) (filter p (keys_of es))
      go true more = ap (λ l. e.0 ∷ l) more
      go false more = more

  pub keys-where : (names : Named (Unit {0})) → ((n : List ℕ) → get names n ≡ cond (p n) (option_map mark (get m n)) None) → keys names ≡ filter p (keys m)
  keys-where names is =
      ap keys (same_map nat_list_cmp_total names_apart names (map_values (λ k. mark) (kept pick m)) (λ n.
      is n
      ∙ sym (get-map_values (slice_cmp nat_cmp) nat_list_cmp_total names_apart (λ k. mark) (kept pick m) n
      ∙ ap (option_map mark) (get-kept (slice_cmp nat_cmp) nat_list_cmp_total names_apart pick m n) ∙ marked (p n) (get m n))))
      ∙ ap keys_of (entries-map_values (slice_cmp nat_cmp) (λ k. mark) nat_list_cmp_total names_apart (kept pick m))
      ∙ keys_of-map_values mark (entries (kept pick m))
      ∙ ap keys_of (entries-kept (slice_cmp nat_cmp) pick nat_list_cmp_total names_apart m)
      ∙ kept-names (entries m)
    where
      marked : (b : Bool) (o : Option X) → option_map mark (option_map_or (λ x. cond b (Some x) None) o None) ≡ cond b (option_map mark o) None
      marked true None = refl
      marked true (Some x) = refl
      marked false None = refl
      marked false (Some x) = refl

-- ---- domains

pub name-read : (xs : Content) (row : DomainRow) (d : Domain) → domain_read xs row ≡ Some d → d.name ≡ row.name
name-read xs row d e = (parts xs row d e).name

-- the row under a name
pub row-under : (xs : Content) (n : List ℕ) (d : Domain) → get (domains_of xs) n ≡ Some d → (row : DomainRow) × Has xs.domains row × (domain_read xs row ≡ Some d) × (row.name ≡ n)
row-under xs n d e =
    let it = first-has (domain_read xs) (filter (table.domain_with_name n) xs.domains) d (domain-named xs n ∙ e) in
    let there = has-filter (table.domain_with_name n) xs.domains it.0 it.1 in
    (it.0, there.0, it.2, bytes_is it.0.name n there.1)
