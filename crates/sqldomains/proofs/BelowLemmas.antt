-- The hosts below a domain are found among those with its last two labels, if it has two.
use Rattle.std.proofs.Common.{◌≡◌, inl, inr, ℕ, ◌≤◌, Bool, true, false, cond, List, [], ◌∷◌, map, filter, Option, Some, None, option_map, count_by, is_some, ◌==◌, refl, ap, subst, ◌∙◌}
use Rattle.std.specs.Str as str
use Rattle.sqldomains.proofs.Words.{addresses_of, bytes_eq-Decides, bytes_is, bytes_same, Content, empty, filter-has, get, Has, has-filter, Host}
use Rattle.sqldomains.proofs.Words.{host_read, host_standing, HostRow, hosts_below, hosts_of, is_below, is_dotted, keys, ltb-true, Named}
use Rattle.sqldomains.proofs.{Words.{rows_around, statuses_in, with_read, ◌>>=◌}, LinkedLemmas.first-has}
use Rattle.sqldomains.proofs.NameOrderLemmas.{by-rows, gives, keys-where}
use Rattle.sqlcolumns.specs.{Above.above, Hosts.{columns_in, host_with}}
use Rattle.sqlcolumns.proofs.AboveLemmas.{same_above}
use Rattle.sqlcolumns.proofs.ReadLemmas as reading
use Rattle.sqltables.specs.Host as table
use Rattle.sqlobjects.proofs.NameLemmas.{host-named}

-- a host that reads lies below the last two labels of its name
above-read : (xs : Content) (row : HostRow) (h : Host) → host_read xs row ≡ Some h → row.above ≡ above row.name
above-read xs row h e =
    let texts = addresses_of xs row.id in
    let columns = reading.step (columns_in row) (λ c. statuses_in row.statuses >>= (λ s. cond (str.bytes_eq row.above (above row.name)) (Some (host_with row c s texts)) None)) h e in
    let statuses = reading.step (statuses_in row.statuses) (λ s. cond (str.bytes_eq row.above (above row.name)) (Some (host_with row columns.given s texts)) None) h columns.rest in
    (bytes_eq-Decides row.above (above row.name)).0 (reading.kept (host_with row columns.given statuses.given texts) h (str.bytes_eq row.above (above row.name)) statuses.rest).0

has-map : {A B : Type 0} (f : A → B) (xs : List A) (x : A) → Has xs x → Has (map f xs) (f x)
has-map f [] x there = absurd there
has-map f (y ∷ ys) x (inl same) = inl (ap f same)
has-map f (y ∷ ys) x (inr later) = inr (has-map f ys x later)

module _ (xs : Content) (domain : List ℕ) where
  abbrev name_of : HostRow → List ℕ
  name_of row = row.name

  abbrev found_below : List (List ℕ)
  found_below = filter (is_below domain) (map name_of (rows_around domain xs))

  -- the row of each host below it is among those that are looked at
  is-around : (row : HostRow) (h : Host) → host_read xs row ≡ Some h → Has xs.hosts row → is_below domain row.name ≡ true → Has (rows_around domain xs) row
  is-around row h reads there below = go (is_dotted domain) refl
    where
      go : (b : Bool) → is_dotted domain ≡ b → Has (cond b (filter (table.host_with_above (above domain)) xs.hosts) xs.hosts) row
      go true e =
          let dots : 1 ≤ count_by (λ b. b == 46) domain = ltb-true 0 (count_by (λ b. b == 46) domain) e in
          let above_it : row.above ≡ above domain = above-read xs row h reads ∙ same_above domain row.name dots below in
          filter-has (table.host_with_above (above domain)) xs.hosts row there (bytes_same row.above (above domain) above_it)
      go false e = there

  -- so each host below it is found
  is-found : (n : List ℕ) (h : Host) → get (hosts_of xs) n ≡ Some h → is_below domain n ≡ true → Has found_below n
  is-found n h e below =
      let it = first-has (host_read xs) (filter (table.host_with_name n) xs.hosts) h (host-named xs n ∙ e) in
      let there = has-filter (table.host_with_name n) xs.hosts it.0 it.1 in
      let name : it.0.name ≡ n = bytes_is it.0.name n there.1 in
      let row = is-around it.0 h it.2 there.0 (ap (is_below domain) name ∙ below) in
      filter-has (is_below domain) (map name_of (rows_around domain xs)) n
      (subst (Has (map name_of (rows_around domain xs))) name (has-map name_of (rows_around domain xs) it.0 row)) below

  abbrev marked : List ℕ → List ℕ × Unit {0}
  marked n = (n, tt)

  -- what a host's name stands for that is below it
  abbrev of : List ℕ → Option (Unit {0})
  of n = cond (is_below domain n) (option_map (λ (h : Host). tt) (get (hosts_of xs) n)) None

  sound : (n : List ℕ) → Has found_below n → (e : List ℕ × Unit {0}) → host_standing xs n ≡ Some e → of e.0 ≡ Some e.1
  sound n there e stands =
      let it = reading.kept (marked n) e (is_some (get (hosts_of xs) n)) stands in
      subst (λ (p : List ℕ × Unit {0}). of p.0 ≡ Some p.1) it.1
      (ap (λ b. cond b (option_map (λ (h : Host). tt) (get (hosts_of xs) n)) None) (has-filter (is_below domain) (map name_of (rows_around domain xs)) n there).1 ∙ stands-so (get (hosts_of xs) n) it.0)
    where
      stands-so : (o : Option Host) → is_some o ≡ true → ◌≡◌ {A = Option (Unit {0})} (option_map (λ (h : Host). tt) o) (Some tt)
      stands-so None f = cc
      stands-so (Some h) f = refl

  complete : (n : List ℕ) (v : Unit {0}) → of n ≡ Some v → (k : List ℕ) × Has found_below k × (gives n (host_standing xs k) ≡ true)
  complete n v e = go (is_below domain n) (get (hosts_of xs) n) refl refl e
    where
      go : (b : Bool) (o : Option Host) → is_below domain n ≡ b → get (hosts_of xs) n ≡ o → cond b (option_map (λ (h : Host). tt) o) None ≡ Some v → (k : List ℕ) × Has found_below k × (gives n (host_standing xs k) ≡ true)
      go false o below is f = cc
      go true None below is f = cc
      go true (Some h) below is f = (n, is-found n h is below, ap (λ (o : Option Host). gives n (cond (is_some o) (Some (marked n)) None)) is ∙ bytes_same n n refl)

  pub below-listed : (names : Named (Unit {0})) → with_read (host_standing xs) empty found_below ≡ Some names → keys names ≡ hosts_below domain xs
  below-listed names e = keys-where (hosts_of xs) (is_below domain) names (by-rows (host_standing xs) of found_below names sound complete e)
