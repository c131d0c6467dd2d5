-- Rows of a table, by number and by name, after a write that leaves all other names alone.
use Rattle.std.proofs.Common.{◌≡◌, inl, inr, ℕ, ℤ, Bool, true, false, not, cond, List, [], ◌∷◌, ◌++◌, filter, map, Option, Some, None, option_map, refl, sym, ap, subst, ◌∙◌, arith, Ordering, Less, Equal, Greater, int_cmp, int_eq, true≢false}
use Rattle.std.proofs.lemmas.List.Elements as elements
use Rattle.std.specs.Cmp.{Equal-is, Lexicographic.{nat_list_cmp_total, slice_cmp}}
use Rattle.std.specs.FinMap.{FinMap, get-insert, get-remove, nat_cmp-IsAntisymmetric, same_map, slice_cmp-IsAntisymmetric}
use Rattle.std.specs.Ordering.{match_ordering, nat_cmp}
use Rattle.sqlobjects.proofs.Words.{append-nil, AreOtherNamesKept, bytes_eq, bytes_same, Decides-int_eq, delete_where, false_from_ne_true}
use Rattle.sqlobjects.proofs.Words.{first_read, from_entries, get, get_by, Has, insert_by, int_eq_apart, IsKeyedBy, IsNamedBy, IsPlaced}
use Rattle.sqlobjects.proofs.Words.{key-get_by, or_else, same_by_key, same_int, with_named}
use Rattle.sqlite_keyed.proofs.{KeyedLemmas.IsKeyedBy-insert_by, ListLemmas.filter_none}
use Rattle.sqlite_rules.proofs.ListLemmas.{all_from, has_filtered, has_found, has_kept, has_right}
use Rattle.sqlrows.proofs.{ListLemmas.{only_one, removed_put}, NameLemmas.{entries_of, stands}, RowLemmas.{find_one, has-insert_by, put-or-there}}

-- ---- names

pub bytes_is : (a b : List ℕ) → bytes_eq a b ≡ true → a ≡ b
bytes_is a b e = slice_cmp-IsAntisymmetric nat_cmp-IsAntisymmetric a b ((Equal-is (slice_cmp nat_cmp a b)).0 e)

pub bytes_apart : (m n q : List ℕ) → m ≡ n → bytes_eq q n ≡ false → bytes_eq m q ≡ false
bytes_apart m n q same other = false_from_ne_true (bytes_eq m q) (λ e. true≢false (sym (bytes_same q n (sym (bytes_is m q e) ∙ same)) ∙ other))

-- tests that say the same
pub both-or-none : (a b : Bool) → (a ≡ true → b ≡ true) → (b ≡ true → a ≡ true) → a ≡ b
both-or-none true b f g = sym (f refl)
both-or-none false true f g = g refl
both-or-none false false f g = refl

-- ---- lists

module _ {P : Type 0} where
  pub has-filter : (t : P → Bool) (xs : List P) (x : P) → Has (filter t xs) x → Has xs x × (t x ≡ true)
  has-filter = has_filtered

  pub filter-has : (t : P → Bool) (xs : List P) (x : P) → Has xs x → t x ≡ true → Has (filter t xs) x
  filter-has = has_kept

  filter-alike : (t u : P → Bool) (xs : List P) → ((x : P) → Has xs x → t x ≡ u x) → filter t xs ≡ filter u xs
  filter-alike t u [] same = refl
  filter-alike t u (x ∷ xs) same = rw (same x (inl refl), filter-alike t u xs (λ y h. same y (inr h))) refl

  pub map-stays : (f : P → P) (xs : List P) → ((x : P) → Has xs x → f x ≡ x) → map f xs ≡ xs
  map-stays f [] same = refl
  map-stays f (x ∷ xs) same = λ i. same x (inl refl) i ∷ map-stays f xs (λ y h. same y (inr h)) i

  -- where none passes, none is left
  pub none-pass : (p : P → Bool) (xs : List P) → ((x : P) → Has xs x → p x ≡ true → ⊥) → filter p xs ≡ []
  none-pass p xs never = filter_none p xs (all_from (λ x. p x ≡ false) xs (λ x h. false_from_ne_true (p x) (never x h)))

  -- where one is left, what passes is that
  pub the-one : (t : P → Bool) (xs : List P) (one x : P) → filter t xs ≡ one ∷ [] → Has xs x → t x ≡ true → x ≡ one
  the-one t xs one x found there passes = elim (subst (λ l. Has l x) found (has_kept t xs x there passes)) [ inl same ↦ same | inr none ↦ absurd none ]

  -- what fails a test isn't seen through it
  pub filter-append : (t : P → Bool) (xs : List P) (p : P) → t p ≡ false → filter t (xs ++ p ∷ []) ≡ filter t xs
  filter-append t xs p e = elements.filter-append t xs (p ∷ []) ∙ rw e (append-nil (filter t xs))

  -- what passes it comes after the others
  pub filter-append_pass : (t : P → Bool) (xs : List P) (p : P) → t p ≡ true → filter t (xs ++ p ∷ []) ≡ filter t xs ++ p ∷ []
  filter-append_pass t xs p e = elements.filter-append t xs (p ∷ []) ∙ rw e refl

  -- nor is what is removed, if it fails
  pub filter-delete : (t d : P → Bool) (xs : List P) → ((x : P) → Has xs x → d x ≡ true → t x ≡ false) → filter t (delete_where d xs) ≡ filter t xs
  filter-delete t d [] fails = refl
  filter-delete t d (x ∷ xs) fails = grind (arith, filter-delete t d xs (λ y h. fails y (inr h)), fails x (inl refl))

  -- where all that pass are removed, none passes
  pub filter-deleted : (t d : P → Bool) (xs : List P) → ((x : P) → Has xs x → t x ≡ true → d x ≡ true) → filter t (delete_where d xs) ≡ []
  filter-deleted t d xs passes = none-pass t (delete_where d xs) (λ x h is. let it = has_filtered (λ y. not (d y)) xs x h in let so = passes x it.0 is in cc)

-- ---- numbers

module _ {P : Type 0} (key : P → ℤ) where
  -- a row that fails a test, in the place of one that failed, if there was one
  pub filter-insert_by : (t : P → Bool) (xs : List P) (p : P) → t p ≡ false → ((x : P) → Has xs x → key x ≡ key p → t x ≡ false) → filter t (insert_by key xs p) ≡ filter t xs
  filter-insert_by t [] p e fails = rw e refl
  filter-insert_by t (x ∷ xs) p e fails = go (int_cmp (key x) (key p)) refl (filter-insert_by t xs p e (λ y h. fails y (inr h)))
    where
      go : (o : Ordering) → int_cmp (key x) (key p) ≡ o → filter t (insert_by key xs p) ≡ filter t xs
          → filter t (match_ordering o (x ∷ insert_by key xs p) (p ∷ xs) (p ∷ x ∷ xs)) ≡ cond (t x) (x ∷ filter t xs) (filter t xs)
      go Less is more = rw more refl
      go Equal is more = rw (e, fails x (inl refl) (same_int (key x) (key p) ((Equal-is (int_cmp (key x) (key p))).1 is))) refl
      go Greater is more = rw e refl

  -- what fails a test isn't seen in the place that it took
  pub filter-put : (t : P → Bool) (xs : List P) (p : P) → IsKeyedBy key xs → t p ≡ false → filter t (insert_by key xs p) ≡ filter t (delete_where (λ x. int_eq (key x) (key p)) xs)
  filter-put t xs p up fails = ap (filter t) (sym (removed_put key xs p up)) ∙ filter-insert_by t (delete_where (λ x. int_eq (key x) (key p)) xs) p fails (λ x h same.
      absurd (true≢false (sym (has_filtered (λ y. not (int_eq (key y) (key p))) xs x h).1 ∙ ap not ((Decides-int_eq (key x) (key p)).1 same))))

  -- where a row passes, and none with another number, it is the only one
  only-passing : (t : P → Bool) (xs : List P) (p : P) → IsKeyedBy key xs → Has xs p → t p ≡ true → ((y : P) → Has xs y → t y ≡ true → key y ≡ key p) → filter t xs ≡ p ∷ []
  only-passing t xs p up there passes each =
      filter-alike t (λ y. int_eq (key y) (key p)) xs (λ y h. both-or-none (t y) (int_eq (key y) (key p)) (λ is. (Decides-int_eq (key y) (key p)).1 (each y h is)) (λ same. ap t (same_by_key key xs y p up h there (same_int (key y) (key p) same)) ∙ passes))
      ∙ only_one key xs p (key p) up there refl

  -- a row that passes a test, in the place of the one that passed
  pub filter-in-place : (t : P → Bool) (xs : List P) (one p : P) → IsKeyedBy key xs → key p ≡ key one → t p ≡ true → filter t xs ≡ one ∷ [] → filter t (insert_by key xs p) ≡ p ∷ []
  filter-in-place t xs one p up same e found = only-passing t (insert_by key xs p) p (IsKeyedBy-insert_by key xs p up) (has-insert_by key xs p) e (λ y h is.
      elim (put-or-there key xs p y h) [ inl new ↦ ap key new | inr there ↦ ap key (the-one t xs one y found there is) ∙ sym same ])

  pub has-get_by : (xs : List P) (id : ℤ) (x : P) → get_by key xs id ≡ Some x → Has xs x
  has-get_by xs id x e = (has_found (λ y. int_eq (key y) id) xs x e).0

  -- a row is found by its number
  pub get_by-has : (xs : List P) (row : P) → IsKeyedBy key xs → Has xs row → get_by key xs (key row) ≡ Some row
  get_by-has xs row up there = sym (find_one (λ y. int_eq (key y) (key row)) xs (row ∷ []) (Some row) (sym (only_one key xs row (key row) up there refl)) refl)

  module _ (name : P → List ℕ) where
    abbrev of_name : List ℕ → P → Bool
    of_name n r = bytes_eq (name r) n

    -- a row is the only one of its name
    pub only_named : (xs : List P) (p : P) → IsKeyedBy key xs → IsNamedBy name xs → Has xs p → filter (λ r. bytes_eq (name r) (name p)) xs ≡ p ∷ []
    only_named xs p up named there = only-passing (of_name (name p)) xs p up there (bytes_same (name p) (name p) refl) (λ y h is. ap key (named y p h there (bytes_is (name y) (name p) is)))

    -- rows of two names have two numbers
    pub apart : (xs : List P) (row r : P) (n : List ℕ) → IsKeyedBy key xs → Has xs row → Has xs r → name row ≡ n → bytes_eq (name r) n ≡ false → int_eq (key row) (key r) ≡ false
    apart xs row r n up there here is other = int_eq_apart (key row) (key r) (λ e. true≢false (sym (bytes_same (name r) n (ap name (sym (same_by_key key xs row r up there here e)) ∙ is)) ∙ other))

    -- the row under a number that leads to a name
    pub row-named : (xs : List P) (id : ℤ) (a : List ℕ) → option_map name (get_by key xs id) ≡ Some a → (r : P) × Has xs r × (name r ≡ a) × (key r ≡ id)
    row-named xs id a e = go (get_by key xs id) refl e
      where
        go : (o : Option P) → get_by key xs id ≡ o → option_map name o ≡ Some a → (r : P) × Has xs r × (name r ≡ a) × (key r ≡ id)
        go None is f = cc
        go (Some r) is f = (r, has-get_by xs id r is, cc, key-get_by key xs id r is)

-- a row of another name that is in one of two such lists is in the other
module _ {P : Type 0} (name : P → List ℕ) where
  moved : (xs ys : List P) (r : P) → filter (λ x. bytes_eq (name x) (name r)) xs ≡ filter (λ x. bytes_eq (name x) (name r)) ys → Has xs r → Has ys r
  moved xs ys r same there = (has_filtered (λ x. bytes_eq (name x) (name r)) ys r (subst (λ l. Has l r) same (has_kept (λ x. bytes_eq (name x) (name r)) xs r there (bytes_same (name r) (name r) refl)))).0

  module _ (n : List ℕ) (old new : List P) (others : AreOtherNamesKept name n old new) (r : P) (other : bytes_eq (name r) n ≡ false) where
    pub in-new : Has old r → Has new r
    in-new = moved old new r (sym (others (name r) other))

    pub in-old : Has new r → Has old r
    in-old = moved new old r (others (name r) other)

-- a number leads to no other name than before
pub names_kept : {P : Type 0} (key : P → ℤ) (name : P → List ℕ) (n : List ℕ) (old new : List P) → IsKeyedBy key old → IsKeyedBy key new → AreOtherNamesKept name n old new
    → (id : ℤ) (a b : List ℕ) → option_map name (get_by key old id) ≡ Some a → option_map name (get_by key new id) ≡ Some b → a ≡ b
names_kept {P} key name n old new up_old up_new others id a b was is =
    let x = row-named key name old id a was in
    let y = row-named key name new id b is in
    sym x.2 ∙ go (bytes_eq (name x.0) n) (bytes_eq (name y.0) n) x.0 y.0 refl refl x.1 y.1 (x.3 ∙ sym y.3) ∙ y.2
  where
    go : (c d : Bool) (x y : P) → bytes_eq (name x) n ≡ c → bytes_eq (name y) n ≡ d → Has old x → Has new y → key x ≡ key y → name x ≡ name y
    go true true x y e f there here tied = bytes_is (name x) n e ∙ sym (bytes_is (name y) n f)
    go true false x y e f there here tied = ap name (same_by_key key old x y up_old there (in-old name n old new others y f here) tied)
    go false d x y e f there here tied = ap name (same_by_key key new x y up_new (in-new name n old new others x e there) here tied)

-- no row has a name that none is found under
pub nobody : {P : Type 0} (name : P → List ℕ) (n : List ℕ) (rows : List P) → filter (λ r. bytes_eq (name r) n) rows ≡ [] → (r : P) → Has rows r → name r ≡ n → ⊥
nobody name n rows none r there is = subst (λ l. Has l r) none (has_kept (λ x. bytes_eq (name x) n) rows r there (bytes_same (name r) n is))

-- ---- the row of a name, put, added and removed

module _ {P : Type 0} (key : P → ℤ) (name : P → List ℕ) (n : List ℕ) (xs : List P) where
  abbrev named_so : P → Bool
  named_so r = bytes_eq (name r) n

  abbrev numbered_so : ℤ → P → Bool
  numbered_so id r = int_eq (key r) id

  pub row_there : (row : P) → filter named_so xs ≡ row ∷ [] → Has xs row × (name row ≡ n)
  row_there row found =
      let it = has_filtered named_so xs row (subst (λ l. Has l row) (sym found) (inl refl)) in
      (it.0, bytes_is (name row) n it.1)

  module _ (row : P) (found : filter named_so xs ≡ row ∷ []) (up : IsKeyedBy key xs) where
    -- each row with its number has its name
    tied : (q : List ℕ) → bytes_eq q n ≡ false → (x : P) → Has xs x → key x ≡ key row → bytes_eq (name x) q ≡ false
    tied q other x there e =
        let at = row_there row found in
        bytes_apart (name x) n q (ap name (same_by_key key xs x row up there at.0 e) ∙ at.1) other

    pub placed-put : (new : P) → key new ≡ key row → name new ≡ n → IsPlaced name n new xs (insert_by key xs new)
    placed-put new id is = record {
      named = is;
      there = has-insert_by key xs new;
      others = λ q other. filter-insert_by key (λ r. bytes_eq (name r) q) xs new (bytes_apart (name new) n q is other) (λ x there e. tied q other x there (e ∙ id));
    }

    others-removed : AreOtherNamesKept name n xs (delete_where (numbered_so (key row)) xs)
    others-removed q other =
        filter-delete (λ r. bytes_eq (name r) q) (numbered_so (key row)) xs (λ x there e. tied q other x there (same_int (key x) (key row) e))

    pub none-removed : IsNamedBy name xs → filter named_so (delete_where (numbered_so (key row)) xs) ≡ []
    none-removed named = filter-deleted named_so (numbered_so (key row)) xs (λ x there e.
        let at = row_there row found in
        (Decides-int_eq (key x) (key row)).1 (ap key (named x row there at.0 (bytes_is (name x) n e ∙ sym at.1))))

  pub placed-added : (new : P) → name new ≡ n → IsPlaced name n new xs (xs ++ new ∷ [])
  placed-added new is = record {
    named = is;
    there = has_right xs (new ∷ []) new (inl refl);
    others = λ q other. filter-append (λ r. bytes_eq (name r) q) xs new (bytes_apart (name new) n q is other);
  }

-- ---- what stands under names

get-put : {X : Type 0} (m : FinMap (slice_cmp nat_cmp) X) (n : List ℕ) (value : Option X) (q : List ℕ) → get (with_named m n value) q ≡ cond (bytes_eq q n) value (get m q)
get-put m n None q = get-remove nat_list_cmp_total m n q
get-put m n (Some x) q = get-insert nat_list_cmp_total m n x q

abbrev pub map_of : {P X : Type 0} → (P → List ℕ) → (P → Option X) → List P → FinMap (slice_cmp nat_cmp) X
map_of name read rows = from_entries (entries_of name read rows)

-- Under a name stands this, or nothing, and rows of other names are as they were and read as before.
pub record IsChanged {P X : Type 0} (name : P → List ℕ) (f g : P → Option X) (n : List ℕ) (value : Option X) (old new : List P) : Type 0 where
  pub stands : map_of name g new ≡ with_named (map_of name f old) n value
  pub others : AreOtherNamesKept name n old new
  pub readings : (r : P) → Has old r → Has new r → bytes_eq (name r) n ≡ false → g r ≡ f r

module _ {P X : Type 0} (name : P → List ℕ) where
  reads_alike : (f g : P → Option X) (rows : List P) → ((r : P) → Has rows r → g r ≡ f r) → first_read g rows ≡ first_read f rows
  reads_alike f g [] same = refl
  reads_alike f g (r ∷ rows) same = λ i. or_else (same r (inl refl) i) (reads_alike f g rows (λ x h. same x (inr h)) i)

  -- Under a name stands what its rows read as, and under each other what stood there, if its rows are
  -- as they were and read as before.
  pub changed : (n : List ℕ) (value : Option X) (f g : P → Option X) (old new : List P)
      → first_read g (filter (λ r. bytes_eq (name r) n) new) ≡ value
      → AreOtherNamesKept name n old new
      → ((r : P) → Has old r → Has new r → bytes_eq (name r) n ≡ false → g r ≡ f r)
      → IsChanged name f g n value old new
  changed n value f g old new here others same = record {
    stands = same_map nat_list_cmp_total (slice_cmp-IsAntisymmetric nat_cmp-IsAntisymmetric) _ _ (λ q.
        sym (stands name g q new) ∙ at q (bytes_eq q n) refl ∙ sym (get-put (map_of name f old) n value q));
    others = others;
    readings = same;
  }
    where
      each : (q : List ℕ) → bytes_eq q n ≡ false → (r : P) → Has (filter (λ x. bytes_eq (name x) q) new) r → g r ≡ f r
      each q e r h =
          let now = has_filtered (λ x. bytes_eq (name x) q) new r h in
          let other : bytes_eq (name r) n ≡ false = ap (λ m. bytes_eq m n) (bytes_is (name r) q now.1) ∙ e in
          same r (in-old name n old new others r other now.0) now.0 other

      at : (q : List ℕ) (b : Bool) → bytes_eq q n ≡ b → first_read g (filter (λ r. bytes_eq (name r) q) new) ≡ cond (bytes_eq q n) value (get (map_of name f old) q)
      at q true e = ap (λ m. first_read g (filter (λ r. bytes_eq (name r) m) new)) (bytes_is q n e) ∙ here ∙ rw e refl
      at q false e =
          reads_alike f g (filter (λ r. bytes_eq (name r) q) new) (each q e)
          ∙ ap (first_read f) (others q e)
          ∙ stands name f q old
          ∙ rw e refl

  -- no row has the name
  pub not-changed : (f : P → Option X) (n : List ℕ) (rows : List P) → filter (λ r. bytes_eq (name r) n) rows ≡ [] → IsChanged name f f n None rows rows
  not-changed f n rows none = changed n None f f rows rows (ap (first_read f) none) (λ q e. refl) (λ r was now e. refl)

module _ {P X : Type 0} (key : P → ℤ) (name : P → List ℕ) (f g : P → Option X) (n : List ℕ) (row : P) (old new : List P) (same : (r : P) → int_eq (key row) (key r) ≡ false → g r ≡ f r) where
  -- a row was put or added that reads as this, and each with another number reads as before
  pub changed-put : (x : X) → IsPlaced name n row old new → IsKeyedBy key new → IsNamedBy name new → g row ≡ Some x → IsChanged name f g n (Some x) old new
  changed-put x placed up names reads =
      let alone = ap (λ m. filter (λ r. bytes_eq (name r) m) new) (sym placed.named) ∙ only_named key name new row up names placed.there in
      changed name n (Some x) f g old new (ap (first_read g) alone ∙ ap (λ o. or_else o None) reads) placed.others
      (λ r was now e. same r (apart key name new row r n up placed.there now placed.named e))

  -- the row of a name was removed, and each with another number reads as before
  pub changed-drop : filter (λ r. bytes_eq (name r) n) old ≡ row ∷ [] → IsKeyedBy key old → IsNamedBy name old → new ≡ delete_where (λ x. int_eq (key x) (key row)) old → IsChanged name f g n None old new
  changed-drop found up names gone =
      let at = row_there key name n old row found in
      subst (IsChanged name f g n None old) (sym gone) (changed name n None f g old _ (ap (first_read g) (none-removed key name n old row found up names)) (others-removed key name n old row found up)
      (λ r was now e. same r (apart key name old row r n up at.0 was at.1 e)))
