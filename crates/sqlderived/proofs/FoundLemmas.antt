-- What is found due of rows is what is due of the objects that stand.
use Rattle.std.proofs.Common.{◌≡◌, ◌⊎◌, ⊎_elim, inl, inr, ℕ, Bool, true, false, cond, List, [], ◌∷◌, filter, Option, Some, None, option_map, refl, sym, ap, subst, ◌∙◌}
use Rattle.sqlderived.proofs.Words.{bytes_is, Due, due_cmp, entries, eq_by_cmp, filter-has, find, FinMap, found_due, get, get-entries, Has}
use Rattle.sqlderived.proofs.Words.{has-filter, nat_cmp, nat_cmp-IsAntisymmetric, nat_list_cmp_total}
use Rattle.sqlderived.proofs.Words.{same_some, slice_cmp, slice_cmp-IsAntisymmetric, step, with_due, with_rows}
use Rattle.sqlderived.proofs.OrderLemmas.{Rises, has-insert, insert-from, insert-keeps, insert-rises, same-list}
use Rattle.basis.proofs.EntryLaws.{Each, each_entry}
use Rattle.lifecycle.specs.DueOrder.{due_cmp_total}
use Rattle.sqlcolumns.specs.Steps.{◌>>=◌}
use Rattle.sqlderived.specs.inner.Finding.{with_row}
use Rattle.lifecycle.proofs.DueOrderLaws.{due_cmp_only}

abbrev pub InOrder : List Due → Type 0
InOrder found = Rises due_cmp due_cmp_total due_cmp_only found

-- ---- what is found

module _ {X : Type 0} (test : X → Option Due) where
  one-keeps : (o : Option Due) (found : List Due) (d : Due) → Has found d → Has (with_due o found) d
  one-keeps None found d there = there
  one-keeps (Some new) found d there = insert-keeps due_cmp due_cmp_total due_cmp_only found new d there

  one-has : (o : Option Due) (found : List Due) (d : Due) → o ≡ Some d → Has (with_due o found) d
  one-has None found d e = cc
  one-has (Some new) found d e = subst (Has (with_due (Some new) found)) (same_some new d e) (has-insert due_cmp due_cmp_total due_cmp_only found new)

  one-from : (o : Option Due) (found : List Due) (d : Due) → Has (with_due o found) d → Has found d ⊎ (o ≡ Some d)
  one-from None found d there = inl there
  one-from (Some new) found d there = turned (insert-from due_cmp due_cmp_total due_cmp_only found new d there)
    where
      turned : Has found d ⊎ (d ≡ new) → Has found d ⊎ (Some new ≡ Some d)
      turned (inl before) = inl before
      turned (inr same) = inr (ap Some (sym same))

  one-rises : (o : Option Due) (found : List Due) → InOrder found → InOrder (with_due o found)
  one-rises None found rise = rise
  one-rises (Some new) found rise = insert-rises due_cmp due_cmp_total due_cmp_only found new rise

  pub found-keeps : (found : List Due) (xs : List X) (d : Due) → Has found d → Has (found_due test found xs) d
  found-keeps found [] d there = there
  found-keeps found (x ∷ xs) d there = found-keeps (with_due (test x) found) xs d (one-keeps (test x) found d there)

  pub found-has : (found : List Due) (xs : List X) (x : X) (d : Due) → Has xs x → test x ≡ Some d → Has (found_due test found xs) d
  found-has found [] x d there e = absurd there
  found-has found (y ∷ ys) x d (inl same) e = found-keeps (with_due (test y) found) ys d (one-has (test y) found d (ap test (sym same) ∙ e))
  found-has found (y ∷ ys) x d (inr later) e = found-has (with_due (test y) found) ys x d later e

  pub found-from : (found : List Due) (xs : List X) (d : Due) → Has (found_due test found xs) d → Has found d ⊎ ((x : X) × Has xs x × (test x ≡ Some d))
  found-from found [] d there = inl there
  found-from found (y ∷ ys) d there = go (found-from (with_due (test y) found) ys d there)
    where
      first : Has found d ⊎ (test y ≡ Some d) → Has found d ⊎ ((x : X) × Has (y ∷ ys) x × (test x ≡ Some d))
      first (inl before) = inl before
      first (inr is) = inr (y, inl refl, is)

      go : Has (with_due (test y) found) d ⊎ ((x : X) × Has ys x × (test x ≡ Some d)) → Has found d ⊎ ((x : X) × Has (y ∷ ys) x × (test x ≡ Some d))
      go (inl one) = first (one-from (test y) found d one)
      go (inr it) = inr (it.0, inr it.1, it.2)

  pub found-rises : (found : List Due) (xs : List X) → InOrder found → InOrder (found_due test found xs)
  found-rises found [] rise = rise
  found-rises found (x ∷ xs) rise = found-rises (with_due (test x) found) xs (one-rises (test x) found rise)

-- ---- rows that read

-- what a row shows to be due
abbrev pub shown : Option (Option Due) → Option Due
shown None = None
shown (Some due) = due

one-row : (found more : List Due) (o : Option (Option Due)) → with_row found o ≡ Some more → with_due (shown o) found ≡ more
one-row found more None e = cc
one-row found more (Some due) e = same_some (with_due due found) more e

pub rows-read : {R : Type 0} (read : R → Option (Option Due)) (found all : List Due) (rows : List R) → with_rows read found rows ≡ Some all → all ≡ found_due (λ r. shown (read r)) found rows
rows-read read found all [] e = sym (same_some found all e)
rows-read read found all (row ∷ rows) e =
    let first = step (with_row found (read row)) (λ more. with_rows read more rows) all e in
    rows-read read first.given all rows first.rest
    ∙ ap (λ more. found_due (λ r. shown (read r)) more rows) (sym (one-row found first.given (read row) first.is))

-- rows that show the same
pub rows-alike : {R : Type 0} (f g : R → Option (Option Due)) (rows : List R) (found : List Due) → ((row : R) → Has rows row → f row ≡ g row) → with_rows f found rows ≡ with_rows g found rows
rows-alike f g [] found same = refl
rows-alike f g (row ∷ rows) found same = λ i. with_row found (same row (inl refl) i) >>= (λ more. rows-alike f g rows more (λ r there. same r (inr there)) i)

-- ---- entries

entry-is : {X : Type 0} (m : FinMap (slice_cmp nat_cmp) X) (es : List (List ℕ × X)) → Each (λ n x. get m n ≡ Some x) es → (e : List ℕ × X) → Has es e → get m e.0 ≡ Some e.1
entry-is m [] each e there = absurd there
entry-is m (f ∷ fs) each e (inl same) = (λ i. get m ((same i).0)) ∙ each.0 ∙ ap (λ (g : _). Some g.1) (sym same)
entry-is m (f ∷ fs) each e (inr later) = entry-is m fs each.1 e later

has-found : {X : Type 0} (es : List (List ℕ × X)) (n : List ℕ) (x : X) → find (slice_cmp nat_cmp) n es ≡ Some x → Has es (n, x)
has-found [] n x e = cc
has-found {X} (f ∷ fs) n x e = go (eq_by_cmp (slice_cmp nat_cmp) n f.0) refl e (has-found fs n x)
  where
    go : (b : Bool) → eq_by_cmp (slice_cmp nat_cmp) n f.0 ≡ b → cond b (Some f.1) (find (slice_cmp nat_cmp) n fs) ≡ Some x → (find (slice_cmp nat_cmp) n fs ≡ Some x → Has fs (n, x)) → Has (f ∷ fs) (n, x)
    go true is e more = inl (λ i. (bytes_is n f.0 is i, sym (same_some f.1 x e) i))
    go false is e more = inr (more e)

-- ---- what is picked of it

-- what passes a test of a list in order is in order
pub picked-rises : (pick : Due → Bool) (ds : List Due) → InOrder ds → InOrder (filter pick ds)
picked-rises pick [] rise = tt
picked-rises pick (d ∷ ds) rise = go (pick d) (picked-rises pick ds rise.1)
  where
    go : (b : Bool) → InOrder (filter pick ds) → InOrder (cond b (d ∷ filter pick ds) (filter pick ds))
    go true more = (λ q there. rise.0 q (has-filter pick ds q there).0, more)
    go false more = more

-- what the first has the second has, and of that the first has all that passes
pub record ArePicked (pick : Due → Bool) (ds es : List Due) : Type 0 where
  pub rises : InOrder ds × InOrder es
  pub forth : (d : Due) → Has ds d → Has es d
  pub back : (d : Due) → pick d ≡ true → Has es d → Has ds d

pub same-picked : (pick : Due → Bool) (ds es : List Due) → ArePicked pick ds es → filter pick ds ≡ filter pick es
same-picked pick ds es are =
    same-list due_cmp due_cmp_total due_cmp_only (filter pick ds) (filter pick es) (picked-rises pick ds are.rises.0) (picked-rises pick es are.rises.1)
    (λ d has. let it = has-filter pick ds d has in filter-has pick es d (are.forth d it.0) it.1)
    (λ d has. let it = has-filter pick es d has in filter-has pick ds d (are.back d it.1 it.0) it.1)

-- by two tests, where what passes one passes the other
pub tests-picked : {X Y : Type 0} (pick : Due → Bool) (test : X → Option Due) (other : Y → Option Due) (found more : List Due) (xs : List X) (ys : List Y) → ArePicked pick found more
    → ((x : X) (d : Due) → Has xs x → test x ≡ Some d → (y : Y) × Has ys y × (other y ≡ Some d))
    → ((y : Y) (d : Due) → pick d ≡ true → Has ys y → other y ≡ Some d → (x : X) × Has xs x × (test x ≡ Some d))
    → ArePicked pick (found_due test found xs) (found_due other more ys)
tests-picked pick test other found more xs ys before there back = record {
  rises = (found-rises test found xs before.rises.0, found-rises other more ys before.rises.1);
  forth = λ d has. ⊎_elim (λ was. found-keeps other more ys d (before.forth d was))
      (λ it. let that = there it.0 d it.1 it.2 in found-has other more ys that.0 d that.1 that.2) (found-from test found xs d has);
  back = λ d picked has. ⊎_elim (λ was. found-keeps test found xs d (before.back d picked was))
      (λ it. let that = back it.0 d picked it.1 it.2 in found-has test found xs that.0 d that.1 that.2) (found-from other more ys d has);
}

-- ---- what is found of rows, and of the objects that stand

-- among these rows are all that may be due and show something that is picked
pub record HasPicked {R X : Type 0} (stored : List R) (read : R → Option X) (may : R → Bool) (test : R → X → Option Due) (pick : Due → Bool) (rows : List R) : Type 0 where
  pub some : (row : R) → Has rows row → Has stored row
  pub all : (row : R) (x : X) (d : Due) → Has stored row → read row ≡ Some x → may row ≡ true → test row x ≡ Some d → pick d ≡ true → Has rows row

module _ {R X : Type 0} (name : R → List ℕ) (its : X → List ℕ) (read : R → Option X) (may : R → Bool) (test : List ℕ × X → Option Due)
    (stored rows : List R) (m : FinMap (slice_cmp nat_cmp) X) (pick : Due → Bool)
    (named : (row : R) (x : X) → read row ≡ Some x → its x ≡ name row)
    (stands : (row : R) (x : X) → Has stored row → read row ≡ Some x → get m (name row) ≡ Some x)
    (under : (n : List ℕ) (x : X) → get m n ≡ Some x → (row : R) × Has stored row × (read row ≡ Some x) × (name row ≡ n))
    (within : (row : R) (x : X) (d : Due) → Has stored row → read row ≡ Some x → test (name row, x) ≡ Some d → may row ≡ true)
    (has : HasPicked stored read may (λ row x. test (name row, x)) pick rows) where
  abbrev due_of : R → Option Due
  due_of row = shown (option_map (λ x. test (its x, x)) (read row))

  given-row : (row : R) (d : Due) (o : Option X) → read row ≡ o → shown (option_map (λ x. test (its x, x)) o) ≡ Some d → (x : X) × (read row ≡ Some x) × (test (its x, x) ≡ Some d)
  given-row row d None is e = cc
  given-row row d (Some x) is e = (x, is, e)

  entry-there : (e : List ℕ × X) → Has (entries m) e → get m e.0 ≡ Some e.1
  entry-there = entry-is m (entries m) (each_entry (slice_cmp nat_cmp) nat_list_cmp_total (slice_cmp-IsAntisymmetric nat_cmp-IsAntisymmetric) (λ n x. get m n ≡ Some x) m (λ n x there. there))

  pub found-picked : (found other all : List Due) → ArePicked pick found other → with_rows (λ row. option_map (λ x. test (its x, x)) (read row)) found rows ≡ Some all
      → ArePicked pick all (found_due test other (entries m))
  found-picked found other all before e =
      subst (λ l. ArePicked pick l (found_due test other (entries m))) (sym (rows-read (λ row. option_map (λ x. test (its x, x)) (read row)) found all rows e))
      (tests-picked pick due_of test found other rows (entries m) before
      (λ row d there is.
      let it = given-row row d (read row) refl is in
      ((name row, it.0), has-found (entries m) (name row) it.0 (sym (get-entries m (name row)) ∙ stands row it.0 (has.some row there) it.1), (λ i. test (sym (named row it.0 it.1) i, it.0)) ∙ it.2))
      (λ e d picked there is.
      let row = under e.0 e.1 (entry-there e there) in
      let passes : test (name row.0, e.1) ≡ Some d = (λ i. test (row.3 i, e.1)) ∙ is in (
        row.0,
        has.all row.0 e.1 d row.1 row.2 (within row.0 e.1 d row.1 row.2 passes) passes picked,
        (λ i. shown (option_map (λ x. test (its x, x)) (row.2 i))) ∙ (λ i. test (named row.0 e.1 row.2 i, e.1)) ∙ passes,
      )))
