-- Tests of all rows, which say the same before and after a change.
use Rattle.std.proofs.Common.{◌≡◌, inl, inr, ℕ, Bool, true, false, ◌&&◌, List, [], ◌∷◌, map, refl, sym, ◌∙◌}
use Rattle.sqlobjects.proofs.{Words.{AreOtherNamesKept, bytes_eq, Has, list_all}, PutLemmas.{both-or-none, bytes_is, in-new, in-old}}
use Rattle.sqlite_keyed.proofs.SliceLemmas.{list_all_same}
use Rattle.sqlite_rules.proofs.ListLemmas.{all_from, test_from, test_has}

module _ {A : Type 0} (p : A → Bool) where
  pub each-passes : (rows : List A) → list_all p rows ≡ true → (row : A) → Has rows row → p row ≡ true
  each-passes rows all row = test_has p rows row all

  pub all-pass : (rows : List A) → ((row : A) → Has rows row → p row ≡ true) → list_all p rows ≡ true
  all-pass = test_from p

  -- rows that were changed one by one
  pub all-changed : (q : A → Bool) (f : A → A) (rows : List A) → ((row : A) → Has rows row → q (f row) ≡ p row) → list_all q (map f rows) ≡ list_all p rows
  all-changed q f [] same = refl
  all-changed q f (x ∷ rows) same = λ i. same x (inl refl) i && all-changed q f rows (λ r h. same r (inr h)) i

  pub all-alike : (q : A → Bool) (rows : List A) → ((row : A) → Has rows row → q row ≡ p row) → list_all q rows ≡ list_all p rows
  all-alike q rows same = list_all_same q p rows (all_from (λ x. q x ≡ p x) rows same)

-- rows of one name, which pass, in the place of others, which passed
module _ {P : Type 0} (name : P → List ℕ) (n : List ℕ) (old new : List P) (p q : P → Bool) (others : AreOtherNamesKept name n old new)
    (alike : (row : P) → Has old row → Has new row → bytes_eq (name row) n ≡ false → q row ≡ p row)
    (was : (row : P) → Has old row → name row ≡ n → p row ≡ true) (is : (row : P) → Has new row → name row ≡ n → q row ≡ true) where
  forth : list_all p old ≡ true → (row : P) → Has new row → (b : Bool) → bytes_eq (name row) n ≡ b → q row ≡ true
  forth all row there true e = is row there (bytes_is (name row) n e)
  forth all row there false e =
      let here = in-old name n old new others row e there in
      alike row here there e ∙ test_has p old row all here

  back : list_all q new ≡ true → (row : P) → Has old row → (b : Bool) → bytes_eq (name row) n ≡ b → p row ≡ true
  back all row there true e = was row there (bytes_is (name row) n e)
  back all row there false e =
      let here = in-new name n old new others row e there in
      sym (alike row there here e) ∙ test_has q new row all here

  pub same-verdict : list_all q new ≡ list_all p old
  same-verdict = both-or-none (list_all q new) (list_all p old) (λ all. test_from p old (λ row there. back all row there (bytes_eq (name row) n) refl)) (λ all. test_from q new (λ row there. forth all row there (bytes_eq (name row) n) refl))
