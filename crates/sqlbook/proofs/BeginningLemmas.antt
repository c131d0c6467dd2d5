-- What a book is over rows that were adopted.
use Rattle.std.proofs.{Common.{◌≡◌, ◌≢◌, ◌&&◌, ℕ, true, false, List, [], map, refl, sym, ap, subst, ◌∙◌}, Math.Bool.and-true}
use Rattle.sqlbook.proofs.Words.{and_parts, are_all_right, are_right, as_book, BookState, Content, fresh, IsKnownAs, Remains, remains_meant, StateOf}
use Rattle.sqlbook.proofs.Words.{stored_of}
use Rattle.sqlite.proofs.ListingLemmas.{empty_is_sound}
use Rattle.sqlite_trees.specs.{Objects.catalog_tree, Tree.Trees}
use Rattle.sqlrows.specs.Columns.{no_schema}
use Rattle.books.specs.Kept.{book_state}
use Rattle.sqltables.specs.{Adoption.{IsAdopted, IsTakenAs}, Tables.registry}
use Rattle.sqltables.proofs.AdoptedLemmas.{schema_once, some-tables}
use Rattle.states.specs.declared.readiness.Ready.{Ready, TheVariants.{Empty, Used, Other}}
use Rattle.sqlbook.specs.{Beginning.{IsAdoptedBook, IsFoundNew, IsTaken, IsTakenFrom}, BetweenCalls.IsBetweenCalls}

taken-as : (r : Ready) (trees : Trees) (x : Content) → IsTakenAs r trees x → IsTaken r trees (stored_of x)
taken-as Empty trees x it = ap stored_of it
taken-as Used trees x it = ap stored_of it.0
taken-as Other trees x it = ap stored_of it

-- ---- rows that were adopted
module _ (trees : Trees) (rows : StateOf Content) (adopted : IsAdopted trees rows) where
  clean-rows : (rows.is_clean && are_right rows.before) ≡ true → rows.is_clean ≡ true
  clean-rows e = (and_parts rows.is_clean (are_right rows.before) e).0

  -- the book is clean where they are honest and the sums are right
  pub clean_if_right : rows.is_honest ≡ true → are_right rows.content ≡ true → (rows.is_clean && are_right rows.before) ≡ true
  clean_if_right honest right = ap (λ b. b && are_right rows.before) (adopted.answers honest) ∙ ap are_right adopted.before ∙ right

  -- its sums are as right as they were, and so they are wherever a crash may leave them
  pub steady_adopted : IsBetweenCalls false are_right rows
  steady_adopted = record {
    sums = λ clean. sym (ap are_right adopted.before);
    idle = λ closed. adopted.before;
    clean = λ e. absurd cc;
    begun = λ e. absurd cc;
    leaves = λ clean. ap (are_all_right are_right) (adopted.leaves clean) ∙ and-true (are_right rows.content) ∙ sym (ap are_right adopted.before);
  }

  right-rows : rows.is_clean ≡ true → are_all_right are_right rows.crash_leaves ≡ true → are_right rows.content ≡ true
  right-rows clean e = (and_parts (are_right rows.content) true (subst (λ (leaves : List (Remains Content)). are_all_right are_right leaves ≡ true) (adopted.leaves clean) e)).0

  pub taken_from : (refused : ℕ) → refused ≡ 0 → IsTakenFrom trees (book_state (as_book stored_of are_right rows) refused)
  taken_from refused none = record {
    idle = adopted.idle;
    before = ap stored_of adopted.before;
    refused = none;
    known = λ e. adopted.known (clean-rows e);
    content = λ e. taken-as rows.readiness trees rows.content (adopted.content (clean-rows e));
    answers = λ e.
        let parts = and_parts rows.is_honest (are_all_right are_right rows.crash_leaves) e in
        clean_if_right parts.0 (right-rows (adopted.answers parts.0) parts.1);
    leaves = λ e. ap (map (remains_meant stored_of)) (adopted.leaves (clean-rows e));
  }

-- ---- where no table was ever made

known-new : (r : Ready) (trees : Trees) → trees catalog_tree ≡ [] → IsKnownAs r trees → r ≡ Empty
known-new Empty trees none known = refl
known-new Used trees none known = absurd (some-tables (schema_once trees registry no_schema known.0 (empty_is_sound trees none)))
known-new Other trees none known = absurd (known.0 (empty_is_sound trees none))

pub rows_new : (trees : Trees) (rows : StateOf Content) → IsAdopted trees rows → rows.is_clean ≡ true → trees catalog_tree ≡ [] → (rows.readiness ≡ Empty) × (rows.content ≡ fresh)
rows_new trees rows adopted clean none =
    let new = known-new rows.readiness trees none (adopted.known clean) in
    (new, subst (λ r. IsTakenAs r trees rows.content) new (adopted.content clean))

found_new : (trees : Trees) (s : BookState) → IsTakenFrom trees s → IsFoundNew trees s
found_new trees s taken none clean =
    let new = known-new s.readiness trees none (taken.known clean) in
    (new, subst (λ r. IsTaken r trees s.content) new (taken.content clean))

-- ---- a book over them

pub adopted_book : (trees : Trees) (rows store : StateOf Content) (refused : ℕ) → rows ≡ store → refused ≡ 0 → IsAdopted trees store → store.readiness ≢ Other → IsAdoptedBook trees rows refused
adopted_book trees rows store refused same none adopted ours =
    let it = subst (IsAdopted trees) (sym same) adopted in
    let taken = taken_from trees rows it refused none in
    record {
      book = taken;
      adopted = it;
      ours = λ other. ours (ap (λ (s : StateOf Content). s.readiness) (sym same) ∙ other);
      answers = clean_if_right trees rows it;
      fresh = found_new trees _ taken;
    }

pub honest_rows : (rows store : StateOf Content) → rows ≡ store → (store.is_clean ≡ true → store.is_honest ≡ true) → rows.is_clean ≡ true → store.is_honest ≡ true
honest_rows rows store same honest clean = honest (ap (λ (s : StateOf Content). s.is_clean) (sym same) ∙ clean)
