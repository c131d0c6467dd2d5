-- What a commit of rows is to a book.
use Rattle.std.proofs.Common.{◌≡◌, ◌⊎◌, ◌&&◌, inl, inr, Bool, true, false, [], ◌∷◌, ◌++◌, map, Result, Ok, Err, refl, sym, ap, subst, ◌∙◌}
use Rattle.std.proofs.{Math.Bool.and-true, lemmas.{Bool.and_from, List.{map-append, Folds.list_all-append}}}
use Rattle.sqlbook.proofs.Words.{and_parts, are_all_right, as_book, BookFault, Ends, has-alone, has-either, Remains, remains_meant, StateOf}
use Rattle.states.specs.States.{Closes, Fails, Has, IsIdle, Keeps, Notes, holding}
use Rattle.sqlbook.specs.BetweenCalls.{UndoneIfFault, IsBetweenCalls}

twice : (a b c : Bool) → a ≡ c → b ≡ c → (a && (b && true)) ≡ c
twice a b true x y = and_from a (b && true) x (and_from b true y refl)
twice a b false x y = ap (λ d. d && (b && true)) x

-- what stands between calls behind a call that ended the transaction
pub steady-now : {C : Type 0} (right : C → Bool) (is_made : Bool) (old new : StateOf C) → IsBetweenCalls is_made right old → IsIdle new → new.is_open ≡ false → (is_made ≡ true → new.is_clean ≡ true)
    → (new.is_clean ≡ true → right new.before ≡ right old.before) → (new.is_clean ≡ true → are_all_right right new.crash_leaves ≡ right new.before) → IsBetweenCalls is_made right new
steady-now right is_made old new steady idle closed clean home leaves = record {
  sums = λ e. ap right (sym (idle closed));
  idle = idle;
  clean = clean;
  begun = λ e. home (clean e) ∙ steady.begun e;
  leaves = leaves;
}

module _ {C X : Type 0} (means : C → X) (right : C → Bool) (is_made : Bool) (old : StateOf C) (steady : IsBetweenCalls is_made right old) where
  -- ---- what was held is kept
  module _ (new : StateOf C) (keeps : Keeps old new) (noted : new.crash_leaves ≡ holding old.content ∷ []) (idle : IsIdle new) where
    kept-home : new.is_clean ≡ true → new.before ≡ old.content
    kept-home e = idle keeps.closed ∙ keeps.content e

    right-kept : are_all_right right new.crash_leaves ≡ right old.content
    right-kept = ap (are_all_right right) noted ∙ and-true (right old.content)

    pub leaves-kept : new.is_clean ≡ true → are_all_right right new.crash_leaves ≡ right new.before
    leaves-kept e = right-kept ∙ ap right (sym (kept-home e))

    pub keeps-seen : Keeps (as_book means right old) (as_book means right new)
    keeps-seen = record {
      clean = λ e.
          let p = and_parts new.is_clean (right new.before) e in
          let was = keeps.clean p.0 in
          and_from old.is_clean (right old.before) was (sym (steady.sums was) ∙ ap right (sym (kept-home p.0)) ∙ p.1);
      closed = keeps.closed;
      content = λ e. ap means (keeps.content (and_parts new.is_clean (right new.before) e).0);
      answers = λ e.
          let p = and_parts new.is_honest (are_all_right right new.crash_leaves) e in
          let clean = keeps.answers p.0 in
          and_from new.is_clean (right new.before) clean (sym (leaves-kept clean) ∙ p.1);
      honest = λ e.
          let p = and_parts new.is_honest (are_all_right right new.crash_leaves) e in
          let was = keeps.answered p.0 in
          and_from old.is_honest (are_all_right right old.crash_leaves) (keeps.honest p.0) (steady.leaves was ∙ sym (steady.sums was) ∙ sym right-kept ∙ p.1);
      answered = λ e.
          let p = and_parts new.is_honest (are_all_right right new.crash_leaves) e in
          let was = keeps.answered p.0 in
          and_from old.is_clean (right old.before) was (sym (steady.sums was) ∙ sym right-kept ∙ p.1);
      leaves = λ left h. has-alone (holding (means old.content)) left (subst (λ l. Has (map (remains_meant means) l) left) noted h);
      ready = keeps.ready;
    }

  -- ---- it isn't, and what was begun is undone
  module _ (mid new : StateOf C) (fails : Fails old mid) (noted : (mid.crash_leaves ≡ old.crash_leaves) ⊎ (mid.crash_leaves ≡ old.crash_leaves ++ holding old.content ∷ [])) (closes : Closes mid.before mid new) (idle : IsIdle new) where
    failed-home : new.is_clean ≡ true → new.before ≡ old.before
    failed-home e = idle closes.closed ∙ closes.content e ∙ fails.before (closes.clean e)

    more-right : are_all_right right (old.crash_leaves ++ holding old.content ∷ []) ≡ (are_all_right right old.crash_leaves && (right old.content && true))
    more-right = list_all-append (λ (left : Remains C). right left.content) old.crash_leaves (holding old.content ∷ [])

    was-clean : new.is_clean ≡ true → old.is_clean ≡ true
    was-clean e = fails.clean (closes.clean e)

    right-before : are_all_right right new.crash_leaves ≡ true → are_all_right right old.crash_leaves ≡ true
    right-before e = elim noted [
      | inl same ↦ ap (are_all_right right) (sym (closes.leaves.same ∙ same)) ∙ e
      | inr more ↦ (and_parts (are_all_right right old.crash_leaves) (right old.content && true) (sym more-right ∙ ap (are_all_right right) (sym (closes.leaves.same ∙ more)) ∙ e)).0
    ]

    pub leaves-failed : new.is_clean ≡ true → are_all_right right new.crash_leaves ≡ right new.before
    leaves-failed e =
        let was = was-clean e in
        elim noted [
          | inl same ↦ ap (are_all_right right) (closes.leaves.same ∙ same) ∙ steady.leaves was ∙ ap right (sym (failed-home e))
          | inr more ↦ ap (are_all_right right) (closes.leaves.same ∙ more) ∙ more-right
              ∙ twice (are_all_right right old.crash_leaves) (right old.content) (right old.before) (steady.leaves was) (steady.sums was) ∙ ap right (sym (failed-home e))
        ]

    pub fails-seen : Fails (as_book means right old) (as_book means right new)
    fails-seen = record {
      clean = λ e.
          let p = and_parts new.is_clean (right new.before) e in
          and_from old.is_clean (right old.before) (was-clean p.0) (ap right (sym (failed-home p.0)) ∙ p.1);
      before = λ e. ap means (failed-home (and_parts new.is_clean (right new.before) e).0);
      honest = λ e.
          let p = and_parts new.is_honest (are_all_right right new.crash_leaves) e in
          and_from old.is_honest (are_all_right right old.crash_leaves) (fails.honest (closes.leaves.honest p.0)) (right-before p.1);
      answered = λ e.
          let p = and_parts new.is_honest (are_all_right right new.crash_leaves) e in
          let was = fails.answered (closes.leaves.honest p.0) in
          and_from old.is_clean (right old.before) was (sym (steady.leaves was) ∙ right-before p.1);
      leaves = λ left h. elim noted [
        | inl same ↦ inl (subst (λ l. Has (map (remains_meant means) l) left) (closes.leaves.same ∙ same) h)
        | inr more ↦ has-either (map (remains_meant means) old.crash_leaves) (holding (means old.content)) left
            (subst (λ l. Has l left) (map-append (remains_meant means) old.crash_leaves (holding old.content ∷ [])) (subst (λ l. Has (map (remains_meant means) l) left) (closes.leaves.same ∙ more) h))
      ];
      ready = closes.leaves.ready ∙ fails.ready;
    }

  -- ---- either

  pub ends-seen : {A : Type 0} (r : Result A BookFault) (mid new : StateOf C) → Ends r old mid → Notes r old mid → UndoneIfFault r mid new → IsIdle new → Ends r (as_book means right old) (as_book means right new)
  ends-seen (Ok done) mid new ends noted same idle = keeps-seen new (subst (Keeps old) (sym same) ends) (ap (λ (s : StateOf C). s.crash_leaves) same ∙ noted) idle
  ends-seen (Err fault) mid new ends noted closes idle = fails-seen mid new ends noted closes idle

  pub steady-ended : {A : Type 0} (r : Result A BookFault) (mid new : StateOf C) → Ends r old mid → Notes r old mid → UndoneIfFault r mid new → IsIdle new → (is_made ≡ true → new.is_clean ≡ true) → IsBetweenCalls is_made right new
  steady-ended (Ok done) mid new ends noted same idle clean =
      let keeps = subst (Keeps old) (sym same) ends in
      let alone = ap (λ (s : StateOf C). s.crash_leaves) same ∙ noted in
      steady-now right is_made old new steady idle keeps.closed clean (λ e. ap right (kept-home new keeps alone idle e) ∙ steady.sums (keeps.clean e)) (leaves-kept new keeps alone idle)
  steady-ended (Err fault) mid new ends noted closes idle clean =
      steady-now right is_made old new steady idle closes.closed clean (λ e. ap right (failed-home mid new ends noted closes idle e)) (leaves-failed mid new ends noted closes idle)
