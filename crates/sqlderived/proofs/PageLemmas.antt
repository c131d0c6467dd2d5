-- What is due first is due by an earlier moment, if so much is.
use Rattle.std.proofs.Common.{◌≡◌, ⊎_elim, ℕ, zero, suc, ◌<◌, ◌≤◌, Bool, true, false, cond, nat_le, nat_lt, length, take, List, [], ◌∷◌, filter, Option, Some, None, option_and_then, Result, Ok, Err, refl, sym, ap, ◌∙◌, arith}
use Rattle.std.proofs.lemmas.Cmp.{ranked}
use Rattle.std.specs.declared.cmp.Ordering.TheVariants.{Less, Equal, Greater}
use Rattle.sqlderived.proofs.Words.{all_from, completes_at, contact_due, Content, domain_due, Due, due_at, due_by, due_cmp, due_then, entries}
use Rattle.sqlderived.proofs.Words.{FindsIfRight, found_due, Has, kind_rank, nat_cmp, nat_tests, ObjectKind, Ordering, ordering_then, passed}
use Rattle.sqlderived.proofs.Words.{PolicyRules, Reads, reads-on, same_some, slice_cmp, StateOf, stays-on}
use Rattle.sqlderived.proofs.FoundLemmas.{ArePicked, InOrder, found-from, same-picked, tests-picked}
use Rattle.sqlite_keyed.proofs.ListLemmas.{filter_all, filter_none}
use Rattle.model.specs.Registry.{Registry}
use Rattle.states.specs.declared.fault.BookFault.{BookFault}

-- ---- an order by moments

-- what comes first is due no later
less-due : (a b : Due) → due_cmp a b ≡ Less → a.due ≤ b.due
less-due a b less = go (nat_cmp a.due b.due) refl
  where
    go : (o : Ordering) → nat_cmp a.due b.due ≡ o → a.due ≤ b.due
    go Less e = let below : a.due < b.due = ranked a.due b.due Less (sym e) in omega (arith, below)
    go Equal e = let same : a.due ≡ b.due = ranked a.due b.due Equal (sym e) in omega (arith, same)
    go Greater e =
        let greater : Greater ≡ Less = sym (ap (λ o. ordering_then (ordering_then o (nat_cmp (kind_rank a.kind) (kind_rank b.kind))) (slice_cmp nat_cmp a.name b.name)) e) ∙ less in
        cc

module _ (u : ℕ) where
  -- due by a moment
  abbrev pub by : Due → Bool
  by d = nat_le d.due u

  later-too : (d q : Due) → by d ≡ false → d.due ≤ q.due → by q ≡ false
  later-too d q is after = grind (arith, nat_tests, is, after)

  -- of what is due, in order, the first so many are due by the moment, if so many are
  first-kept : (ds : List Due) (n : ℕ) → InOrder ds → n ≤ length (filter by ds) → take n (filter by ds) ≡ take n ds
  first-kept [] n rise enough = refl
  first-kept (d ∷ ds) n rise enough = go (by d) refl n enough (λ m le. first-kept ds m rise.1 le)
    where
      go : (b : Bool) → by d ≡ b → (n : ℕ) → n ≤ length (cond b (d ∷ filter by ds) (filter by ds)) → ((m : ℕ) → m ≤ length (filter by ds) → take m (filter by ds) ≡ take m ds)
          → take n (cond b (d ∷ filter by ds) (filter by ds)) ≡ take n (d ∷ ds)
      go true e zero le more = refl
      go true e (suc m) le more = ap (λ rest. d ∷ rest) (more m (omega (arith, le)))
      go false e n le more =
          let empty : filter by ds ≡ [] = filter_none by ds (all_from (λ q. by q ≡ false) ds (λ q there. later-too d q e (less-due d q (rise.0 q there)))) in
          let none : n ≡ zero = omega (arith, le, ap length empty) in
          (λ i. take (none i) (filter by ds)) ∙ sym (ap (λ k. take k (d ∷ ds)) none)

-- ---- what is due by either of two moments

module _ (t u : ℕ) (earlier : u ≤ t) where
  down : (kind : ObjectKind) (name : List ℕ) (o : Option ℕ) (d : Due) → due_then kind name (option_and_then (passed t) o) ≡ Some d → by u d ≡ true
      → due_then kind name (option_and_then (passed u) o) ≡ Some d
  down kind name None d e is = e
  down kind name (Some m) d e is = go (nat_lt t m) refl e
    where
      go : (b : Bool) → nat_lt t m ≡ b → due_then kind name (cond b None (Some m)) ≡ Some d → due_then kind name (passed u m) ≡ Some d
      go true past f = cc
      go false past f =
          let due : m ≡ d.due = ap (λ (x : Due). x.due) (same_some _ d f) in
          let come : nat_lt u m ≡ false = grind (arith, nat_tests, is, due) in
          ap (λ b. due_then kind name (cond b None (Some m))) come ∙ f

  up : (kind : ObjectKind) (name : List ℕ) (o : Option ℕ) (d : Due) → due_then kind name (option_and_then (passed u) o) ≡ Some d
      → (due_then kind name (option_and_then (passed t) o) ≡ Some d) × (by u d ≡ true)
  up kind name None d e = cc
  up kind name (Some m) d e = go (nat_lt u m) refl e
    where
      go : (b : Bool) → nat_lt u m ≡ b → due_then kind name (cond b None (Some m)) ≡ Some d → (due_then kind name (passed t m) ≡ Some d) × (by u d ≡ true)
      go true past f = cc
      go false past f =
          let due : m ≡ d.due = ap (λ (x : Due). x.due) (same_some _ d f) in
          let come : nat_lt t m ≡ false = grind (arith, nat_tests, past, earlier) in
          let is : by u d ≡ true = grind (arith, nat_tests, past, due) in
          (ap (λ b. due_then kind name (cond b None (Some m))) come ∙ f, is)

  module _ (p : PolicyRules) (s : Registry) where
    abbrev contacts : ℕ → List Due
    contacts m = found_due (contact_due m) [] (entries s.contacts)

    contacts-alike : ArePicked (by u) (contacts u) (contacts t)
    contacts-alike =
        tests-picked (by u) (contact_due u) (contact_due t) [] [] (entries s.contacts) (entries s.contacts) (record { rises = (tt, tt); forth = λ d none. none; back = λ d is none. none })
        (λ e d there is. (e, there, (up _ e.0 (completes_at e.1.transfer) d is).0)) (λ e d early there is. (e, there, down _ e.0 (completes_at e.1.transfer) d is early))

    all-alike : ArePicked (by u) (due_by p u s) (due_by p t s)
    all-alike =
        tests-picked (by u) (domain_due p u) (domain_due p t) (contacts u) (contacts t) (entries s.domains) (entries s.domains) contacts-alike
        (λ e d there is. (e, there, (up _ e.0 (Some (due_at p e.1)) d is).0)) (λ e d early there is. (e, there, down _ e.0 (Some (due_at p e.1)) d is early))

    early : (d : Due) → Has (due_by p u s) d → by u d ≡ true
    early d has =
        ⊎_elim (λ contact. ⊎_elim (λ none. absurd none) (λ it. (up _ it.0.0 (completes_at it.0.1.transfer) d it.2).1) (found-from (contact_due u) [] (entries s.contacts) d contact))
        (λ it. (up _ it.0.0 (Some (due_at p it.0.1)) d it.2).1) (found-from (domain_due p u) (contacts u) (entries s.domains) d has)

    -- what is due by the earlier moment is, of what is due by the later one, what is due by then
    due-earlier : due_by p u s ≡ filter (by u) (due_by p t s)
    due-earlier = sym (filter_all (by u) (due_by p u s) (all_from (λ d. by u d ≡ true) (due_by p u s) early)) ∙ same-picked (by u) (due_by p u s) (due_by p t s) all-alike

    pub first-due : (n : ℕ) → n ≤ length (due_by p u s) → take n (due_by p u s) ≡ take n (due_by p t s)
    first-due n enough =
        ap (take n) due-earlier ∙ first-kept u (due_by p t s) n all-alike.rises.1 (omega (arith, enough, ap length due-earlier))

-- ---- one call after another

-- a page that is full is what is due first
pub full-page : (p : PolicyRules) (s : Registry) (t u n : ℕ) (page first : List Due) → u ≤ t → nat_le n (length page) ≡ true → page ≡ due_by p u s → first ≡ take n page → first ≡ take n (due_by p t s)
full-page p s t u n page first earlier full is cut =
    let few : n ≤ length page = grind (arith, nat_tests, full) in
    let enough : n ≤ length (due_by p u s) = omega (arith, few, ap length is) in
    cut ∙ ap (take n) is ∙ first-due t u earlier p s n enough

-- a question after another, of what is held
pub asked-after : {A : Type 0} (right : Content → Bool) (value : Content → A) (r : Result A BookFault) (s m t : StateOf Content) → Reads s m
    → FindsIfRight r (right m.content) (value m.content) m t → FindsIfRight r (right s.content) (value s.content) s t
asked-after right value (Err fault) s m t asked met = stays-on s m t asked met
asked-after right value (Ok it) s m t asked met = (
  reads-on s m t asked met.0,
  λ clean ok. let same = asked.content (met.0.clean clean) in met.1 clean (ap right same ∙ ok) ∙ ap value same,
)
