-- Rows put one after another.
use Rattle.std.proofs.Common.{◌≡◌, ℕ, ◌+◌, ◌<◌, ℤ, ◌<ℤ◌, true, get_or, length, List, [], ◌∷◌, ◌++◌, drop, Result, Ok, Err, refl, sym, ap, ap₂, ◌∙◌, add-one, append-nil, drop-cons}
use Rattle.std.proofs.lemmas.List.{append_assoc}
use Rattle.std.specs.{List.AllByRecursion, Ordering.match_ordering, declared.cmp.Ordering.Ordering}
use Rattle.sqlite_keyed.specs.Keyed.{IsKeyedBy, insert_by}
use Rattle.sqlite_keyed.proofs.{KeyedLemmas.Less-from_lt, ListLemmas.{all-append, all_both, all_of}}
use Rattle.states.specs.{declared.fault.BookFault.BookFault, States.{Makes, StateOf, Writes}}
use Rattle.states.proofs.LeavingLemmas.{leaves-on}
use Rattle.sqltables.specs.Content.{Content}
use Rattle.oldrows.specs.{Stored.{IsAsked, IsRead, OldState}, inner.Copies.{Copies, IsCopyLeft, IsOnItsWay, IsToPut, put_rows}}
use Rattle.oldrows.specs.inner.Tables.{Table}

-- ---- rows in the order of their numbers

module _ {X : Type 0} (key : X → ℤ) where
  -- a row behind all others
  put-behind : (xs : List X) (new : X) → AllByRecursion (λ x. key x <ℤ key new) xs → insert_by key xs new ≡ xs ++ new ∷ []
  put-behind [] new low = refl
  put-behind (x ∷ xs) new low =
      ap (λ (o : Ordering). match_ordering o (x ∷ insert_by key xs new) (new ∷ xs) (new ∷ x ∷ xs)) (Less-from_lt (key x) (key new) low.0)
      ∙ ap (λ rest. x ∷ rest) (put-behind xs new low.1)

  put-rising : (xs ys : List X) → IsKeyedBy key ys → AllByRecursion (λ y. AllByRecursion (λ x. key x <ℤ key y) xs) ys → put_rows key ys xs ≡ xs ++ ys
  put-rising xs [] up low = sym (append-nil xs)
  put-rising xs (y ∷ ys) up low =
      ap (put_rows key ys) (put-behind xs y low.0)
      ∙ put-rising (xs ++ y ∷ []) ys up.1
      (all_both (λ z. AllByRecursion (λ x. key x <ℤ key z) xs) (λ z. key y <ℤ key z) (λ z. AllByRecursion (λ x. key x <ℤ key z) (xs ++ y ∷ [])) (λ z p q. all-append (λ x. key x <ℤ key z) xs (y ∷ []) p (q, tt)) ys low.1 up.0)
      ∙ append_assoc xs (y ∷ []) ys

  pub put-keyed : (ys : List X) → IsKeyedBy key ys → put_rows key ys [] ≡ ys
  put-keyed ys up = put-rising [] ys up (all_of (λ y. AllByRecursion (λ x. key x <ℤ key y) []) (λ y. tt) ys)

pub drop-there : {X : Type 0} (xs : List X) (i : ℕ) (x : X) → i < length xs → x ≡ get_or xs i x → drop i xs ≡ x ∷ drop (i + 1) xs
drop-there xs i x within is = drop-cons xs i x within ∙ ap₂ ◌∷◌ (sym is) (ap (λ n. drop n xs) (sym (add-one i)))

-- ---- what calls leave

pub read-on : (s m t : OldState) → IsRead s m → IsRead m t → IsRead s t
read-on s m t a b = record {
  clean = λ e. a.clean (b.clean e);
  honest = λ e. a.honest (b.honest e);
  content = λ e. b.content e ∙ a.content (b.clean e);
  ready = b.ready ∙ a.ready;
  leaves = b.leaves ∙ a.leaves;
}

pub asked-on : (s m t : OldState) → IsAsked s m → IsAsked m t → IsAsked s t
asked-on s m t a b = record { reads = read-on s m t a.reads b.reads; answers = λ was. b.answers (a.answers was) }

-- what was read is put
pub copied-so : {A X : Type 0} (r : Result A BookFault) (put : List X → Content → Content) (rows : List X) (of : Content → List X) (from read : OldState) (store written : StateOf Content)
    → IsAsked from read → (read.is_clean ≡ true → rows ≡ of from.content) → Makes r (put rows store.content) store written → Copies r (λ c. put (of c)) from read store written
copied-so (Ok done) put rows of from read store written asked same makes = record {
  asked = asked;
  clean = makes.clean;
  before = makes.before;
  opened = makes.opened;
  leaves = makes.leaves;
  content = λ c e. makes.content e ∙ ap (λ rows. put rows store.content) (same c);
}
copied-so (Err fault) put rows of from read store written asked same makes = record { source = asked.reads; target = makes }

module _ {X : Type 0} (table : Table X) (all : List X) where
  -- one more row
  pub put-more : (rest : List X) (row : X) (a b c : StateOf Content) → IsToPut table all (row ∷ rest) a b → Writes (table.rows_to (λ xs. insert_by table.key xs row) b.content) b c → IsToPut table all rest a c
  put-more rest row a b c on wrote = record {
    clean = λ e. on.clean (wrote.clean e);
    before = λ e. wrote.before e ∙ on.before (wrote.clean e);
    opened = wrote.opened;
    answers = λ was. wrote.answers (on.answers was);
    leaves = leaves-on a b c on.leaves wrote.leaves;
    content = λ e.
        ap (table.rows_to (put_rows table.key rest)) (wrote.content e)
        ∙ table.together (λ xs. insert_by table.key xs row) (put_rows table.key rest) b.content
        ∙ on.content (wrote.clean e);
  }

  -- after the last one
  pub all-put : (a b : StateOf Content) → IsToPut table all [] a b → Writes (table.rows_to (put_rows table.key all) a.content) a b
  all-put a b on = record {
    clean = on.clean;
    before = on.before;
    opened = on.opened;
    answers = on.answers;
    leaves = on.leaves;
    content = λ e. sym (table.none b.content) ∙ on.content e;
  }

-- a table that wasn't copied
pub left-on : (put rest : Content → Content → Content) (from read more : OldState) (to written wrote : StateOf Content) → IsOnItsWay put rest from read to written → IsCopyLeft read more written wrote → IsCopyLeft from more to wrote
left-on put rest from read more to written wrote on left = record {
  source = read-on from read more on.asked.reads left.source;
  target = record {
    clean = λ e. on.clean (left.target.clean e);
    before = λ e. left.target.before e ∙ on.before (left.target.clean e);
    leaves = leaves-on to written wrote on.leaves left.target.leaves;
  };
}
