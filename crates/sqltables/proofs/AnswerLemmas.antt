-- What is found among the answers that are kept, and what is kept.
use Rattle.std.proofs.Common.{◌≡◌, ◌≢◌, ◌++◌, ◌==◌, ◌&&◌, Bool, true, false, not, ℕ, List, [], ◌∷◌, length, map, filter, flat_map, get_or, if◌then◌else◌, IfOk, IfSome, IsTrue, Option, Some, None, Result, inl, inr, refl, sym, ap, subst, subst₂, ◌∙◌, arith}
use Rattle.std.proofs.lemmas.{Bool.Decides.leb_tells, List.Sums.{count_by-le-length, length-filter}}
use Rattle.std.proofs.lemmas.{List.Elements.{All-filter, All-push, filter_passes}, Simd.map-map, Bool.not-true}
use Rattle.sqltables.proofs.Words.{All, Answer, AreOthersSame, AreRight, Asks, BookFault, bound, bound_value, Content, end, Env}
use Rattle.sqltables.proofs.Words.{eqb-false, Finds, Fits, Form, has_rows, HasCleanDisk, inner, IsAnswer, IsAnsweredByRows, IsContent, IsOfTable}
use Rattle.sqltables.proofs.Words.{IsRight, lasting, lasts, matches_as, Null, overlay, overlay_none, owned, Query, Reads, Recalls, registry, Remains}
use Rattle.sqltables.proofs.Words.{Row, Select, State, StateOf, store_state, Trees, Value}
use Rattle.sqltables.proofs.{AskingLemmas.{finds-by, holds-now, in-registry, rows-are, shows}, StandingLemmas.{both, clean-of}}
use Rattle.sqlite_value.specs.declared.value.ValueRef.{ValueRef}
use Rattle.sqlite_sql.specs.Group.{IsGrouped}
use Rattle.sqlite_schema.specs.declared.command.Command.{Command}
use Rattle.sqltables.specs.inner.Answers.{AreFew, IsOf, IsPutIn, IsQueryOf, beside, is_short, unless_full}

-- parameters that are kept are those that were given
pub same_bound : (values : List Value) (given : List ValueRef) → values ≡ map owned given → map bound_value values ≡ bound given
same_bound values given is = ap (map bound_value) is ∙ map-map bound_value owned given

-- the rows of an answer to the question that a text is
pub shown-by : {R : Type 0} (tree : ℕ) (shown : R → Row) (sql : List ℕ) (params : Row) (f : Content → List R) → Asks tree shown sql params f → (db : Trees) (xs : Content) → IsContent xs (record { schema = registry; trees = db }) → (it : Answer) → IsOf it sql params → IsRight db it
    → it.rows.items ≡ map shown (f xs)
shown-by tree shown sql params f asks db xs is it of right =
    shows tree shown sql params f asks db xs is it.rows.items (subst₂ (λ (text : List ℕ) (given : Row). IsAnsweredByRows db text given it.rows.items) of.0 of.1 right.0)

-- a call that does nothing
reads-itself : (s : StateOf Content) → Reads s s
reads-itself s = record {
  clean = λ e. e;
  before = λ e. refl;
  opened = refl;
  content = λ e. refl;
  answers = λ was. was;
  leaves = record { honest = λ e. e; same = refl; ready = refl };
}

module _ (form : Form) (begun : Bool) (s : State) (leaves : List (Remains Content)) (kept : List Answer) (fits : Fits form begun s) (rows : has_rows form ≡ true) (recalls : Recalls s kept) where
  abbrev seen : StateOf Content
  seen = store_state form begun s leaves

  there : HasCleanDisk s → IsTrue s.is_open → IsContent seen.content (record { schema = registry; trees = s.now.trees })
  there clean opened =
      subst (λ (xs : Content). IsContent xs (record { schema = registry; trees = s.now.trees })) (sym (rows-are form s.now.trees rows))
      (in-registry s.now (holds-now form s.now s.committed rows (fits clean opened).bears))

  -- an answer that is kept is what the database would say
  pub recalled : {R : Type 0} (f : Content → List R) (known : Option (Result (List R) BookFault))
      → ((db : Trees) (xs : Content) → AreRight db kept → IsContent xs (record { schema = registry; trees = db }) → IfSome known (λ found. IfOk found (λ records. records ≡ f xs)))
      → IfSome known (λ found. Finds found (f seen.content) seen seen)
  recalled f None tells = tt
  recalled f (Some found) tells =
      finds-by found (f seen.content) seen seen (reads-itself seen)
      (λ e. let p = both s e in tells s.now.trees seen.content (recalls p.0 p.1) (there p.0 p.1))

  -- one more is kept that the rows show to be right
  pub recalls-known : (more : List Answer) (sql : List ℕ) (params : Row) (found : List Row) → (seen.is_clean ≡ true → (db : Trees) → IsContent seen.content (record { schema = registry; trees = db }) → IsAnsweredByRows db sql params found)
      → ((db : Trees) → AreRight db kept → IsAnsweredByRows db sql params found → AreRight db more) → Recalls s more
  recalls-known more sql params found shows adds clean opened =
      adds s.now.trees (recalls clean opened) (shows (ap (λ (b : Bool). b && s.is_open) (clean-of s clean) ∙ opened) s.now.trees (there clean opened))

-- ---- what a write of another table leaves

-- what a command asks
abbrev pub asked-by : Query → Command → Query
asked-by other (Select program names) = program.body
asked-by other _ = other

-- a text that asks a table asks no other
pub reads-by : {R : Type 0} (tree : ℕ) (shown : R → Row) (sql : List ℕ) (params : Row) (f : Content → List R) → Asks tree shown sql params f → IsQueryOf tree sql
reads-by tree shown sql params f a query is = subst (IsOfTable tree) (ap (asked-by a.query) (sym a.is.command ∙ is.command)) a.of

-- a query answers as before where its table is as it was
same-answer : (tree : ℕ) (query : Query) (params : Row) (rows : List Row) (old new : Trees) → query.from ≡ inner tree end → new tree ≡ old tree
    → IsAnswer query (overlay old []) params rows → IsAnswer query (overlay new []) params rows
same-answer tree query params rows old new from same a =
    let stored : overlay old [] tree ≡ overlay new [] tree = overlay_none old tree ∙ sym same ∙ sym (overlay_none new tree) in
    let of_table : matches_as Null (overlay old []) query.filter (inner tree end) (params ∷ []) ≡ matches_as Null (overlay new []) query.filter (inner tree end) (params ∷ []) =
    ap (λ (l : List Row). flat_map (λ (r : Row). matches_as Null (overlay old []) query.filter end ((params ∷ []) ++ r ∷ [])) l) stored in
    let matched = subst (λ j. matches_as Null (overlay old []) query.filter j (params ∷ []) ≡ matches_as Null (overlay new []) query.filter j (params ∷ [])) (sym from) of_table in
    record {
      staged = a.staged;
      grouped = subst (λ (envs : List Env). IsGrouped query.group params envs a.staged) matched a.grouped;
      kept = a.kept;
      distinct = a.distinct;
      ordered = a.ordered;
      same = a.same;
      sorted = a.sorted;
      shown = a.shown;
    }

-- an answer about another table than the one that was written
pub right-after : (written : ℕ) (old new : Trees) → AreOthersSame written old new → (it : Answer) → it.tree ≢ written → IsRight old it → IsRight new it
right-after written old new others it apart right = (
  λ query is. let of = right.1 query is in same-answer it.tree query (map bound_value it.params) it.rows.items old new of.from (others it.tree of.table apart) (right.0 query is),
  right.1,
)

-- of several, those that are about other tables
pub rights-after : (written : ℕ) (old new : Trees) → AreOthersSame written old new → (items left : List Answer) → left ≡ filter (λ (it : Answer). not (it.tree == written)) items → All (IsRight old) items → All (IsRight new) left
rights-after written old new others items left is right =
    subst (All (IsRight new)) (sym is) (λ i d short.
    let it = get_or (filter (λ (a : Answer). not (a.tree == written)) items) i d in
    let other : (it.tree == written) ≡ false = not-true (it.tree == written) (filter_passes (λ (a : Answer). not (a.tree == written)) items i d short) in
    right-after written old new others it (eqb-false it.tree written other) (All-filter (λ (a : Answer). not (a.tree == written)) (IsRight old) items right i d short))

-- the answer to a question, as it is kept
pub right-as : (db : Trees) (it : Answer) (tree : ℕ) (sql : List ℕ) (params : Row) (rows : List Row) → IsOf it sql params → it.tree ≡ tree → it.rows.items ≡ rows → IsAnsweredByRows db sql params rows → IsQueryOf tree sql → IsRight db it
right-as db it tree sql params rows of at has answered asks = (
  subst (IsAnsweredByRows db it.sql.items (map bound_value it.params)) (sym has) (subst₂ (λ (text : List ℕ) (given : Row). IsAnsweredByRows db text given rows) (sym of.0) (sym of.1) answered),
  subst₂ IsQueryOf (sym at) (sym of.0) asks,
)

-- ---- which answers are kept

all-unless_full : (P : Answer → Type 0) (kept : List Answer) → All P kept → All P (unless_full kept)
all-unless_full P kept all = elim (leb_tells 32 (length kept)) [
  | inl full ↦ subst (λ (b : Bool). All P (if b then [] else kept)) (sym full.0) (λ i d short. absurd (omega (arith, short)))
  | inr free ↦ subst (λ (b : Bool). All P (if b then [] else kept)) (sym free.0) all
]

pub all-lasting : (P : Answer → Type 0) (kept : List Answer) → All P kept → All P (lasting kept)
all-lasting P kept all = All-filter (λ (it : Answer). lasts it.tree) P kept all

-- those beside which one more is kept have what all have
all-beside : (P : Answer → Type 0) (kept : List Answer) → All P kept → All P (beside kept)
all-beside P kept all = elim (leb_tells 32 (length kept)) [
  | inl full ↦ subst (λ (b : Bool). All P (if b then unless_full (lasting kept) else kept)) (sym full.0) (all-unless_full P (lasting kept) (all-lasting P kept all))
  | inr free ↦ subst (λ (b : Bool). All P (if b then unless_full (lasting kept) else kept)) (sym free.0) all
]

-- one more, if it is put in
pub all-put : (P : Answer → Type 0) (it : Answer) (old new : List Answer) → IsPutIn it old new → P it → All P old → All P new
all-put P it old new put one all = elim put [
  | inl is ↦ subst (All P) (sym is) (All-push P (beside old) it (all-beside P old all) one)
  | inr is ↦ subst (All P) (sym is) (all-beside P old all)
]

-- those that pass a test
pub few-left : (p : Answer → Bool) (items left : List Answer) → left ≡ filter p items → AreFew items → AreFew left
few-left p items left is few = subst AreFew (sym is) (
  omega (arith, length-filter p items, count_by-le-length p items, few.0),
  All-filter p (λ (a : Answer). is_short a.tree (length a.rows.items) ≡ true) items few.1,
)
