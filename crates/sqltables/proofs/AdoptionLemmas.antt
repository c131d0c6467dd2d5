-- A database that is read anew lies in order.
use Rattle.std.proofs.Common.{◌≡◌, ◌⊎◌, ℕ, Bool, true, false, List, [], ◌∷◌, IsTrue, inl, inr, refl, sym, ap, subst, ◌∙◌, true≢false}
use Rattle.sqltables.proofs.Words.{AllByRecursion, catalog_tree, Has, IsClean, IsListed, IsOrdered, IsShaped, IsSound, Table, Trees, View}
use Rattle.sqlite_trees.specs.{declared.store.Shape.Shape, View.{Commits, IsRolledBack, doubt}}
use Rattle.sqlite_trees.specs.declared.store.Shape.TheVariants as shape
use Rattle.sqlite_schema.specs.declared.schema.Schema.{Schema}
use Rattle.sqlite_catalog.proofs.LayoutLemmas.{table_shape}
use Rattle.sqlite.specs.Steps.{IsFresh}

-- what is true of each that is there is true of all
each_there : {X : Type 0} (P : X → Type 0) (xs : List X) → ((x : X) → Has xs x → P x) → AllByRecursion P xs
each_there P [] f = tt
each_there P (x ∷ xs) f = (f x (inl refl), each_there P xs (λ y h. f y (inr h)))

-- each table of a sound schema lies in order where each tree lies as its row of sqlite_schema says
pub lies_in_order : (trees : Trees) (shapes : ℕ → Shape) (reals : ℕ → ℕ) (schema : Schema) → IsListed (trees catalog_tree) shapes reals → IsOrdered shapes trees → IsSound schema trees
    → AllByRecursion (λ (t : Table). IsShaped shape.Table (trees t.tree)) schema.tables
lies_in_order trees shapes reals schema listed ordered sound =
    let objects : IsShaped shape.Table (trees catalog_tree) = subst (λ (s : Shape). IsShaped s (trees catalog_tree)) listed.itself.0 (ordered catalog_tree) in
    each_there (λ (t : Table). IsShaped shape.Table (trees t.tree)) schema.tables
    (λ t h. subst (λ (s : Shape). IsShaped s (trees t.tree)) (table_shape listed objects.0 sound.lists.listed t h).0 (ordered t.tree))

-- a store whose commit passed is fresh
pub fresh_if_committed : (old new : View) → (IsClean old → IsTrue old.is_numbered) → Commits old new → IsClean new → IsFresh new
fresh_if_committed old new numbered done clean =
    let was : IsClean old = ap (λ (v : View). doubt v.is_clean) (sym done.is) ∙ clean in
    record {
      sound = ap (λ (v : View). v.is_broken) done.is ∙ done.sound;
      numbered = ap (λ (v : View). v.is_numbered) done.is ∙ numbered was;
      clean = ap (λ (v : View). v.trees) done.is ∙ sym (ap (λ (v : View). v.committed) done.is);
      unmarked = ap (λ (v : View). v.marks) done.is;
    }

pub open_if_consistent : (is_open is_broken : Bool) → (is_open ≡ false → IsTrue is_broken) → is_broken ≡ false → IsTrue is_open
open_if_consistent true b shut consistent = refl
open_if_consistent false b shut consistent = absurd (true≢false (sym (shut refl) ∙ consistent))

clean_if_open : (clean opened : Bool) → (clean ≡ false → opened ≡ false) → IsTrue opened → doubt clean ≡ 0
unfolding doubt
clean_if_open true opened shut is = refl
clean_if_open false opened shut is = absurd (true≢false (sym is ∙ shut refl))

-- What a crash may leave of a store that goes back to its last commit, and then commits nothing.
module _ (was undone : View) (back : IsRolledBack was undone) (shut : undone.is_open ≡ false → IsTrue undone.is_broken) (dirty : undone.is_clean ≡ false → undone.is_open ≡ false) (may_leave : Trees → Type 0)
    (stays : IsTrue was.is_open → may_leave was.committed) where
  -- it is the last commit, as long as the store is whole
  pub last_commit : undone.is_broken ≡ false → may_leave undone.trees
  last_commit consistent =
      let opened = open_if_consistent undone.is_open undone.is_broken shut consistent in
      let it = back.kept (clean_if_open undone.is_clean undone.is_open dirty opened) in
      subst may_leave (sym (back.undone opened).0) (stays (it.was_open opened))

  pub commit_adds_none : (left_undone left_new : Trees → Type 0) → ((db : Trees) → left_undone db → may_leave db)
      → ((db : Trees) → left_new db → ((undone.is_broken ≡ false) × (db ≡ undone.trees)) ⊎ left_undone db) → (db : Trees) → left_new db → may_leave db
  commit_adds_none left_undone left_new quiet crash db left = elim (crash db left) [
    | inl now ↦ subst may_leave (sym now.1) (last_commit now.0)
    | inr before ↦ quiet db before
  ]
