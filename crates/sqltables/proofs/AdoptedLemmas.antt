-- What a store of rows is over a database that was read anew.
use Rattle.std.proofs.Common.{◌≡◌, ◌&&◌, inl, Bool, true, false, [], ◌∷◌, length, map, IsTrue, refl, sym, ap, subst, ◌∙◌, true≢false, arith}
use Rattle.sqltables.proofs.Words.{Bears, catalog_tree, Content, contents, cut, Database, Fits, Form, Guards, HasCleanDisk, HoldsRows}
use Rattle.sqltables.proofs.Words.{is_numbered, IsFormOf, IsFound, IsKnownAs, IsLeftAs, IsSeenBy, IsShapedAs, IsShown, IsSound, left_in, Made}
use Rattle.sqltables.proofs.Words.{Making, no_schema, readiness_of, registry, rows_in, State, StateOf, store_state, Trees, undone, Unused}
use Rattle.sqltables.proofs.{SoundLemmas.content_of_sound, StandingLemmas.{both, honest}}
use Rattle.sqlite_schema.specs.declared.schema.Schema.{Schema}
use Rattle.sqlite_catalog.proofs.ReadLemmas.{reads, read_once}
use Rattle.sqltables.specs.declared.form.Form.TheVariants.{Other}
use Rattle.states.specs.declared.readiness.Ready.{Ready, TheVariants.Used}
use Rattle.states.specs.declared.readiness.Ready.TheVariants as readiness

-- the rows of sqlite_schema tell the schema
pub schema_once : (db : Trees) (s t : Schema) → IsSound s db → IsSound t db → s ≡ t
schema_once db s t first second =
    let one = reads (db catalog_tree) s first.lists in
    let two = reads (db catalog_tree) t second.lists in
    read_once (map cut (db catalog_tree)) s t one.tables one.indexes one.views two

pub some-tables : registry ≡ no_schema → ⊥
some-tables e = let n : length registry.tables ≡ 0 = ap (λ (s : Schema). length s.tables) e in absurd cc

unmade : (form : Form) (schema : Schema) → IsFormOf schema form → undone form ≡ form
unmade form schema is = grind arith

left_as : (form : Form) (db : Database) → IsFormOf db.schema form → IsSound db.schema db.trees → IsLeftAs (readiness_of form) db.trees (rows_in form db.trees)
left_as Unused db is sound = (subst (λ (s : Schema). IsSound s db.trees) is sound, refl)
left_as Making db is sound = absurd is
left_as Made db is sound = (subst (λ (s : Schema). IsSound s db.trees) is sound, refl)
left_as Other db is sound = (((λ none. is.0 (schema_once db.trees db.schema no_schema sound none)), λ ours. absurd (is.1 (schema_once db.trees db.schema registry sound ours))), refl)

module _ (s : State) (found : IsFound s) where
  bears_found : (form : Form) → IsFormOf s.now.schema form → HasCleanDisk s → Bears form s.now s.committed
  bears_found Unused is clean = (is, ap (λ (db : Database). db.schema) (sym (found clean).0.clean) ∙ is)
  bears_found Making is clean = absurd is
  bears_found Made is clean =
      let it = found clean in
      let held = content_of_sound s.now it.1 is it.2 in
      (held, subst HoldsRows it.0.clean held)
  bears_found Other is clean = tt

  pub fits_found : (form : Form) → IsFormOf s.now.schema form → Fits form false s
  fits_found form is clean opened =
      let it = (found clean).0 in
      record { mode = it.autocommit; bears = bears_found form is clean; settled = λ _. it.clean; making = λ _. unmade form s.now.schema is }

  -- what is found may be left, and nothing else
  pub guards_found : (form : Form) → IsFormOf s.now.schema form → ((db : Trees) → IsTrue s.is_open → s.may_leave db → db ≡ s.committed.trees) → Guards false s (left_in form s ∷ [])
  guards_found form is settled = record {
    opened = λ clean e. absurd (true≢false (sym e));
    covers = λ clean db may.
        let it = found clean in
        let same : s.now.trees ≡ db = ap (λ (d : Database). d.trees) it.0.clean ∙ sym (settled db it.0.is_open may) in
        (left_in form s, inl refl, subst (λ (d : Trees). IsLeftAs (readiness_of form) d (rows_in form s.now.trees)) same (left_as form s.now is it.1));
  }

seen : (form : Form) (schema : Schema) (db trees : Trees) → IsFormOf schema form → db ≡ trees → IsSeenBy (readiness_of form) trees (rows_in form db)
seen form schema db trees is e = grind arith

shaped : (form : Form) (schema : Schema) (trees : Trees) → IsFormOf schema form → IsSound schema trees → IsShapedAs (readiness_of form) trees
shaped Unused schema trees is sound = subst (λ (s : Schema). IsSound s trees) is sound
shaped Making schema trees is sound = absurd is
shaped Made schema trees is sound = subst (λ (s : Schema). IsSound s trees) is sound
shaped Other schema trees is sound = ((λ other. is.0 (schema_once trees schema no_schema sound other)), λ other. is.1 (schema_once trees schema registry sound other))

pub shown : (s : State) (form : Form) (trees : Trees) → IsFound s → IsFormOf s.now.schema form → (HasCleanDisk s → s.now.trees ≡ trees) → IsShown trees (store_state form false s (left_in form s ∷ []))
shown s form trees found is same = record {
  idle = refl;
  before = refl;
  content = λ e. seen form s.now.schema s.now.trees trees is (same ((both s e).0));
  known = λ e.
      let clean = (both s e).0 in
      shaped form s.now.schema trees is (subst (λ (d : Trees). IsSound s.now.schema d) (same clean) (found clean).1);
  answers = λ e. ap (λ (b : Bool). b && s.is_open) e ∙ (found (honest s e)).0.is_open;
  leaves = λ e. refl;
}

-- what has other tables is something else's
pub found-other : (s : State) (form : Form) → IsFound s → IsFormOf s.now.schema form → form ≡ Other → HasCleanDisk s → IsKnownAs readiness.Other s.now.trees
found-other s form found is other clean = (left_as Other s.now (subst (IsFormOf s.now.schema) other is) (found clean).1).0

-- a database with the tables of a registry
module _ (trees : Trees) (was : StateOf Content) (shown-as : IsShown trees was) (used : was.readiness ≡ Used) where
  sound-tables : was.is_clean ≡ true → IsSound registry trees
  sound-tables clean = subst (λ (r : Ready). IsShapedAs r trees) used (shown-as.known clean)

  rows-seen : was.is_clean ≡ true → was.content ≡ contents trees
  rows-seen clean = subst (λ (r : Ready). IsSeenBy r trees was.content) used (shown-as.content clean)

  -- where the number is another, it is no registry of this program
  pub known-other : was.is_clean ≡ true → is_numbered was.content.metas ≡ false → IsKnownAs readiness.Other trees
  known-other clean numbered = (
    (λ none. some-tables (schema_once trees registry no_schema (sound-tables clean) none)),
    λ ours. ap (λ (xs : Content). is_numbered xs.metas) (sym (rows-seen clean)) ∙ numbered,
  )
