-- Where no foreign key has an action, a write sets nothing off.
use Rattle.std.proofs.Common.{◌≡◌, ◌&&◌, ◌++◌, ◌==◌, ℕ, Bool, true, false, cond, List, [], ◌∷◌, length, None, refl, sym, ap, ap₂, true≢false}
use Rattle.std.proofs.lemmas.Bool.{and_parts}
use Rattle.sqlrows.proofs.Words.{cons_option, filter_map, flat_map, list_all, Row, Schema, Table}
use Rattle.sqlite_schema.specs.declared.schema.{Action.{Action, TheVariants.NoAction}, Reference.Reference, Keys.TheVariants.Enforced}
use Rattle.sqlite_schema.specs.Rules.{parent_key}
use Rattle.sqlite_rules.specs.Action.{works, work_by, pairs, work_for, deed_of, deed_for}

abbrev pub is_idle : Action → Bool
is_idle NoAction = true
is_idle _ = false

abbrev pub refers_idly : Reference → Bool
refers_idly ref = is_idle ref.on_delete && is_idle ref.on_update

no_deed : (deletes : Bool) (a : Action) → is_idle a ≡ true → deed_of Enforced deletes a ≡ None
no_deed deletes NoAction h = refl
no_deed deletes _ h = absurd (true≢false (sym h))

idle_either : (b : Bool) (ref : Reference) → refers_idly ref ≡ true → is_idle (cond b ref.on_delete ref.on_update) ≡ true
idle_either true ref h = (and_parts _ _ h).0
idle_either false ref h = (and_parts _ _ h).1

module _ (schema : Schema) (tree : ℕ) (olds news : List Row) where
  of_table : (child : Table) (refs : List Reference) → list_all refers_idly refs ≡ true → filter_map (work_for schema Enforced 0 tree olds news child) refs ≡ []
  of_table child [] h = refl
  of_table child (ref ∷ refs) h =
      let none : deed_for Enforced (length news == 0) ref ≡ None = no_deed (length news == 0) _ (idle_either (length news == 0) ref (and_parts _ _ h).0) in
      ap₂ cons_option (ap (λ d. work_by 0 tree (pairs olds news) child ref d (parent_key schema.tables ref)) none) (of_table child refs (and_parts _ _ h).1)

  of_tables : (tables : List Table) → list_all (λ t. list_all refers_idly t.references) tables ≡ true → flat_map (λ child. filter_map (work_for schema Enforced 0 tree olds news child) child.references) tables ≡ []
  of_tables [] h = refl
  of_tables (t ∷ tables) h = ap₂ ◌++◌ (of_table t t.references (and_parts _ _ h).0) (of_tables tables (and_parts _ _ h).1)

pub quiet_if_idle : (schema : Schema) → list_all (λ t. list_all refers_idly t.references) schema.tables ≡ true → (tree : ℕ) (olds news : List Row) → works schema Enforced 0 tree olds news ≡ []
quiet_if_idle schema h tree olds news = of_tables schema tree olds news schema.tables h
