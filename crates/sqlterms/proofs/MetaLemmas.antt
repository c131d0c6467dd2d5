-- What another row of meta means.
use Rattle.std.proofs.{Common.{◌≡◌, ℕ, List, [], ◌∷◌, Option, Some, None, refl, sym, ap, ◌∙◌, int_cmp}, lemmas.Bool.leb-true}
use Rattle.std.specs.{Prelude.{option_and_then, slice_get}, Cmp.{int_cmp_total, tied_itself}, Option.unwrap_or, Ordering.match_ordering}
use Rattle.std.specs.declared.cmp.Ordering.{Ordering}
use Rattle.sqlite_keyed.specs.Keyed.{insert_by}
use Rattle.calendar.specs.Moment.{IsMoment}
use Rattle.sqlcolumns.specs.Numbers.{moment_column, moment_in_column}
use Rattle.sqlcolumns.proofs.NumberLemmas.{moment_back}
use Rattle.sqlrows.specs.Read.{rows_of}
use Rattle.model.specs.Registry.{blank}
use Rattle.sqltables.specs.{Content.Content, inner.Content.metas_to, Meta.metas, declared.meta.MetaRow.MetaRow, Readiness.may_be_numbered}
use Rattle.sqlterms.specs.{inner.{Changes.IsClockSet, Meta.{IsAt, meta_or_new, new_meta, with_clock}}, Clock.clock_in}
use Rattle.sqlterms.specs.Terms.{lengths_put_down, terms_in}

-- the clock of a moment's column
abbrev clock_back : (m : ℕ) → IsMoment m → unwrap_or (moment_in_column (moment_column m)) blank.clock ≡ m
clock_back m is = ap (λ c. unwrap_or c blank.clock) (moment_back m is)

-- a new row has the clock of a registry that was never opened
pub first_clock : clock_in (Some new_meta) ≡ clock_in None
first_clock = clock_back blank.clock (leb-true 946_684_800 946_684_800 refl, leb-true 946_684_800 7_258_118_399 refl)

insert_one : (o : Option MetaRow) (new : MetaRow) → (meta_or_new o).id ≡ new.id → insert_by metas.key (rows_of o) new ≡ new ∷ []
insert_one None new e = refl
insert_one (Some row) new e =
    ap (λ (r : Ordering). match_ordering r (row ∷ new ∷ []) (new ∷ []) (new ∷ row ∷ [])) (ap (int_cmp row.id) (sym e) ∙ tied_itself int_cmp_total row.id)

module _ (xs : Content) (o : Option MetaRow) (is : xs.metas ≡ rows_of o) where
  -- the clock stands there already
  pub clock_is_there : (m : ℕ) → IsAt m o → IsClockSet m xs xs
  clock_is_there m at = record { clock = ap (λ rows. clock_in (slice_get rows 0)) is ∙ go o at; terms = refl; days = refl; numbered = refl; others = refl }
    where
      go : (o : Option MetaRow) → IsAt m o → clock_in (slice_get (rows_of o) 0) ≡ m
      go None at = absurd at
      go (Some row) at = ap (λ c. unwrap_or (moment_in_column c) blank.clock) at.1 ∙ clock_back m at.0

  -- a row is put that is another in some columns
  module _ (change : MetaRow → MetaRow) (ids : (row : MetaRow) → (change row).id ≡ row.id) (new : MetaRow) (e : new ≡ change (meta_or_new o)) where
    one_meta : insert_by metas.key xs.metas new ≡ new ∷ []
    one_meta = ap (λ rows. insert_by metas.key rows new) is ∙ insert_one o new (sym (ids (meta_or_new o)) ∙ ap (λ (row : MetaRow). row.id) (sym e))

    -- what hangs on no such column, and is the same of a new row as of none, stays
    pub stays_with : {A : Type 0} (f : List MetaRow → A) → ((row : MetaRow) → f (change row ∷ []) ≡ f (row ∷ [])) → f (new_meta ∷ []) ≡ f [] → f (insert_by metas.key xs.metas new) ≡ f xs.metas
    stays_with f others none = ap f one_meta ∙ ap (λ (row : MetaRow). f (row ∷ [])) e ∙ others (meta_or_new o) ∙ go o ∙ ap f (sym is)
      where
        go : (o : Option MetaRow) → f (meta_or_new o ∷ []) ≡ f (rows_of o)
        go None = none
        go (Some row) = refl

  -- the clock is another, and the terms aren't
  pub clock_is_set : (m : ℕ) (new : MetaRow) → IsMoment m → new ≡ with_clock m (meta_or_new o) → IsClockSet m xs (metas_to (λ rows. insert_by metas.key rows new) xs)
  clock_is_set m new range e = record {
    clock = ap (λ rows. clock_in (slice_get rows 0)) (one_meta (with_clock m) (λ row. refl) new e) ∙ ap (λ (row : MetaRow). clock_in (Some row)) e ∙ clock_back m range;
    terms = stays_with (with_clock m) (λ row. refl) new e (λ rows. terms_in (slice_get rows 0) xs.days xs.accounts) (λ row. refl) refl;
    days = stays_with (with_clock m) (λ row. refl) new e (λ rows. option_and_then (lengths_put_down xs.days) (slice_get rows 0)) (λ row. refl) refl;
    numbered = stays_with (with_clock m) (λ row. refl) new e may_be_numbered (λ row. refl) refl;
    others = refl;
  }
