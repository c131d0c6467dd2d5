-- Other terms.
use Rattle.std.proofs.Common.{◌≡◌, ℕ, ◌==◌, Bool, true, false, cond, length, List, Option, Some, None, refl, ap, ◌∙◌}
use Rattle.std.specs.Prelude.{option_and_then, slice_get}
use Rattle.basis.specs.Sets.{Names}
use Rattle.policy.specs.declared.{prices.Prices.Prices, schedule.Schedule.Schedule, terms.Terms.Terms}
use Rattle.sqltables.specs.{declared.{account.AccountRow.AccountRow, day.DayRow.DayRow}, Content.Content, inner.Content.metas_to}
use Rattle.sqltables.specs.{Meta.metas, declared.meta.MetaRow.MetaRow, Readiness.may_be_numbered}
use Rattle.sqlterms.specs.{Meta.meta_of, Terms.{ids_in, lengths_put_down, prices_in, reserved_in, schedule_in, terms_in, terms_made}}
use Rattle.sqlterms.specs.{inner.{Changes.{ArePutBeside, IsTermsSet}, Meta.{meta_or_new, with_terms_columns}}, Clock.clock_in}
use Rattle.sqlterms.specs.Terms.{terms_of_rows}
use Rattle.sqlite_keyed.specs.Keyed.{insert_by}
use Rattle.sqlrows.specs.Read.{rows_of}
use Rattle.sqlterms.proofs.{MetaLemmas.{first_clock, stays_with}, NameLemmas.{same_accounts, same_sums}}

-- the days of terms that were put down are those in the row
made-days : (none : Bool) (zone : List ℕ) (reserved : Names) (days : Option Schedule) (prices : Option Prices) (ids : Option (List (List ℕ))) (value : Terms)
    → cond none None (terms_made zone reserved days prices ids) ≡ Some value → cond none None days ≡ Some value.days
made-days true zone reserved days prices ids value e = cc
made-days false zone reserved (Some days) (Some prices) (Some ids) value e = cc
made-days false zone reserved (Some days) (Some prices) None value e = cc
made-days false zone reserved (Some days) None ids value e = cc
made-days false zone reserved None prices ids value e = cc

terms-days : (o : Option MetaRow) (tables : List DayRow) (accounts : List AccountRow) (value : Terms) → terms_in o tables accounts ≡ Some value → option_and_then (lengths_put_down tables) o ≡ Some value.days
terms-days None tables accounts value e = cc
terms-days (Some row) tables accounts value e = made-days (length row.zone == 0) row.zone (reserved_in row.reserved) (schedule_in row tables) (prices_in row) (ids_in accounts) value e

-- the row of meta is put, and then the tables of lengths and the accounts' idents
pub terms_are_set : (xs ys : Content) (o : Option MetaRow) (value : Terms) (labels : List ℕ) (new : MetaRow)
    → xs.metas ≡ rows_of o → new ≡ with_terms_columns value labels (meta_or_new o)
    → ArePutBeside (metas_to (λ rows. insert_by metas.key rows new) xs) ys → terms_of_rows ys ≡ Some value → IsTermsSet value xs ys
terms_are_set xs ys o value labels new is written beside read =
    let rest = beside.others in
    record {
      terms = read;
      days = terms-days (meta_of ys) ys.days ys.accounts value read;
      clock = ap (λ (s : Content). clock_in (slice_get s.metas 0)) rest ∙ stays_with xs o is (with_terms_columns value labels) (λ row. refl) new written (λ rows. clock_in (slice_get rows 0)) (λ row. refl) first_clock;
      accounts = same_accounts xs ys beside.rows (ap (λ (s : Content). s.lines) rest) (ap (λ (s : Content). s.messages) rest);
      sums = same_sums xs ys beside.rows (ap (λ (s : Content). s.lines) rest) (ap (λ (s : Content). s.messages) rest);
      rows = beside.rows;
      numbered = ap (λ (s : Content). may_be_numbered s.metas) rest ∙ stays_with xs o is (with_terms_columns value labels) (λ row. refl) new written may_be_numbered (λ row. refl) refl;
      others = ap (λ (s : Content). record s { metas = xs.metas }) rest;
    }

-- terms that are there already are set
pub terms_are_there : (xs : Content) (value : Terms) → terms_of_rows xs ≡ Some value → IsTermsSet value xs xs
terms_are_there xs value read = record {
  terms = read;
  days = terms-days (meta_of xs) xs.days xs.accounts value read;
  clock = refl;
  accounts = refl;
  sums = refl;
  rows = refl;
  numbered = refl;
  others = refl;
}
