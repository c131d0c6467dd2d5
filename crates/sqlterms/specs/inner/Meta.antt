-- The one row of meta.
use Rattle.calendar.specs.Moment.{IsMoment}
use Rattle.std.specs.Prelude.{◌≡◌, ℕ, pos, List, [], Option, Some, None}
use Rattle.sqlcolumns.specs.Numbers.{moment_column}
use Rattle.model.specs.Registry.{blank}
use Rattle.policy.specs.declared.terms.Terms.{Terms}
use Rattle.sqltables.specs.declared.meta.MetaRow.{MetaRow}

-- ---- written

-- the row of a registry without terms, at the clock of one that was never opened
abbrev pub new_meta : MetaRow
new_meta = record {
  id = pos 1;
  version = pos 2;
  clock = moment_column blank.clock;
  zone = [];
  reserved = [];
  days_add = pos 0;
  days_auto_renew = pos 0;
  days_renew = pos 0;
  days_transfer = pos 0;
  days_redemption = pos 0;
  days_restore = pos 0;
  days_pending_delete = pos 0;
  days_answer = pos 0;
  days_lock = pos 0;
  price_create = pos 0;
  price_renew = pos 0;
  price_transfer = pos 0;
}

abbrev pub meta_or_new : Option MetaRow → MetaRow
meta_or_new None = new_meta
meta_or_new (Some row) = row

-- the row says that it is this moment
abbrev pub IsAt : ℕ → Option MetaRow → Type 0
IsAt m None = ⊥
IsAt m (Some row) = IsMoment m × (row.clock ≡ moment_column m)

abbrev pub with_clock : ℕ → MetaRow → MetaRow
with_clock m row = record row { clock = moment_column m }

-- the terms but for the registrars' ids and for the tables of later lengths, with the reserved labels as
-- one text
abbrev pub with_terms_columns : Terms → List ℕ → MetaRow → MetaRow
with_terms_columns terms labels row = record row {
  zone = terms.zone;
  reserved = labels;
  days_add = pos terms.days.first.add;
  days_auto_renew = pos terms.days.first.auto_renew;
  days_renew = pos terms.days.first.renew;
  days_transfer = pos terms.days.first.transfer;
  days_redemption = pos terms.days.first.redemption;
  days_restore = pos terms.days.first.restore;
  days_pending_delete = pos terms.days.first.pending_delete;
  days_answer = pos terms.days.first.answer;
  days_lock = pos terms.days.first.lock;
  price_create = pos terms.prices.create;
  price_renew = pos terms.prices.renew;
  price_transfer = pos terms.prices.transfer;
}
