-- Which days may be put down, and what is then.
use Rattle.std.specs.Prelude.{◌≡◌, ◌⊎◌, ◌&&◌, Bool, [], Option, Some}
use Rattle.std.specs.List.{list_all}
use Rattle.policy.specs.declared.schedule.Schedule.{Schedule}
use Rattle.policy.specs.declared.terms.Terms.{Terms}
use Rattle.books.specs.Book.{with_terms}
use Rattle.sqltables.specs.Content.{Content}
use Rattle.sqltables.specs.declared.domain.DomainRow.{DomainRow}
use Rattle.sqltables.specs.Readiness.{may_be_numbered}
use Rattle.sqlaccounts.specs.Accounts.{sums_are_right}
use Rattle.sqlderived.specs.Held.{helds_are_right}
use Rattle.sqlderived.specs.Redates.{is_live_right}
use Rattle.sqlobjects.specs.Sponsors.{sponsors_are_right}
use Rattle.sqlterms.specs.Terms.{days_of_rows}
use Rattle.sqlbook.specs.Meaning.{are_right, stored_of}
use Rattle.sqlbook.specs.Suiting.{AreRedated}

-- those that were, or any where no domain is there
abbrev pub SuitDomains : Schedule → Content → Type 0
SuitDomains days xs = (days_of_rows xs ≡ Some days) ⊎ (xs.domains ≡ [])

-- all sums are right, and of the rows of domains this
abbrev pub are_right_by : (Content → DomainRow → Bool) → Content → Bool
are_right_by right xs =
    may_be_numbered xs.metas
    && (sums_are_right xs && (helds_are_right xs && (list_all (right xs) xs.domains && sponsors_are_right xs)))

-- rows mean the same, and their sums are as right, but for when deleted domains are due
pub record MeansSame (old new : Content) : Type 0 where
  pub stored : stored_of new ≡ stored_of old
  pub sums : are_right_by is_live_right new ≡ are_right_by is_live_right old
  pub days : days_of_rows new ≡ days_of_rows old
  pub lines : new.lines ≡ old.lines

-- terms were put down
pub record IsSetDown (value : Terms) (old new : Content) : Type 0 where
  pub stored : stored_of new ≡ with_terms value (stored_of old)
  pub sums : are_right new ≡ are_right old
  pub days : days_of_rows new ≡ Some value.days
  pub lines : new.lines ≡ old.lines

-- the same, with what was put down before
pub record IsSetOver (before : Option Schedule) (value : Terms) (old new : Content) : Type 0 where
  pub set : IsSetDown value old new
  pub ends : AreRedated before value.days new
