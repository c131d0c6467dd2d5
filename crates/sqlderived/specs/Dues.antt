-- When domains are due, by the rows.
use Rattle.std.specs.Prelude.{pos, Bool, true, false}
use Rattle.std.specs.List.{list_all}
use Rattle.std.specs.Option.{option_map_or}
use Rattle.std.specs.Ordering.{int_eq}
use Rattle.calendar.specs.Moment.{capped}
use Rattle.lifecycle.specs.Lapse.{due_at}
use Rattle.lifecycle.specs.Periods.{rules_with}
use Rattle.policy.specs.declared.schedule.Schedule.{Schedule}
use Rattle.sqltables.specs.Content.{Content}
use Rattle.sqltables.specs.declared.domain.DomainRow.{DomainRow}
use Rattle.sqldomains.specs.Domains.{domain_read}
use Rattle.sqlterms.specs.Terms.{days_of_rows}

-- the row reads, and its column is the moment when time next changes the domain, or the last one where that lies past it
abbrev pub is_due_right : Schedule → Content → DomainRow → Bool
is_due_right days xs row =
    option_map_or (λ d. int_eq row.due (pos (capped (due_at (rules_with days) d)))) (domain_read xs row) false

-- the same by the days that were put down, if they were
abbrev pub has_right_due : Content → DomainRow → Bool
has_right_due xs row = option_map_or (λ days. is_due_right days xs row) (days_of_rows xs) true

abbrev pub dues_are_right : Content → Bool
dues_are_right xs = list_all (has_right_due xs) xs.domains
