-- When deleted domains are due: when they are purged.
use Rattle.std.specs.Prelude.{ℕ, ◌==◌, ◌||◌, pos, Bool, true, false, is_some, List, filter, map, Option, Some, None}
use Rattle.std.specs.List.{list_all}
use Rattle.std.specs.Option.{option_map_or}
use Rattle.std.specs.Ordering.{int_eq}
use Rattle.calendar.specs.Moment.{capped}
use Rattle.sqlcolumns.specs.Domains.{deletion_in}
use Rattle.sqlcolumns.specs.Numbers.{moment_in_column}
use Rattle.lifecycle.specs.Lapse.{completes_at, earlier}
use Rattle.lifecycle.specs.Periods.{rules_with}
use Rattle.lifecycle.specs.Phases.{purge_at}
use Rattle.objects.specs.Domains.{expiry}
use Rattle.objects.specs.declared.domain.Deletion.{Deletion}
use Rattle.objects.specs.declared.domain.Domain as object
use Rattle.policy.specs.declared.schedule.Schedule.{Schedule}
use Rattle.sqltables.specs.Content.{Content}
use Rattle.sqltables.specs.declared.domain.DomainRow.{DomainRow}
use Rattle.sqldomains.specs.Domains.{domain_read}

-- what is asked of the column of a deleted domain, by its deletion; of another nothing is
abbrev pub of_deletion : (Deletion → Bool) → Option (Option Deletion) → Bool
of_deletion asked None = true
of_deletion asked (Some None) = true
of_deletion asked (Some (Some x)) = asked x

-- the column of a deleted domain is the moment when it is purged, or the last one where that lies past it
abbrev pub is_end : Schedule → DomainRow → Bool
is_end days row =
    of_deletion (λ x. int_eq row.due (pos (capped (purge_at (rules_with days) x))))
    (deletion_in row.deleted row.restore_requested)

-- every deleted domain's column is the end of its deletion
abbrev pub ends_are : Schedule → Content → Bool
ends_are days xs = list_all (is_end days) xs.domains

-- what is checked, exactly: the column is a moment, and of a deleted domain it is that one
abbrev pub is_timed : Schedule → DomainRow → Bool
is_timed days row =
    option_map_or (λ due. of_deletion (λ x. due == capped (purge_at (rules_with days) x)) (deletion_in row.deleted row.restore_requested))
    (moment_in_column row.due) false

-- ---- which domains are right by any lengths

-- The row reads. Its column is when the domain is due, if that isn't deleted: then no length bears on it.
abbrev pub is_live_right : Content → DomainRow → Bool
is_live_right xs row =
    option_map_or (λ (d : object.Domain). is_some d.deletion || int_eq row.due (pos (capped (earlier (expiry d) (completes_at d.transfer)))))
    (domain_read xs row) false

abbrev pub lives_are_right : Content → Bool
lives_are_right xs = list_all (is_live_right xs) xs.domains

-- ---- which domains are deleted

abbrev pub is_deleted : DomainRow → Bool
is_deleted row = is_some row.deleted

-- the names of deleted domains, by their rows
abbrev pub deleted_names : List DomainRow → List (List ℕ)
deleted_names rows = map (λ row. row.name) (filter is_deleted rows)
