use Rattle.std.proofs.Common.{◌≡◌, true, drop, not}
use Rattle.std.specs.List.{list_any}
use Rattle.states.specs.States.{Reads}
use Rattle.books.specs.Lookups.{has_contact}
use Rattle.books.proofs.finding.lacks_contacts.Given as goal

abbrev pub invariant-loop-name : goal.invariant-loop-name
invariant-loop-name g l =
    Reads (g.R.Records.kept l.fn.records) (g.R.Records.kept l.records)
    × ((g.R.Records.kept l.records).is_clean ≡ true → list_any (λ name. not (has_contact (g.R.Records.kept l.fn.records).content.registry name)) (drop l.name-index l.names) ≡ list_any (λ name. not (has_contact (g.R.Records.kept l.fn.records).content.registry name)) l.names)
