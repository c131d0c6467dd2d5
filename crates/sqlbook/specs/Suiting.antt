-- Which days may be put down, and what is then.
use Rattle.std.specs.Prelude.{◌≡◌, ◌⊎◌, ⊤, true, Option, Some, None}
use Rattle.policy.specs.declared.schedule.Schedule.{Schedule}
use Rattle.sqltables.specs.Content.{Content}
use Rattle.sqlderived.specs.Redates.{ends_are}

-- where other days are put down than were, each deleted domain's row says when it is purged by these
abbrev pub AreRedated : Option Schedule → Schedule → Content → Type 0
AreRedated None days new = ⊤
AreRedated (Some before) days new = (before ≡ days) ⊎ (ends_are days new ≡ true)
