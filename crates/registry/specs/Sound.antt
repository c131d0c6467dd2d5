-- That tables of lengths begin one after another has one proof at most, so that a registry may keep it.
use Rattle.std.specs.Prelude.{ℕ, List, [], ◌∷◌}
use mathlib.Core.HLevel.{×_prop, Unit-prop}
use native.Mathlib.Bridge.{le_prop}
use Rattle.policy.specs.declared.schedule.DatedDays.{DatedDays}
use Rattle.policy.specs.Rules.{BeginAfter}

pub BeginAfter-prop : (before : ℕ) (tables : List DatedDays) → IsProp (BeginAfter before tables)
BeginAfter-prop before [] = Unit-prop
BeginAfter-prop before (table ∷ tables) = ×_prop le_prop (BeginAfter-prop table.from tables)
