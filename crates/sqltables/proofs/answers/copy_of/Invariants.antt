use Rattle.std.proofs.Common.{◌≡◌, map, take}
use Rattle.sqlite_value.specs.Value.{owned}
use Rattle.sqltables.proofs.answers.copy_of.Given as goal

abbrev pub invariant-values : goal.invariant-values
invariant-values l = l.copy ≡ map owned (take l.value-index l.given)
