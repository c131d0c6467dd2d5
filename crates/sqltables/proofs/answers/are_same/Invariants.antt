use Rattle.std.proofs.Common.{◌≡◌, map, take}
use Rattle.sqlite_value.specs.Value.{owned}
use Rattle.sqltables.proofs.answers.are_same.Given as goal

abbrev pub invariant-values : goal.invariant-values
invariant-values l = take l.at l.kept ≡ map owned (take l.at l.given)
