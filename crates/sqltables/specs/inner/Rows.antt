-- How a row of a table is stored.
use Rattle.std.specs.Prelude.{[], ◌∷◌}
use Rattle.sqlite_value.specs.declared.value.Value.TheVariants.{Null}
use Rattle.sqlite_value.specs.Order.{Row}

-- of what a query shows: its key, NULL in the key's column, and then the others
abbrev pub stored : Row → Row
stored [] = []
stored (key ∷ others) = key ∷ Null ∷ others
