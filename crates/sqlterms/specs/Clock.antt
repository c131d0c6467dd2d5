-- The registry's clock.
use Rattle.std.specs.Prelude.{ℕ, Option, Some, None}
use Rattle.std.specs.Option.{unwrap_or}
use Rattle.sqlcolumns.specs.Numbers.{moment_in_column}
use Rattle.model.specs.Registry.{blank}
use Rattle.sqltables.specs.Content.{Content}
use Rattle.sqltables.specs.declared.meta.MetaRow.{MetaRow}
use Rattle.sqlterms.specs.Meta.{meta_of}

-- that of the row, and that of a registry that was never opened where there is none
abbrev pub clock_in : Option MetaRow → ℕ
clock_in None = blank.clock
clock_in (Some row) = unwrap_or (moment_in_column row.clock) blank.clock

abbrev pub clock_of : Content → ℕ
clock_of xs = clock_in (meta_of xs)
