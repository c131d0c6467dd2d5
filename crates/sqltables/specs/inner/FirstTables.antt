-- The schema before this one, number 1: ten tables, and no end of a line's grace.
use Rattle.std.specs.Prelude.{[], ◌∷◌, codes, ℤ, pos}
use Rattle.sqlite.specs.Table.{Table}
use Rattle.sqlite.specs.Schema.{Schema}
use Rattle.sqlite.specs.Kind.TheVariants.{Integer}
use Rattle.sqlrows.specs.Columns.{filled, nullable}
use Rattle.sqltables.specs.declared.schema.TheConstants.{FIRST_LINE}
use Rattle.sqltables.specs.Tables.{line_with, made_with}

abbrev pub first_line : Table
first_line = line_with (nullable (codes "refunded") Integer ∷ filled (codes "recorded") Integer ∷ [])

abbrev pub first_registry : Schema
first_registry = made_with FIRST_LINE.now first_line

-- its number, which the table `meta` keeps
abbrev pub first_number : ℤ
first_number = pos 1
