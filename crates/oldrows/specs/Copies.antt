-- Rows that are copied.
use Rattle.sqltables.specs.Tables.{schema_number}
use Rattle.sqltables.specs.declared.meta.MetaRow.{MetaRow}

-- the row of `meta` with the number of today's schema
abbrev pub renumbered : MetaRow → MetaRow
renumbered row = record row { version = schema_number }
