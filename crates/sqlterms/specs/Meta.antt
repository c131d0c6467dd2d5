-- The one row of meta.
use Rattle.std.specs.Prelude.{Option, slice_get}
use Rattle.sqltables.specs.Content.{Content}
use Rattle.sqltables.specs.declared.meta.MetaRow.{MetaRow}

abbrev pub meta_of : Content → Option MetaRow
meta_of xs = slice_get xs.metas 0
