-- The words that many proofs name, from one place.
pub use Rattle.sqlite.proofs.Callers.{never_commits, one_permutation, one_step, runs_as}
pub use Rattle.sqlite.proofs.StateLemmas.{survives_then, survives_weaker}
pub use Rattle.sqlite.specs.Does.{Concludes, Does, Tally, lacks_sequence}
pub use Rattle.sqlite.specs.Effect.{Database, is_query}
pub use Rattle.sqlite.specs.Held.{state}
pub use Rattle.sqlite.specs.Listing.{understood}
pub use Rattle.sqlite.specs.Rows.{Deletes, Edited, Inserts, Task, Updates, Written, count_of, last_id, rowids_for}
pub use Rattle.sqlite.specs.State.{CommitsBy, Executes, HasCleanDisk, IsRolledBack, Shows, State, Survives, mode_of, shows_rows, text_of}
pub use Rattle.sqlite.specs.declared.error.Error.{Error}
pub use Rattle.sqlite_keyed.proofs.KeyedLemmas.{IsKeyedBy-delete_where, IsKeyedBy-insert_by, IsKeyedBy-update_where, Less-from_lt, lt_from_Less, same_int}
pub use Rattle.sqlite_keyed.proofs.ListLemmas.{all_weaker, ascending-map, ascending_weaker, map-map, map_same}
pub use Rattle.sqlite_keyed.specs.Keyed.{IsKeyedBy, get_by, insert_by, next_key}
pub use Rattle.sqlite_keyed.specs.Lists.{delete_where, sort_by, update_where, without_key}
pub use Rattle.sqlite_resolve.specs.declared.compiled.Compiled.{Compiled}
pub use Rattle.sqlite_resolve.specs.declared.error.CompileError.{CompileError}
pub use Rattle.sqlite_rules.specs.Calls.{ids_of}
pub use Rattle.sqlite_rules.specs.Cast.{cast, cast_row}
pub use Rattle.sqlite_rules.specs.Edit.{Applies, Edit, edit_of, edited, id_in, next_rowid, numbered as with_rowids, with_rowid, without_all}
pub use Rattle.sqlite_rules.specs.Lists.{Has}
pub use Rattle.sqlite_rules.specs.declared.error.Rowids.TheVariants.{Above, Chosen, Given}
pub use Rattle.sqlite_schema.specs.declared.command.Command.{Command}
pub use Rattle.sqlite_schema.specs.declared.command.Command.TheVariants.{Begin, Commit, CreateIndex, CreateTable, Delete, Insert, InsertOr, Rollback, Update}
pub use Rattle.sqlite_schema.specs.declared.command.Returning.{Returning}
pub use Rattle.sqlite_schema.specs.declared.schema.Schema.{Schema}
pub use Rattle.sqlite_schema.specs.declared.schema.Table.{Table}
pub use Rattle.sqlite_sql.specs.Term.{Term, col, eval_all, holds, op2}
pub use Rattle.sqlite_trees.specs.Tree.{IsAscending, Trees, put_row, rowid, without_rowid}
pub use Rattle.sqlite_typed.proofs.RowLemmas.{deletes-map, puts-map}
pub use Rattle.sqlite_value.specs.Order.{Row, value_cmp}
pub use Rattle.sqlite_value.specs.declared.value.Value.TheVariants.{Int, Null, Text}
pub use Rattle.sqlrows.specs.Layouts.{Layout}
pub use Rattle.sqlrows.specs.Read.{first_read, named, or_else, rows_of}
pub use Rattle.sqlrows.specs.inner.Calls.{ForgetsNoFault, LeavesOnly, StaysOpen, StaysOrUndoes}
pub use Rattle.sqlrows.specs.inner.Definitions.{Defines, DefinesAll, IsBlank, IsIndex, IsUndone, statement_of}
pub use Rattle.sqlrows.specs.inner.Layouts.{Gives, Holds, IsAppend, IsDelete, IsPut, IsUpdate, Leads, Listed, Numbers, Renews, Sets, appended, chosen_query, command_of, steady, writes_tables}
pub use Rattle.std.proofs.lemmas.Int.{ints}
pub use Rattle.std.proofs.lemmas.List.Sorted.{IsPermutation-map, list_any-IsPermutation}
pub use Rattle.std.proofs.lemmas.Result.{IfOk-from_err, MatchResult-from_err}
pub use Rattle.std.specs.List.{AllByRecursion, cons_option, filter_map, flat_map, list_all, list_any, take-map}
pub use Rattle.std.specs.Ordering.{eq_by_cmp, is_eq, match_ordering, nat_cmp, ordering_reverse}
