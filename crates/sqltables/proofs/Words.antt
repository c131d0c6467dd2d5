-- The words that many proofs name, from one place.
pub use Rattle.sqlite.proofs.Callers.{reads_as, runs_as, statement_of}
pub use Rattle.sqlite.specs.{Effect.{Database, IsDatabase}, Held.state, Listing.understood}
pub use Rattle.sqlite.specs.State.{CommitsBy, CommitsShowing, Executes, FailsToQuery, HasCleanDisk, IsLive, IsNotRun, IsUnchanged, Opens, Runs, Shown, Shows, State, Survives, mode_of}
pub use Rattle.sqlite.specs.{Values.{bound, bound_value}, declared.error.Error.Error}
pub use Rattle.sqlite_catalog.specs.Listing.{IsSound, cut}
pub use Rattle.sqlite_keyed.proofs.KeyedLemmas.{IsKeyedBy-insert_by, lt_from_Less, same_int}
pub use Rattle.sqlite_keyed.proofs.ListLemmas.{all_both, all_from_test, all_map, all_of, all_unmap, all_weaker, filter_all, map_back, none_from_any}
pub use Rattle.sqlite_keyed.specs.{Keyed.{IsKeyedBy, insert_by, next_key}, Lists.{delete_where, sort_by, update_where}}
pub use Rattle.sqlite_rules.specs.Lists.{Has}
pub use Rattle.sqlite_schema.specs.declared.{command.Command.TheVariants.Select, schema.Table.Table}
pub use Rattle.sqlite_sql.specs.{Ops.{binary, is_null}, Program.overlay}
pub use Rattle.sqlite_sql.specs.Query.{IsAnswer, Output, Query, as_count, end, inner, limited, matches_as, output, output_cmp}
pub use Rattle.sqlite_sql.specs.{Term.{Env, Term, col, eval, eval_all, holds, lit, op2}, declared.ops.BinaryOp.TheVariants.{Compare, Is}}
pub use Rattle.sqlite_sql.specs.declared.ops.CompareOp.TheVariants.{Eq, Ge, Gt, Le}
pub use Rattle.sqlite_trees.specs.{Objects.{IsListed, catalog_tree}, Tree.{Trees, rowid}, View.{IsClean, IsOrdered, IsShaped, View, is_int}}
pub use Rattle.sqlite_typed.proofs.TestLemmas.{at_ints, at_is_null, at_nullable, at_points_to, at_texts, last_key, last_term, then_key, then_term, truth_or}
pub use Rattle.sqlite_typed.specs.{Columns.{bytes_of, int_of, or_null, unless_null}, Tests.{bytes_eq, if_both}}
pub use Rattle.sqlite_value.proofs.OrderLemmas.{value_cmp-Int, value_cmp-Null, value_cmp-Text}
pub use Rattle.sqlite_value.specs.{Order.{Row, column, value_cmp}, Value.owned, declared.keys.Collation.TheVariants.Binary}
pub use Rattle.sqlite_value.specs.declared.value.Value.{Value, TheVariants.{Blob, Int, Null, Real, Text}}
pub use Rattle.sqlrows.proofs.SelectLemmas.{limits, overlay_none, same_command, selects, sorts, value_cmp-maybe_int}
pub use Rattle.sqlrows.proofs.SoundLemmas.{executed_open, not_queried_open, queried_open, was_open}
pub use Rattle.sqlrows.proofs.StandLemmas.{commits_later, commits_nothing, not_run, same_if_shown, stands_if_not_executed, stands_if_not_shown, stays_if_executed}
pub use Rattle.sqlrows.proofs.TransactionLemmas.{began, begin_leaves, commit_leaves, ended}
pub use Rattle.sqlrows.specs.{Columns.{filled, id_column, no_schema, nullable}, Layouts.Layout, inner.Calls.StaysOrUndoes}
pub use Rattle.sqlrows.specs.inner.Definitions.{DefinesAll, IsBlank, IsIndex, IsUndone}
pub use Rattle.sqlrows.specs.inner.Layouts.{Holds, IsSelect, IsUpdate, Leads, Listed, Sets, appended, by_then_key, command_of, select_query, writes_tables}
pub use Rattle.sqltables.specs.Account.{AccountRow, account_shown, account_with_id, accounts}
pub use Rattle.sqltables.specs.Address.{AddressRow, address_shown, address_with_host, addresses}
pub use Rattle.sqltables.specs.Adoption.{IsAdopted, IsFound, IsInOrder, IsSameRegistry, IsTakenAs}
pub use Rattle.sqltables.specs.{Contact.{ContactRow, contact_shown, contact_with_id, contacts}, Content.{Content, no_content}}
pub use Rattle.sqltables.specs.{Day.{DayRow, day_shown}, Decoding.contents, Domain.{DomainRow, domain_shown, domain_with_id, domains}}
pub use Rattle.sqltables.specs.Host.{HostRow, host_shown, host_takes_sponsor, host_with_above, host_with_id, host_with_name, hosts}
pub use Rattle.sqltables.specs.Line.{LineRow, line_of_object, line_shown, line_with_account, line_with_id, lines}
pub use Rattle.sqltables.specs.Link.{LinkRow, link_shown, link_with_domain, links}
pub use Rattle.sqltables.specs.Message.{MessageRow, is_same_message, message_order, message_shown, message_with_id, messages, queue_of}
pub use Rattle.sqltables.specs.{Meta.{MetaRow, meta_shown, meta_with_id, metas}, Readiness.{IsFormOf, IsKnownAs, is_numbered}}
pub use Rattle.sqltables.specs.Stored.{Covers, IsLeftAs}
pub use Rattle.sqltables.specs.Tables.{account, address, contact, domain, host, line, link, message, meta, registry, transfer}
pub use Rattle.sqltables.specs.Transfer.{TransferRow, transfer_shown, transfer_with_contact, transfer_with_domain, transfers}
pub use Rattle.sqltables.specs.declared.{answers.Answer.Answer, form.Form.{Form, TheVariants.{Made, Making, Unused}}}
pub use Rattle.sqltables.specs.inner.Adoption.{IsReread, IsSeenBy, IsShapedAs, IsShown}
pub use Rattle.sqltables.specs.inner.Answers.{AreRight, IsAnsweredByRows, IsRight, Recalls, lasting, lasts}
pub use Rattle.sqltables.specs.inner.Consistent.{AreKeyed, AreLinked, AreNamed, IsConsistent, IsNamedBy, LeadsTo}
pub use Rattle.sqltables.specs.inner.Content.{IsContent, accounts_to, metas_to}
pub use Rattle.sqltables.specs.inner.FirstTables.{first_line, first_registry}
pub use Rattle.sqltables.specs.inner.Statements.{Alters, Appends, AreOthersSame, Asks, IsOfTable, is_table}
pub use Rattle.sqltables.specs.inner.Stored.{AgreesWithForm, Bears, Fits, Guards, HoldsRows, committed, has_rows, leaves_of, left_in, readiness_of, rows_in, store_state, undone}
pub use Rattle.states.specs.States.{Closes, Fails, Finds, LeavesSame, Reads, Remains, Starts, StateOf, Stays, Writes, holding}
pub use Rattle.states.specs.declared.fault.BookFault.{BookFault}
pub use Rattle.std.proofs.lemmas.{Bool.{and_parts, eq-eqb, eqb-false, eqb-true, not-true}, Int.ints}
pub use Rattle.std.specs.List.{All, AllByRecursion, list_all, list_any, take-map}
