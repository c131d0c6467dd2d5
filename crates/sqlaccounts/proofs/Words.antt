-- The words that many proofs name, from one place.
pub use Rattle.accounts.proofs.LineLaws.{balance-add, itself-roid, line-told, lines_in_order, same-in_order, same-roids}
pub use Rattle.accounts.specs.Account.{empty_account, with_command, with_serial}
pub use Rattle.accounts.specs.Counters.{counters_of, next_command, next_message, next_serial, with_counters}
pub use Rattle.accounts.specs.Entries.{with_lines, with_queue}
pub use Rattle.accounts.specs.Lines.{amount, balance, in_order, is_line, is_of, is_on, is_same_roid, swapped, swapped_all}
pub use Rattle.accounts.specs.{Messages.{message_cmp, message_id}, Queue.{acked, dropped, has, put}, declared.account.Account.Account}
pub use Rattle.accounts.specs.declared.{line.{Line.Line, LineSwap.LineSwap}, message.Message.Message}
pub use Rattle.basis.proofs.BagLaws.{add-add, any-bag_of, bag_of-push, filter-bag_of, remade-bag_of, taken-absent, taken-add, taken-bag_of, taken-before}
pub use Rattle.basis.specs.Bag.{IsLinear, add, bag_of, remade, same, taken}
pub use Rattle.lifecycle.specs.Changes.{all_changed, changed, notified, numbered, with_acked}
pub use Rattle.objects.specs.declared.roid.Roid.{Roid}
pub use Rattle.policy.specs.declared.schedule.Schedule.{Schedule}
pub use Rattle.sqlaccounts.specs.Accounts.{account_of_row, account_of_rows, accounts_of, balance_in, entries_of, has_right_sums, ident_and_held, is_right, lines_under, put_all, queue_under, row_of, sums_are_right}
pub use Rattle.sqlaccounts.specs.inner.Changes.{HasNewCounters, IsBalanceChanged, IsChange, IsOpened, counted_in, counters_in, opened_row, with_account_changed}
pub use Rattle.sqlaccounts.specs.inner.Finding.{IsDomainRoid, is_row_about, is_row_on, reads_as}
pub use Rattle.sqlaccounts.specs.inner.Posting.{HasEnd, IsPosted, IsReady, IsRowOf, PostsTo, with_row}
pub use Rattle.sqlcolumns.proofs.ReadLemmas.{kept, same_some, some_read, step}
pub use Rattle.sqlcolumns.specs.{Lines.{line_of_columns, maybe_domain_in}, Messages.{message_of_columns, row_of_message}}
pub use Rattle.sqlcolumns.specs.Numbers.{counter_column, counter_in, exact_column, exact_in, is_exact, is_place, maybe_moment_column, registrar_column, registrar_in}
pub use Rattle.sqlite_keyed.proofs.KeyedLemmas.{key-get_by, none_past, same_int}
pub use Rattle.sqlite_keyed.proofs.ListLemmas.{all_weaker, filter-filter, filter_all, filter_none, none_counted}
pub use Rattle.sqlite_keyed.specs.{Keyed.{IsKeyedBy, get_by, insert_by, next_key}, Lists.{delete_where, insert_sorted, sort_by}}
pub use Rattle.sqlite_rules.proofs.ListLemmas.{all_from, all_has, has_either, has_filtered, has_found, has_kept, some_has}
pub use Rattle.sqlite_rules.specs.Lists.{Has}
pub use Rattle.sqlrows.proofs.StateLemmas.{one-asked, reads-same, stays-on, then-became, then-made}
pub use Rattle.sqlrows.specs.inner.Layouts.{appended, by_then_key}
pub use Rattle.sqltables.specs.{Content.Content, Line.{line_with_account, line_with_id, lines}}
pub use Rattle.sqltables.specs.{Message.{message_with_id, messages, queue_of}, declared.account.AccountRow.AccountRow}
pub use Rattle.sqltables.specs.{declared.{line.LineRow.LineRow, message.MessageRow.MessageRow}, inner.Consistent.{IsConsistent, LeadsTo}}
pub use Rattle.sqltables.specs.inner.Content.{accounts_to, lines_to, messages_to}
pub use Rattle.states.specs.States.{Finds, Reads, StateOf, Stays, Writes}
pub use Rattle.std.proofs.lemmas.Bool.{and_from, and_parts, cases_Bool, false_from_ne_true}
pub use Rattle.std.proofs.lemmas.{Bool.Decides.{Decides-int_eq, nat_tests, same_from_decides}, Int.ints}
pub use Rattle.std.proofs.lemmas.List.{map-append, nil_from_length, take_more, Elements.{filter-append, filter_map-append}}
pub use Rattle.std.specs.Cmp.{Equal-is, IsTotalOrder, eq_by_cmp_equiv, int_cmp_total, nat_cmp_total, on_total, then_total, tied_itself}
pub use Rattle.std.specs.FinMap.{FinMap, get, get-from_entries, get-insert, insert, nat_cmp-IsAntisymmetric, same_map, slice_cmp-IsAntisymmetric}
pub use Rattle.std.specs.{Int.w128, List.{cons_option, filter_map, list_all, list_any}, Option.{option_map, option_map_or, unwrap_or}}
pub use Rattle.std.specs.Ordering.{eq_by_cmp, is_eq, is_gt, nat_cmp, ordering_then}
pub use Rattle.std.specs.{Prelude.slice_get, declared.cmp.Ordering.Ordering}
