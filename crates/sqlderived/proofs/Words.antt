-- The words that many proofs name, from one place.
pub use Rattle.lifecycle.specs.DueObjects.{contact_due, domain_due, due_cmp, due_then, found_due, kind_rank, with_due}
pub use Rattle.lifecycle.specs.{Lapse.{completes_at, due_at, due_of, earlier}, Periods.{passed, rules_with}, declared.due_object.Due.Due}
pub use Rattle.model.specs.DueBy.{due_by}
pub use Rattle.objects.specs.{Transfers.{is_incoming, is_pending_state, names}, declared.{domain.Domain.Domain, roid.ObjectKind.ObjectKind}}
pub use Rattle.objects.specs.declared.transfer.Transfer.{Transfer}
pub use Rattle.policy.specs.Rules.{PolicyRules}
pub use Rattle.sqlaccounts.specs.Accounts.{account_of_row, accounts_of, has_right_sums, ident_and_held, is_right, row_of}
pub use Rattle.sqlaccounts.specs.inner.Posting.{IsRowOf}
pub use Rattle.sqlcolumns.proofs.{ReadLemmas.{kept, same_some, step}, TransferLemmas.{same_is_equal, transfer_written}}
pub use Rattle.sqlcolumns.specs.Numbers.{counter_column, exact_in, is_exact, is_place, maybe_moment_in, moment_in_column, registrar_column, registrar_in}
pub use Rattle.sqlcolumns.specs.Transfers.{is_same, maybe_due_column, row_of_transfer, transfer_of_columns}
pub use Rattle.sqlderived.specs.Dues.{dues_are_right, has_right_due, is_due_right}
pub use Rattle.sqlderived.specs.Held.{counts_one, counts_where, has_right_held, held_of, helds_are_right, is_held_by, is_held_right}
pub use Rattle.sqlderived.specs.{Redates.{is_end, is_timed}, declared.holders.Holders.Holders}
pub use Rattle.sqlderived.specs.inner.Finding.{AreDue, contact_due_in_row, contacts_until, domain_due_shown, domains_until, objects_in, with_rows}
pub use Rattle.sqlderived.specs.inner.Holders.{incoming_without, is_some_holder, is_written, maybe_holders_of, sponsor_without}
pub use Rattle.sqlderived.specs.inner.Recounts.{AreAlike, AreBoth, AreCounted, IsAlikeButHeld, IsCountedAnew, IsHeldCounted, IsRecounted, IsUnwritten, counts_own, registrar_of, with_unwritten}
pub use Rattle.sqldomains.specs.Domains.{domain_read, domains_of, links_of}
pub use Rattle.sqlite_keyed.proofs.KeyedLemmas.{key-get_by, same_int}
pub use Rattle.sqlite_rules.proofs.ListLemmas.{all_from, has_either, has_left, has_right, some_has, test_from, test_has}
pub use Rattle.sqlite_rules.specs.Lists.{Has}
pub use Rattle.sqlobjects.proofs.PutLemmas.{bytes_is, filter-has, get_by-has, has-filter, only_named}
pub use Rattle.sqlobjects.specs.Objects.{contact_read, contacts_of, last_transfer}
pub use Rattle.sqlrows.proofs.StateLemmas.{reads-on, reads-same, stays-on, then-became}
pub use Rattle.sqlrows.specs.Meanings.{FindsIfRight, HasChanged}
pub use Rattle.sqltables.specs.{Content.Content, Transfer.{transfer_with_contact, transfer_with_domain}}
pub use Rattle.sqltables.specs.{declared.{account.AccountRow.AccountRow, domain.DomainRow.DomainRow}, inner.Consistent.IsConsistent}
pub use Rattle.sqlterms.specs.Terms.{days_of_rows}
pub use Rattle.states.specs.States.{FindsSome, Reads, StateOf}
pub use Rattle.std.proofs.lemmas.{Bool.{and_from, and_parts, eq-eqb, eqb-true, or_cases, or_parts, Decides.nat_tests}, Int.ints}
pub use Rattle.std.specs.Cmp.{IsTotalOrder, both_ways, Lexicographic.{nat_list_cmp_total, slice_cmp}}
pub use Rattle.std.specs.FinMap.{FinMap, IsAntisymmetric, entries, find, get, get-entries, insert, nat_cmp-IsAntisymmetric, remove, slice_cmp-IsAntisymmetric, values}
pub use Rattle.std.specs.{List.{cons_option, filter_map, flat_map, list_all, list_any}, Option.{option_map, option_map_or, unwrap_or}}
pub use Rattle.std.specs.Ordering.{eq_by_cmp, is_gt, match_ordering, nat_cmp, ordering_reverse, ordering_then}
pub use Rattle.std.specs.declared.cmp.Ordering.{Ordering}
