-- The words that many proofs name, from one place.
pub use Rattle.accounts.specs.declared.account.Account.{Account}
pub use Rattle.books.specs.Book.{BookState, Stored, with_terms}
pub use Rattle.books.specs.Tables.{clock_set, contact_set, domain_set, host_moved, host_set, maybe_posted, posted_all, posted_to, with_accounts, with_domains}
pub use Rattle.calendar.specs.Moment.{capped}
pub use Rattle.lifecycle.specs.{Lapse.{completes_at, due_at, due_of, earlier}, Periods.rules_with}
pub use Rattle.objects.specs.declared.domain.Domain.{Domain}
pub use Rattle.policy.specs.declared.schedule.Schedule.{Schedule}
pub use Rattle.sqlaccounts.specs.Accounts.{accounts_of, ident_and_held, row_of, sums_are_right}
pub use Rattle.sqlaccounts.specs.inner.Changes.{AreOthersKept, IsChange, IsOpened, opened_row, with_account_changed}
pub use Rattle.sqlaccounts.specs.inner.Posting.{HasEnd, IsPosted, IsRowOf, with_row}
pub use Rattle.sqlbook.specs.{AsBook.{MakesAs, are_all_right, as_book, remains_meant}, Meaning.{are_right, stored_of}}
pub use Rattle.sqlbook.specs.inner.Posting.{ArePosted, HaveEnds, IsOpenedInBook, IsReplacedPosting}
pub use Rattle.sqlbook.specs.inner.Replacing.{IsCheckedDomain, IsReplaced, IsUnderDays, due_with}
pub use Rattle.sqlbook.specs.inner.Suiting.{IsSetDown, IsSetOver, MeansSame, SuitDomains, are_right_by}
pub use Rattle.sqlcolumns.specs.Numbers.{is_place, moment_column, registrar_column, registrar_in}
pub use Rattle.sqlderived.proofs.KeptLemmas.{accounts-kept, change-kept, columns-kept, domains-kept, held-kept, opening-kept}
pub use Rattle.sqlderived.specs.{Dues.{dues_are_right, has_right_due, is_due_right}, Held.{held_of, helds_are_right}}
pub use Rattle.sqlderived.specs.Redates.{ends_are, is_live_right, lives_are_right}
pub use Rattle.sqlderived.specs.inner.Recounts.{AreAlike, IsRecounted, IsUnwritten, with_unwritten}
pub use Rattle.sqldomains.proofs.SponsorLemmas.{contact-sponsors, domain-sponsors, host-sponsors, sponsors-kept}
pub use Rattle.sqldomains.specs.{Domains.{domain_read, domains_of, placed}, inner.Changes.{IsDomainPut, sponsor_in}}
pub use Rattle.sqlite_keyed.specs.Keyed.{IsKeyedBy, get_by}
pub use Rattle.sqlobjects.proofs.StepLemmas.{asked-stood, asked-then, asked-turns, became-made}
pub use Rattle.sqlobjects.specs.{Objects.{contacts_of, hosts_of}, Sponsors.{IsSponsorSetBelow, sponsors_are_right}}
pub use Rattle.sqlobjects.specs.inner.Changes.{IsContactPut, IsHostPut, IsRowRenamed, new_name, with_named}
pub use Rattle.sqlrows.proofs.StateLemmas.{reads-on, reads-same, stays-on, then-became}
pub use Rattle.sqlrows.specs.Meanings.{Changes, HasChanged}
pub use Rattle.sqltables.specs.{Content.Content, Readiness.{IsKnownAs, is_numbered, may_be_numbered}, Stored.{Covers, fresh}}
pub use Rattle.sqltables.specs.declared.{account.AccountRow.AccountRow, domain.DomainRow.DomainRow, meta.MetaRow.MetaRow}
pub use Rattle.sqltables.specs.inner.Consistent.{IsConsistent}
pub use Rattle.sqlterms.specs.{Clock.clock_of, Terms.{days_of_rows, ids_behind, ids_in, is_unnamed, terms_of_rows}}
pub use Rattle.sqlterms.specs.inner.Changes.{IsClockSet, IsTermsSet, nameless}
pub use Rattle.states.proofs.LeavingLemmas.{has-alone, has-either}
pub use Rattle.states.specs.{States.{Ends, FindsSome, Reads, Remains, StateOf}, declared.fault.BookFault.BookFault}
pub use Rattle.std.proofs.lemmas.Bool.{and_parts}
pub use Rattle.std.specs.Cmp.Lexicographic.{nat_list_cmp_total, slice_cmp}
pub use Rattle.std.specs.FinMap.{FinMap, entries, get, get-insert, get-remove, nat_cmp-IsAntisymmetric, same_map, slice_cmp-IsAntisymmetric, values}
pub use Rattle.std.specs.{List.{AllByRecursion, list_all}, Option.{option_map_or, unwrap_or}, Ordering.{eq_by_cmp, int_eq, nat_cmp}}
