-- The words that many proofs name, from one place.
pub use Rattle.accounts.proofs.LineLaws.{same-roids, itself-roid}
pub use Rattle.accounts.specs.Account.{with_command, with_serial, saturating_next, empty_account}
pub use Rattle.accounts.specs.Entries.{entered, posted, with_lines, renewal_line}
pub use Rattle.accounts.specs.LineChanges.{start-elsewhere, start-stays, refund-elsewhere, refund-stays, unasked}
pub use Rattle.accounts.specs.Lines.{balance, is_for_transfer, is_kind, is_of, is_on, is_same_roid, transfer_refunded, transfer_started, waits, in_order, begins_by, kind_rank, amount}
pub use Rattle.accounts.specs.declared.{account.Account.Account, entries.AutoRenewal.AutoRenewal, entries.LapseEntry.LapseEntry, entries.Posting.Posting}
pub use Rattle.accounts.specs.declared.{line.Line.Line, line.LineKind.LineKind, line.TransferRefund.TransferRefund, line.TransferStart.TransferStart}
pub use Rattle.accounts.specs.declared.entries.LapseEntry.TheVariants.{Notice, Renewal, Start}
pub use Rattle.accounts.specs.declared.message.LapseNotice.TheVariants.{TransferApproved, Purged}
pub use Rattle.basis.proofs.{BagLaws.any-add, BagLaws.any-bag_of, MapLemmas.names_apart, MapLemmas.get-map_values}
pub use Rattle.basis.specs.{Bag.precedes, Bag.remade, Maps.map_values, Sweeps.given, Sweeps.given_list}
unfoldable pub use Rattle.basis.specs.Bag.{add as bag_add, add}
pub use Rattle.calendar.specs.Moment.{years_later}
unfoldable pub use Rattle.calendar.specs.Moment.{plus_years}
pub use Rattle.facts.specs.Facts.{domain_seen, facts, lookups, superordinate_of_domain, or_else, Lookups, facts_by, held, subordinate}
pub use Rattle.facts.specs.Lists.{amended, itself, is_among, kept, adds_what_is_there, has_twice, is_over}
pub use Rattle.facts.specs.declared.{facts.ContactFacts.ContactFacts, facts.DomainFacts.DomainFacts, facts.Facts.Facts, facts.HostFacts.HostFacts}
pub use Rattle.facts.specs.declared.{facts.Superordinate.Superordinate}
pub use Rattle.lifecycle.proofs.TurnLaws.{turns-are}
pub use Rattle.lifecycle.specs.Changes.{changed as account_changed, refunded_by, notified, numbered, with_acked, with_running_refunded}
pub use Rattle.lifecycle.specs.{Graces.runs, Graces.gives, Graces.period_of, Graces.runs_from, Periods.end, Phases.purge_at, Phases.later}
pub use Rattle.lifecycle.specs.{Phases.redemption_end, Phases.phase, Refunds.refund_at, Refunds.given_back, Transfers.ended, Transfers.requested}
pub use Rattle.lifecycle.specs.{Transfers.locked_since, Transfers.is_locked, Turns.turns}
unfoldable pub use Rattle.lifecycle.specs.{Graces.graces, Lapse.renewals}
pub use Rattle.lifecycle.specs.Lapse.{completion, contact_completed, due_by, gained, handed_over, lapse_by, lapse_contact, leaves, lived, moved, purged, raised, approved, contact_moved, lapse, turn, domain_notice, contact_completion, completes_at, due_at, due_of, earlier, contact_handed_over}
pub use Rattle.lifecycle.specs.declared.change.AccountChange.TheVariants.{Ack, Charge, Lapse, RefundRunning, RefundTransfer, TakeSerial, Notify}
pub use Rattle.lifecycle.specs.declared.{change.AccountChange.AccountChange, change.Notification.Notification, change.RunningRefund.RunningRefund}
pub use Rattle.lifecycle.specs.declared.{lapsed.Lapsed.Lapsed}
pub use Rattle.model.proofs.LapseLaws.{lapsed-is-settled, settled-is-now, lapses-on, left-of, some-lapse-together}
pub use Rattle.model.proofs.LineLemmas.{and-false, any-of-one, none-remade, count-none, none-by, none-weaker, not-itself, one-or-other, all-weaker}
pub use Rattle.model.proofs.{MoneyChangeLemmas.transfer-begun, StandardLemmas.registries-meet-standards, SweepLemmas.left, SweepLemmas.swept-alike}
pub use Rattle.model.specs.Lapse.{lapsed, now, postings, lapse as lapse_registry}
unfoldable pub use Rattle.model.specs.Lapse.{accounts_at, domains_at}
pub use Rattle.model.specs.{LapseLaws.IsSettled, Registry.account_of, Registry.Registry, Shapes.IsOrderedSet, Shapes.AreSetsWithin, Standards.MeetsStandards}
pub use Rattle.model.specs.{Standards.IsStandardRequest, Standing.graces_of, Standing.standing_of, View.domain_sight, View.view, View.view_for}
pub use Rattle.model.specs.Money.{IsRefundable, AccountAges, AccountFollows, MoneyFollows, NoRefund}
pub use Rattle.model.specs.WellFormed.{AreApart, begins_after, charges_waiting, domain_roid, HasBeen, HasLines, HasLinesOn, HasObjects, HasRoid, is_begun_after, IsContactOf, IsDeletion, IsDomainOf, IsHostOf, IsLastTransfer, IsLater, IsLineOf, IsRegistry, IsTransfer, last_clock, WasGiven, BelongsTo, IsTransferRecord, contact_roid, host_roid, IsAwaitedIfPending, IsAwaited, HasCome, HasMessages, IsAfter}
pub use Rattle.names.specs.RequestedName.{RequestedName, name_of}
pub use Rattle.names.specs.Zone.{superordinate_of, ZoneRules, keeps_domain, keeps_host, last_two_of}
pub use Rattle.objects.specs.{Contacts.contact_face_of, Hosts.is_below, Statuses.all_statuses, Statuses.has_status}
pub use Rattle.objects.specs.{Transfers.is_pending, Transfers.is_pending_state, Transfers.names}
pub use Rattle.objects.specs.Domains.{expiry, is_empty, face_of, shown, shows}
pub use Rattle.objects.specs.Links.{has_name, names_contact, names_host, links_seen}
pub use Rattle.objects.specs.Sight.{contact_as, is_party, authorizes, seen_by_outsider, domain_as}
pub use Rattle.objects.specs.declared.{contact.Contact.Contact, contact.ContactFace.ContactFace, domain.Deletion.Deletion, domain.Domain.Domain}
pub use Rattle.objects.specs.declared.{domain.DomainFace.DomainFace, domain.FullDomain.FullDomain, domain.Links.Links, grace.Graces.Graces}
pub use Rattle.objects.specs.declared.{grace.Standing.Standing, host.Host.Host, roid.ObjectKind.ObjectKind, roid.Roid.Roid, sight.Seen.Seen}
pub use Rattle.objects.specs.declared.{status.Status.Status, transfer.Transfer.Transfer, transfer.TransferState.TransferState}
pub use Rattle.objects.specs.declared.sight.Seen.TheVariants.{Full, Public, TransferParty}
pub use Rattle.objects.specs.declared.status.Status.TheVariants.{PendingTransfer, PendingDelete}
pub use Rattle.objects.specs.declared.transfer.TransferState.TheVariants.{ClientApproved, ClientCancelled, ClientRejected}
pub use Rattle.policy.proofs.ScheduleLemmas.{day-count}
pub use Rattle.policy.specs.Rules.{IsRegistrar, IsSound, PolicyRules, has_id, place_of}
pub use Rattle.protocol.specs.Codes.{is_accepted}
pub use Rattle.protocol.specs.Requests.{holds_of, presented, references_fail, final_name, presented_contact}
pub use Rattle.protocol.specs.declared.command.Command.TheVariants.{Asked, Bad}
pub use Rattle.protocol.specs.declared.{command.Command.Command, command.ContactUpdate.ContactUpdate, command.DomainUpdate.DomainUpdate}
pub use Rattle.protocol.specs.declared.{command.HostUpdate.HostUpdate, command.NewContact.NewContact, command.NewDomain.NewDomain, command.NewHost.NewHost}
pub use Rattle.protocol.specs.declared.{command.Request.Request, order.Order.Order, transfer.TransferOp.TransferOp}
pub use Rattle.protocol.specs.declared.command.Request.TheVariants.{DeleteDomain, TransferContact, TransferDomain, CreateDomain, UpdateDomain}
pub use Rattle.decisions.specs.{Askable.CanBeAsked, Askable.IsAskable, Transfers.domain_with_transfer, Transfers.transfer_line}
pub use Rattle.decisions.specs.Changes.{changed, changed_all, host_renamed, may_rename, renamed, with_account, with_host_renamed, links_with_host_renamed}
pub use Rattle.decisions.specs.Decisions.{charge, charge_line, deleted_domain, new_domain, renewed_domain, restored_domain, restoring_domain, updated_domain, decided, more_years, updated_contact}
unfoldable pub use Rattle.decisions.specs.Decisions.{changes_of, changes_after}
pub use Rattle.decisions.specs.Orders.{order_decision, order_effect, ordered, cents_of, deposit_line, deposited, deposited_to, order_changes}
pub use Rattle.decisions.specs.Steps.{decision, effect, answer, reply_of}
pub use Rattle.decisions.specs.declared.change.Change.TheVariants.{DropContact, DropDomain, DropHost, Post, LapseContact, LapseDomain, MoveClock, OpenAccount, PutContact, PutDomain, PutHost, RenameHost}
pub use Rattle.decisions.specs.declared.change.Change.{Change}
pub use Rattle.std.proofs.{lemmas.Bool.Decides.nat_tests, lemmas.List.Folds.list_any-append, lemmas.List.length-map, lemmas.List.length-append}
pub use Rattle.std.proofs.{lemmas.Map.Views.any-filter_same, lemmas.Map.Views.All-insert_key, lemmas.Option.same_Some, lemmas.Option.cond_some}
pub use Rattle.std.proofs.lemmas.Bool.{not-false, or_parts, cond_both, false_from_ne_true, and_left, and_right, cases_Bool, and_cases, ltb-true, or_from, cases_lt, eqb-false, and_parts, lt-ltb}
pub use Rattle.std.proofs.lemmas.List.Elements.{recursion_from_All, All-from_recursion, All-tail}
pub use Rattle.std.specs.Cmp.Lexicographic.{bytes_decides, nat_list_cmp_total, slice_cmp, pointwise}
pub use Rattle.std.specs.{Cmp.eq_by_cmp_equiv, Cmp.Equal-is, Cmp.nat_cmp_total, Str.bytes_eq}
pub use Rattle.std.specs.FinMap.{entries, FinMap, get, get-insert, insert, nat_cmp-IsAntisymmetric, remove, keys, values, same_map}
pub use Rattle.std.specs.List.{All, AllByRecursion, list_any, position_or_len, ends_with}
pub use Rattle.std.specs.Ordering.{eq_by_cmp, nat_cmp, is_le, ordering_reverse}
pub use Rattle.std.specs.Prelude.{IfSome, fold, ◌&&◌, nat_le, ◌||◌, is_some, option_map, unwrap_or}
pub use Rattle.rules.proofs.RowLemmas.{refusing, StandsIn, unrefused}
pub use Rattle.rules.specs.{Charges.charge_of, Conditions.domain_sponsor, Conditions.is_anothers, Deletion.goes_at_once, Rules.refusal_of, Rules.table_of}
pub use Rattle.rules.specs.{Transfers.transfer_after, Verdicts.granted, Verdicts.unless_refused}
unfoldable pub use Rattle.rules.specs.Verdicts.{judged}
