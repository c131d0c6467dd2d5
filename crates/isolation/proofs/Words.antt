-- The words that many proofs name, from one place.
pub use Rattle.accounts.proofs.LineLaws.{itself-roid, lines_in_order}
pub use Rattle.accounts.specs.{Account.empty_account, Entries.{entered, posted, renewal_line, with_lines}, declared.account.Account.Account}
pub use Rattle.accounts.specs.declared.{entries.Posting.Posting, line.Line.Line}
pub use Rattle.basis.proofs.MapLemmas.{entries-map_values, get-map_values, map_values-insert, map_values-remove, map_values-twice, names_apart}
pub use Rattle.basis.specs.Maps.{map_values}
pub use Rattle.decisions.proofs.SightLemmas.{full_as}
pub use Rattle.decisions.specs.Changes.{changed, changed_all, host_renamed, itself, may_rename, with_host_renamed}
pub use Rattle.decisions.specs.{Decisions.{decided, or_old, updated_contact, updated_domain}, Steps.{answer, decision, effect, reply_of}}
pub use Rattle.decisions.specs.declared.change.Change.{Change, TheVariants.{DropDomain, Post, PutContact, PutDomain, PutHost}}
pub use Rattle.facts.specs.{Facts.{facts, or_else}, declared.facts.Facts.Facts}
pub use Rattle.isolation.specs.Alike.{AreAlikeInTurn, Hidden, IsAlike, Pair, PresentsNone, code_given, deposits, first, firsts, hidden, puts, same, second, seconds, touched_by, with_hidden}
pub use Rattle.isolation.specs.Redaction.{AreOne, Objects, blank_if, is_charge, is_redacted, no_postal, redacted, redacted_account, redacted_contact, redacted_domain, without_deposits}
pub use Rattle.lifecycle.specs.{Refunds.{cents_back, given_back, refund_at, years_back}, declared.change.AccountChange.AccountChange}
pub use Rattle.lifecycle.specs.declared.change.AccountChange.TheVariants.{Ack, Charge, CountCommand, Lapse, Notify, RefundRunning, RefundTransfer, TakeSerial}
pub use Rattle.lifecycle.specs.declared.change.RunningRefund.{RunningRefund}
pub use Rattle.model.specs.{Registry.{Registry, account_of}, Standing.standing_of, View.{domain_sight, view_for}}
pub use Rattle.objects.specs.{Contacts.contact_face_of, Domains.face_of}
pub use Rattle.objects.specs.Sight.{authorizes, contact_as, domain_as, is_party, seen_by_outsider}
pub use Rattle.objects.specs.{Transfers.{is_incoming, is_pending, is_pending_state, names}, declared.contact.Contact.Contact}
pub use Rattle.objects.specs.declared.{contact.{ContactFace.ContactFace, Postal.Postal}, domain.{Domain.Domain, DomainFace.DomainFace}}
pub use Rattle.objects.specs.declared.{domain.FullDomain.FullDomain, host.Host.Host, roid.Roid.Roid, sight.Seen.Seen}
pub use Rattle.objects.specs.declared.{sight.Seen.TheVariants.{Full, Public, TransferParty}, transfer.Transfer.Transfer}
pub use Rattle.policy.specs.Rules.{PolicyRules, place_of}
pub use Rattle.protocol.specs.{Requests.{asks_of, holds_of, presented, presented_contact}, declared.command.Command.Command}
pub use Rattle.protocol.specs.declared.command.{Command.TheVariants.{Asked, Bad}, ContactUpdate.ContactUpdate, DomainUpdate.DomainUpdate}
pub use Rattle.protocol.specs.declared.{command.Request.Request, transfer.TransferOp.TransferOp}
pub use Rattle.rules.proofs.RowLemmas.{refusing, unrefused}
pub use Rattle.rules.specs.{Rules.refusal_of, Transfers.transfer_after}
pub use Rattle.std.proofs.lemmas.Bool.{and_from, and_parts, eq-eqb, false_from_ne_true, false≢true, ne_eqb, not-false, not-true, not_from_false, or_from, or_left, or_parts, or_right, true≢false}
pub use Rattle.std.proofs.lemmas.Option.{same_Some}
pub use Rattle.std.specs.Cmp.{nat_cmp_total, Lexicographic.{nat_list_cmp_total, slice_cmp}}
pub use Rattle.std.specs.{FinMap.{FinMap, entries, get, insert, nat_cmp-IsAntisymmetric, remove, same_map}, List.{list_any, sum_by}}
pub use Rattle.std.specs.{Ordering.{is_le, nat_cmp, ordering_then}, Prelude.{fold, is_some, nat_lt, unwrap_or}}
