-- The words that many proofs name, from one place.
pub use Rattle.accounts.specs.{Lines.{in_order, swapped, swapped_all}, declared.{line.Line.Line, message.Message.Message}}
pub use Rattle.basis.proofs.MapLemmas.{get-map_values, names_apart}
pub use Rattle.basis.specs.Bag.{add, bag_of, precedes, taken}
pub use Rattle.books.proofs.PutLemmas.{changed-if, put-back, put-put, put-same, put-there}
pub use Rattle.books.specs.{Book.Stored, Tables.{domain_set, host_moved, host_set, posted_all, posted_to, with_accounts, with_domains}}
pub use Rattle.lifecycle.specs.Changes.{all_changed, changed, with_acked}
pub use Rattle.lifecycle.specs.DueObjects.{contact_due, domain_due, due_then, found_due, with_due}
pub use Rattle.mapbook.specs.Edits.{account_edited, all_edited, edited, undone_all}
pub use Rattle.mapbook.specs.Plain.{at_begin, content_of, plain_records, readiness_if_used}
pub use Rattle.mapbook.specs.Renaming.{amended_entry, domains_naming, host_renamed_at, host_renamed_in}
pub use Rattle.mapbook.specs.declared.{account_edit.AccountEdit.AccountEdit, edit.Edit.Edit}
pub use Rattle.mapbook.specs.inner.Posting.{account_opened, ack_edits, changed_each, changed_there, swap_edits}
pub use Rattle.model.specs.Registry.{Registry, account_of}
pub use Rattle.objects.specs.declared.domain.Domain.{Domain}
pub use Rattle.states.proofs.LeavingLemmas.{leaves-on, leaves-refl}
pub use Rattle.states.specs.States.{Answers, Makes, Stays, Writes}
pub use Rattle.std.specs.Cmp.{Equal-is, eq_by_cmp_equiv, nat_cmp_total, Lexicographic.{nat_list_cmp_total, slice_cmp}}
pub use Rattle.std.specs.FinMap.{FinMap, entries, entries_sorted, find, get, get-entries, get-insert, get-remove, insert, is_sorted, len, len-entries, nat_cmp-IsAntisymmetric, same_map, values}
pub use Rattle.std.specs.{Ordering.{eq_by_cmp, is_lt, nat_cmp}, Prelude.{fold, is_some, option_map, slice_get, unwrap_or}, Str.bytes_eq}
