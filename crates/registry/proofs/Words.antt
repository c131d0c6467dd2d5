-- The words that many proofs name, from one place.
pub use Rattle.books.specs.Book.{BookFinds, BookLeavesSame, BookReads, BookStarts, BookState, BookStays, BookWrites, Follows, GivesUp, IsBack, LeavesOldOrMade, NoRefusal, Stored, WentBack, home, with_changes}
pub use Rattle.decisions.specs.{Changes.{changed, changed_all, posting_change}, Orders.{deposit_decision, order_answer, order_effect}}
pub use Rattle.lifecycle.specs.Lapse.{completes_at, due_at, due_by as transfer_due_by, lapse as lapse_domain, lapse_contact}
pub use Rattle.lifecycle.specs.declared.due_object.Due.{Due}
pub use Rattle.model.proofs.LapseLaws.{all-due-lapse-as-all, lapsed-is-settled, lapses-on, lapses-on-from-some, some-lapse-together}
pub use Rattle.model.specs.{DueBy.due_by, Lapse.{at, lapsed, now, with_contact_lapsed, with_domain_lapsed}}
pub use Rattle.model.specs.{Registry.{Registry, account_of, blank}, WellFormed.{HasCome, IsLineOf, IsRegistry, last_clock}}
pub use Rattle.objects.specs.declared.{contact.Contact.Contact, domain.Domain.Domain, roid.ObjectKind.ObjectKind}
pub use Rattle.policy.specs.{Rules.{IsRegistrar, IsSound, PolicyRules, length_of}, Terms.{Continues, DaysContinue, terms_of}}
pub use Rattle.registry.specs.Crashes.{GivesUpTo, Makes, OpensTo, RefusedTo}
pub use Rattle.registry.specs.Execution.{IsBacklog, IsGreetingStep, IsOrderStep, IsPrepared, IsSettlement, IsStep, due_at_name, with_lapsed}
pub use Rattle.registry.specs.{Faces.{IsLookUp, LookUpsArePublic, LooksUp}, Lapsing.{dues_lapsed, object_lapsed, with_dues_lapsed}}
pub use Rattle.registry.specs.{declared.fault.Fault.Fault, inner.Passing.{lapsing, status_at}}
pub use Rattle.registry.specs.inner.Steps.{AreChangesMade, HasMoved, IsOrderCarriedOut, IsWithin, KeepsStep, OpensAny, OpensOurs, Works}
pub use Rattle.states.specs.declared.fault.BookFault.{BookFault, TheVariants.{Memory, Store}}
pub use Rattle.std.specs.Cmp.Lexicographic.{nat_list_cmp_total, slice_cmp}
pub use Rattle.std.specs.FinMap.{FinMap, empty, entries, get, get-empty, keys, nat_cmp-IsAntisymmetric, values}
pub use Rattle.std.specs.{Ordering.{eq_by_cmp, match_ordering, nat_cmp, ordering_then}, Prelude.{fold, option_map, unwrap_or}}
