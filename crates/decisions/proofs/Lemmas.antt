-- The lemmas that many proofs cite, from one place.
pub use Rattle.decisions.proofs.CommandCases.{CommandCases, found_above, host_with, IsBased, IsDeletable, IsSide, IsUpdateOf, request-cases}
pub use Rattle.decisions.proofs.CommandCases.{order-cases, OrderCases}
pub use Rattle.decisions.proofs.CommandLemmas.{Covers, known}
pub use Rattle.decisions.proofs.GrowthLemmas.{all-kept, all-put, AllFit, been-grown, clock-kept, Grows, Puts, roid-grown}
pub use Rattle.decisions.proofs.KeepingLemmas.{drop-contact, drop-domain, drop-host, IsItsOwn, kept-account, one-or-apart, own-put, put-contact, put-domain, put-host, rename-host}
pub use Rattle.decisions.proofs.LapsedLemmas.{domain-lapsed, domain-left, kept-lapse, transferred_by}
pub use Rattle.decisions.proofs.LineEntryLemmas.{AsksFor, begins-asks, keep-posted, Keeps, renewal-by, renewal-waits-not}
pub use Rattle.decisions.proofs.LineEntryLemmas.{started-waits-not, test-elsewhere, waits-asks}
pub use Rattle.decisions.proofs.LineKeepingLemmas.{FitsLines, line-grown, lines-keep, lines-stay}
pub use Rattle.decisions.proofs.LinkLemmas.{new-contacts, new-hosts, updated-contacts, updated-hosts}
pub use Rattle.decisions.proofs.NamedLemmas.{drop-cases, is-there, name-fails, none-is, other_name, put-cases, put-either, put-is, value-fails}
pub use Rattle.decisions.proofs.PostingLemmas.{AllPosted, contact-posted, domain-posted, due-is, lapse-cases, postings-posted, serial-posted}
pub use Rattle.decisions.proofs.SightLemmas.{face-seen}
pub use Rattle.decisions.proofs.ViewLemmas.{account-keep, AllMeet, graces_kept, graces_put, Meets, own-account, serial-rises}
