-- What a contact or a host put over rows is to a book.
use Rattle.std.proofs.Common.{◌≡◌, ℕ, Bool, true, false, List, Option, Some, None, Result, refl, ap, ◌∙◌}
use Rattle.std.specs.Prelude.{◌||◌, is_some, pos}
use Rattle.sqlbook.proofs.Words.{accounts-kept, are_right, BookFault, capped, Changes, completes_at, contact-sponsors, contact_set, Content}
use Rattle.sqlbook.proofs.Words.{days_of_rows, Domain, domain_read, DomainRow, due_at, dues_are_right, earlier, FinMap, has_right_due, host-sponsors}
use Rattle.sqlbook.proofs.Words.{host_set, int_eq, is_due_right, is_live_right, IsContactPut, IsHostPut, list_all, MakesAs, nat_cmp, option_map_or}
use Rattle.sqlbook.proofs.{Words.{rules_with, Schedule, slice_cmp, StateOf, stored_of, with_named}, MeaningLemmas.{alters, objects-put}}
use Rattle.sqlite_rules.specs.Lists.{Has}
use Rattle.objects.specs.{Domains.expiry, declared.{contact.Contact.Contact, host.Host.Host}}
use Rattle.books.specs.Ledgers as store
use Rattle.sqldomains.proofs.FrameLemmas.{contact-frame, domains-same, host-frame, reads-same}
use Rattle.sqlobjects.proofs.VerdictLemmas.{all-alike}

-- a put over rows is a put of a map by name
pub same-put : {X : Type 0} (m : FinMap (slice_cmp nat_cmp) X) (name : List ℕ) (value : Option X) → with_named m name value ≡ store.entry_set m name value
same-put m name None = refl
same-put m name (Some x) = refl

-- ---- rows of domains that are as right as they were

-- whether a row is right hangs on what it reads as, and on the lengths that were put down
abbrev pub IsOfReading : (Content → DomainRow → Bool) → Type 0
IsOfReading right =
    (old new : Content) → new.metas ≡ old.metas → new.days ≡ old.days → (row : DomainRow) → domain_read new row ≡ domain_read old row → right new row ≡ right old row

pub due-of-reading : IsOfReading has_right_due
due-of-reading old new metas days row reads = λ i.
    option_map_or (λ ds. option_map_or (λ d. int_eq row.due (pos (capped (due_at (rules_with ds) d)))) (reads i) false) (days_of_rows (record new { metas = metas i; days = days i })) true

pub live-of-reading : IsOfReading is_live_right
live-of-reading old new metas days row reads =
    ap (λ o. option_map_or (λ (d : Domain). is_some d.deletion || int_eq row.due (pos (capped (earlier (expiry d) (completes_at d.transfer))))) o false) reads

-- where the rows are the same and read as before
dues-where : (old new : Content) → new.metas ≡ old.metas → new.days ≡ old.days → new.domains ≡ old.domains → ((row : DomainRow) → Has old.domains row → domain_read new row ≡ domain_read old row) → dues_are_right new ≡ dues_are_right old
dues-where old new metas days domains reads =
    ap (list_all (has_right_due new)) domains ∙ all-alike (has_right_due old) (has_right_due new) old.domains (λ row there. due-of-reading old new metas days row (reads row there))

-- and where each is due as before
pub dues-alike : (old new : Content) → new.metas ≡ old.metas → new.days ≡ old.days → new.domains ≡ old.domains → ((days : Schedule) (row : DomainRow) → is_due_right days new row ≡ is_due_right days old row) → dues_are_right new ≡ dues_are_right old
dues-alike old new metas days domains alike =
    ap (list_all (has_right_due new)) domains
    ∙ all-alike (has_right_due old) (has_right_due new) old.domains (λ row there i. option_map_or (λ ds. alike ds row i) (days_of_rows (record new { metas = metas i; days = days i })) true)

-- ---- a contact or a host is put

contact-put : (name : List ℕ) (value : Option Contact) (old new : Content) → IsContactPut name value old new → (stored_of new ≡ contact_set name value (stored_of old)) × (are_right new ≡ are_right old)
contact-put name value old new it =
    let domains = domains-same old new (contact-frame name value old new it) in
    objects-put old new it.metas it.days _ _ _ (it.contacts ∙ same-put _ name value) it.hosts domains it.accounts it.lines it.messages (accounts-kept old new domains it.accounts)
    (dues-where old new it.metas it.days it.domains (reads-same old new (contact-frame name value old new it))) (contact-sponsors name value old new it)

host-put : (name : List ℕ) (value : Option Host) (old new : Content) → IsHostPut name value old new → (stored_of new ≡ host_set name value (stored_of old)) × (are_right new ≡ are_right old)
host-put name value old new it =
    let domains = domains-same old new (host-frame name value old new it) in
    objects-put old new it.metas it.days _ _ _ it.contacts (it.hosts ∙ same-put _ name value) domains it.accounts it.lines it.messages (accounts-kept old new domains it.accounts)
    (dues-where old new it.metas it.days it.domains (reads-same old new (host-frame name value old new it))) (host-sponsors name value old new it)

pub contact_made : (name : List ℕ) (value : Option Contact) (r : Result (Unit {0}) BookFault) (old new : StateOf Content) → Changes r (IsContactPut name value) old new
    → MakesAs r stored_of are_right (contact_set name value (stored_of old.content)) old new
contact_made name value r old new made = alters r (IsContactPut name value) _ old new made (λ it. contact-put name value old.content new.content it)

pub host_made : (name : List ℕ) (value : Option Host) (r : Result (Unit {0}) BookFault) (old new : StateOf Content) → Changes r (IsHostPut name value) old new
    → MakesAs r stored_of are_right (host_set name value (stored_of old.content)) old new
host_made name value r old new made = alters r (IsHostPut name value) _ old new made (λ it. host-put name value old.content new.content it)
