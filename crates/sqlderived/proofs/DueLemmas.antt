-- The rows found by their columns are those of all that is due.
use Rattle.std.proofs.Common.{◌≡◌, inl, inr, ℕ, ℤ, pos, negsuc, ◌<◌, Bool, true, false, cond, int_eq, int_le, nat_lt, List, [], ◌∷◌, filter, Option, Some, None, option_and_then, option_map, refl, sym, ap, ◌∙◌, true≢false, arith}
use Rattle.sqlderived.proofs.Words.{and_from, bytes_is, completes_at, contact_due, contact_read, contacts_of, Content, days_of_rows, Domain}
use Rattle.sqlderived.proofs.Words.{domain_due, domain_read, DomainRow, domains_of, Due, due_at, due_by, due_of, due_then, dues_are_right, entries}
use Rattle.sqlderived.proofs.Words.{filter-has, found_due, get, Has, has-filter, has_right_due, ints, is_due_right, is_gt, is_pending_state, is_same}
use Rattle.sqlderived.proofs.Words.{IsConsistent, kept, last_transfer, maybe_due_column, maybe_moment_in, moment_in_column, nat_tests, ObjectKind}
use Rattle.sqlderived.proofs.Words.{only_named, option_map_or, Ordering, passed, PolicyRules, registrar_column, registrar_in, rules_with}
use Rattle.sqlderived.proofs.Words.{same_is_equal, same_some, step, test_has, Transfer, transfer_with_contact}
use Rattle.sqlderived.proofs.FoundLemmas.{HasPicked, found-picked, rows-alike, same-picked}
use Rattle.calendar.specs.Moment.{capped}
use Rattle.sqlite_keyed.specs.Lists.{insert_sorted, sort_by}
use Rattle.objects.specs.declared.contact.Contact.{Contact}
use Rattle.objects.specs.declared.roid.ObjectKind.TheVariants as kinds
use Rattle.sqlcolumns.specs.{Contacts.{contact_of_columns, contact_registration_columns, contact_with}, Registrations.registration_in}
use Rattle.sqlcolumns.specs.{Roids.roid_in, Texts.{statuses_in, street_in}}
use Rattle.sqlcolumns.proofs.NumberLemmas.{registrar_written}
use Rattle.sqlrows.specs.{inner.Layouts.by_then_key, Read.{first_read, or_else}}
use Rattle.sqltables.specs.Contact as contact_table
use Rattle.sqltables.specs.{declared.contact.ContactRow.ContactRow, inner.Due.is_due_by}
use Rattle.sqltables.specs.Domain as domain_table
use Rattle.sqlobjects.proofs.NameLemmas.{contact-named}
use Rattle.sqldomains.proofs.{LinkedLemmas.first-has, NameOrderLemmas.{name-read, row-under, stands-there}}
use Rattle.sqlderived.specs.inner.Finding as spec

-- ---- sorted rows are the same rows

module _ {X : Type 0} (cmp : X → X → Ordering) where
  inserted-has : (new : X) (xs : List X) (x : X) → Has (insert_sorted cmp new xs) x → Has (new ∷ xs) x
  inserted-has new [] x there = there
  inserted-has new (y ∷ ys) x there = go (is_gt (cmp new y)) there (inserted-has new ys x)
    where
      go : (b : Bool) → Has (cond b (y ∷ insert_sorted cmp new ys) (new ∷ y ∷ ys)) x → (Has (insert_sorted cmp new ys) x → Has (new ∷ ys) x) → Has (new ∷ y ∷ ys) x
      go true (inl same) more = inr (inl same)
      go true (inr later) more = elim (more later) [ inl same ↦ inl same | inr rest ↦ inr (inr rest) ]
      go false has more = has

  has-inserted : (new : X) (xs : List X) (x : X) → Has (new ∷ xs) x → Has (insert_sorted cmp new xs) x
  has-inserted new [] x there = there
  has-inserted new (y ∷ ys) x there = go (is_gt (cmp new y)) there (has-inserted new ys x)
    where
      go : (b : Bool) → Has (new ∷ y ∷ ys) x → (Has (new ∷ ys) x → Has (insert_sorted cmp new ys) x) → Has (cond b (y ∷ insert_sorted cmp new ys) (new ∷ y ∷ ys)) x
      go true (inl same) more = inr (more (inl same))
      go true (inr (inl here)) more = inl here
      go true (inr (inr later)) more = inr (more (inr later))
      go false has more = has

  has-sorted : (xs : List X) (x : X) → Has (sort_by cmp xs) x → Has xs x
  has-sorted [] x there = there
  has-sorted (y ∷ ys) x there = elim (inserted-has y (sort_by cmp ys) x there) [ inl same ↦ inl same | inr later ↦ inr (has-sorted ys x later) ]

  sorted-has : (xs : List X) (x : X) → Has xs x → Has (sort_by cmp xs) x
  sorted-has [] x there = there
  sorted-has (y ∷ ys) x (inl same) = has-inserted y (sort_by cmp ys) x (inl same)
  sorted-has (y ∷ ys) x (inr later) = has-inserted y (sort_by cmp ys) x (inr (sorted-has ys x later))

  -- of all rows that may be due each is there
  pub sorted-picked : {D : Type 0} (stored : List X) (may : X → Bool) (read : X → Option D) (test : X → D → Option Due) → HasPicked stored read may test (λ d. true) (sort_by cmp (filter may stored))
  sorted-picked stored may read test = record {
    some = λ row there. (has-filter may stored row (has-sorted (filter may stored) row there)).0;
    all = λ row x d there reads is due picked. sorted-has (filter may stored) row (filter-has may stored row there is);
  }

-- ---- what is due by a moment is due no later

some-due : (kind : ObjectKind) (n : List ℕ) (o : Option ℕ) (d : Due) → due_then kind n o ≡ Some d → (m : ℕ) × (o ≡ Some m)
some-due kind n None d e = cc
some-due kind n (Some m) d e = (m, refl)

has-come : (t m u : ℕ) → passed t m ≡ Some u → int_le (pos m) (pos t) ≡ true
has-come t m u e = go (nat_lt t m) refl e
  where
    go : (b : Bool) → nat_lt t m ≡ b → cond b None (Some m) ≡ Some u → int_le (pos m) (pos t) ≡ true
    go true is f = cc
    go false is f = grind (arith, nat_tests, is)

-- ---- contacts

pub record IsContactRow (xs : Content) (row : ContactRow) (c : Contact) : Type 0 where
  pub name : c.name ≡ row.name
  pub sponsor : row.sponsor ≡ registrar_column c.sponsor
  pub transfer : last_transfer (filter (transfer_with_contact row.id) xs.transfers) ≡ Some c.transfer
  pub due : maybe_due_column c.transfer ≡ row.due

pub contact-row : (xs : Content) (row : ContactRow) (c : Contact) → contact_read xs row ≡ Some c → IsContactRow xs row c
contact-row xs row c e =
    let transfer = step (last_transfer (filter (transfer_with_contact row.id) xs.transfers)) (contact_of_columns row) c e in
    let r = step (registration_in kinds.Contact (contact_registration_columns row)) _ c transfer.rest in
    let s = step (statuses_in row.statuses) _ c r.rest in
    let due = kept (contact_with row r.given s.given (street_in row.postal.street) transfer.given) c (is_same (maybe_due_column transfer.given) row.due) s.rest in
    let roid = step (roid_in kinds.Contact row.creator row.serial) _ r.given r.is in
    let sponsor = step (registrar_in row.sponsor) _ r.given roid.rest in
    let created = step (moment_in_column row.created) _ r.given sponsor.rest in
    let transferred = step (maybe_moment_in row.transferred) _ r.given created.rest in
    let updated = step (maybe_moment_in row.updated) _ r.given transferred.rest in
    record {
      name = sym (ap (λ (x : Contact). x.name) due.1);
      sponsor = sym (registrar_written row.sponsor c.sponsor (sponsor.is ∙ (λ i. Some (same_some _ r.given updated.rest i).sponsor) ∙ ap (λ (z : Contact). Some z.sponsor) due.1));
      transfer = transfer.is ∙ ap (λ (z : Contact). Some z.transfer) due.1;
      due = ap (λ (x : Contact). maybe_due_column x.transfer) (sym due.1) ∙ same_is_equal (maybe_due_column transfer.given) row.due due.0;
    }

pub contact-stands : (xs : Content) (row : ContactRow) (c : Contact) → IsConsistent xs → Has xs.contacts row → contact_read xs row ≡ Some c → get (contacts_of xs) row.name ≡ Some c
contact-stands xs row c consistent there reads =
    sym (contact-named xs row.name) ∙ ap (first_read (contact_read xs)) (only_named contact_table.contacts.key (λ (r : ContactRow). r.name) xs.contacts row consistent.keyed.contacts consistent.named.contacts there) ∙ ap (λ o. or_else o None) reads

pub contact-under : (xs : Content) (n : List ℕ) (c : Contact) → get (contacts_of xs) n ≡ Some c → (row : ContactRow) × Has xs.contacts row × (contact_read xs row ≡ Some c) × (row.name ≡ n)
contact-under xs n c e =
    let it = first-has (contact_read xs) (filter (contact_table.contact_with_name n) xs.contacts) c (contact-named xs n ∙ e) in
    let there = has-filter (contact_table.contact_with_name n) xs.contacts it.0 it.1 in
    (it.0, there.0, it.2, bytes_is it.0.name n there.1)

pub never-before : (m : ℕ) → int_le (pos 0) (pos m) ≡ true
never-before m = grind (arith)

column-within : (t u : ℕ) (transfer : Option Transfer) → option_and_then (passed t) (completes_at transfer) ≡ Some u → is_due_by (pos t) (maybe_due_column transfer) ≡ true
column-within t u None e = cc
column-within t u (Some x) e = go (is_pending_state x.state) e
  where
    go : (b : Bool) → option_and_then (passed t) (cond b (Some x.ac_date) None) ≡ Some u → is_due_by (pos t) (cond b (Some (pos x.ac_date)) None) ≡ true
    go true f = and_from _ _ (never-before x.ac_date) (has-come t x.ac_date u f)
    go false f = cc

-- a contact that is due has a row that may be
contact-within : (xs : Content) (t : ℕ) (row : ContactRow) (c : Contact) (d : Due) → Has xs.contacts row → contact_read xs row ≡ Some c → contact_due t (row.name, c) ≡ Some d
    → contact_table.contact_within_due (pos t) row ≡ true
contact-within xs t row c d there reads due =
    let moment = some-due kinds.Contact row.name (option_and_then (passed t) (completes_at c.transfer)) d due in
    ap (is_due_by (pos t)) (sym (contact-row xs row c reads).due) ∙ column-within t moment.0 c.transfer moment.1

-- ---- domains

-- nothing but the days is looked at
same-due : (p : PolicyRules) (d : Domain) → due_at (rules_with p.days) d ≡ due_at p d
same-due p d = go d.deletion
  where
    go : (x : Option _) → due_of (rules_with p.days) x d ≡ due_of p x d
    go None = refl
    go (Some x) = refl

no-later : (a b c : ℤ) → int_le a b ≡ true → int_le b c ≡ true → int_le a c ≡ true
no-later a b c e f = grind (arith, e, f)

-- ---- a right column

column-comes : (a : ℤ) (m : ℕ) → int_eq a (pos (capped m)) ≡ true → int_le a (pos m) ≡ true
column-comes a m e = grind (arith, ints, e)

column-is : (n m : ℕ) → n < 7_258_118_399 → int_eq (pos n) (pos (capped m)) ≡ true → m ≡ n
column-is n m before e = grind (arith, ints, e)

-- where it isn't the last moment it is when the domain is due
due-by-column : (p : PolicyRules) (t : ℕ) (xs : Content) (row : DomainRow) (n : ℕ) → row.due ≡ pos n → n < 7_258_118_399 → is_due_right p.days xs row ≡ true
    → spec.domain_due_in_row p t xs row ≡ Some (due_then kinds.Domain row.name (passed t n))
due-by-column p t xs row n column before right = go (domain_read xs row) refl
  where
    go : (o : Option Domain) → domain_read xs row ≡ o → option_map (λ (d : Domain). domain_due p t (d.name, d)) o ≡ Some (due_then kinds.Domain row.name (passed t n))
    go None reads = absurd (true≢false (sym right ∙ ap (λ o. option_map_or (λ x. int_eq row.due (pos (capped (due_at (rules_with p.days) x)))) o false) reads))
    go (Some d) reads =
        let is : int_eq (pos n) (pos (capped (due_at (rules_with p.days) d))) ≡ true =
        ap (λ z. int_eq z (pos (capped (due_at (rules_with p.days) d)))) (sym column) ∙ sym (ap (λ o. option_map_or (λ x. int_eq row.due (pos (capped (due_at (rules_with p.days) x)))) o false) reads) ∙ right in
        let due : due_at p d ≡ n = sym (same-due p d) ∙ column-is n (due_at (rules_with p.days) d) before is in
        λ i. Some (due_then kinds.Domain (name-read xs row d reads i) (passed t (due i)))

-- a right column shows what is due of the domain
shown-right : (p : PolicyRules) (t : ℕ) (xs : Content) (row : DomainRow) → is_due_right p.days xs row ≡ true → spec.domain_due_shown p t xs row ≡ spec.domain_due_in_row p t xs row
shown-right p t xs row right = go row.due refl
  where
    at : (n : ℕ) → row.due ≡ pos n → (b : Bool) → nat_lt n 7_258_118_399 ≡ b
        → cond b (Some (due_then kinds.Domain row.name (passed t n))) (spec.domain_due_in_row p t xs row) ≡ spec.domain_due_in_row p t xs row
    at n column true before = sym (due-by-column p t xs row n column (grind (arith, nat_tests, before)) right)
    at n column false late = refl

    go : (z : ℤ) → row.due ≡ z → spec.due_by_column p t xs row z ≡ spec.domain_due_in_row p t xs row
    go (pos n) column = at n column (nat_lt n 7_258_118_399) refl
    go (negsuc n) column = refl

-- ---- what is due of rows, and of the objects that stand

module _ (xs : Content) (p : PolicyRules) (t : ℕ) (pick : Due → Bool) (contacts : List ContactRow) (domains : List DomainRow)
    (some_contacts : HasPicked xs.contacts (contact_read xs) (contact_table.contact_within_due (pos t)) (λ row c. contact_due t (row.name, c)) pick contacts)
    (some_domains : HasPicked xs.domains (domain_read xs) (domain_table.domain_within_due (pos t)) (λ row d. domain_due p t (row.name, d)) pick domains)
    (consistent : IsConsistent xs) (days : days_of_rows xs ≡ Some p.days) (right : dues_are_right xs ≡ true) where
  row-right : (row : DomainRow) → Has xs.domains row → is_due_right p.days xs row ≡ true
  row-right row there = sym (ap (λ o. option_map_or (λ ds. is_due_right ds xs row) o true) days) ∙ test_has (has_right_due xs) xs.domains row right there

  -- a domain that is due has a row that may be
  domain-within : (row : DomainRow) (d : Domain) (it : Due) → Has xs.domains row → domain_read xs row ≡ Some d → domain_due p t (row.name, d) ≡ Some it
      → domain_table.domain_within_due (pos t) row ≡ true
  domain-within row d it there reads due =
      let moment = some-due kinds.Domain row.name (passed t (due_at p d)) it due in
      let column : int_le row.due (pos (due_at (rules_with p.days) d)) ≡ true = column-comes row.due (due_at (rules_with p.days) d) (sym (ap (λ o. option_map_or (λ x. int_eq row.due (pos (capped (due_at (rules_with p.days) x)))) o false) reads) ∙ row-right row there) in
      no-later row.due (pos (due_at p d)) (pos t) (ap (λ m. int_le row.due (pos m)) (sym (same-due p d)) ∙ column) (has-come t (due_at p d) moment.0 moment.1)

  pub due-picked : (due : List Due) → spec.AreDue p t xs contacts domains due → filter pick due ≡ filter pick (due_by p t (spec.objects_in xs))
  due-picked due it =
      let second = sym (rows-alike (spec.domain_due_shown p t xs) (spec.domain_due_in_row p t xs) domains it.found
      (λ row there. shown-right p t xs row (row-right row (some_domains.some row there)))) ∙ it.second in
      let first = found-picked (λ (r : ContactRow). r.name) (λ (c : Contact). c.name) (contact_read xs) (contact_table.contact_within_due (pos t)) (contact_due t)
      xs.contacts contacts (contacts_of xs) pick
      (λ row c reads. (contact-row xs row c reads).name) (λ row c there reads. contact-stands xs row c consistent there reads) (contact-under xs) (contact-within xs t) some_contacts
      [] [] it.found (record { rises = (tt, tt); forth = λ d none. none; back = λ d picked none. none }) it.first in
      same-picked pick due (due_by p t (spec.objects_in xs))
      (found-picked (λ (r : DomainRow). r.name) (λ (d : Domain). d.name) (domain_read xs) (domain_table.domain_within_due (pos t)) (domain_due p t) xs.domains domains (domains_of xs) pick
      (name-read xs) (λ row d there reads. stands-there xs row d consistent there reads) (row-under xs) domain-within some_domains
      it.found (found_due (contact_due t) [] (entries (contacts_of xs))) due first second)

-- ---- all that is due

whole : (ds : List Due) → filter (λ d. true) ds ≡ ds
whole [] = refl
whole (d ∷ ds) = ap (λ rest. d ∷ rest) (whole ds)

pub all-due : (xs : Content) (p : PolicyRules) (t : ℕ) (due : List Due) → IsConsistent xs → days_of_rows xs ≡ Some p.days → dues_are_right xs ≡ true
    → spec.AreDue p t xs (spec.contacts_until t xs) (spec.domains_until t xs) due → due ≡ due_by p t (spec.objects_in xs)
all-due xs p t due consistent days right are =
    sym (whole due) ∙ due-picked xs p t (λ d. true) (spec.contacts_until t xs) (spec.domains_until t xs)
    (sorted-picked (by_then_key contact_table.contacts contact_table.by_due) xs.contacts (contact_table.contact_within_due (pos t)) (contact_read xs) (λ row c. contact_due t (row.name, c)))
    (sorted-picked (by_then_key domain_table.domains domain_table.by_due) xs.domains (domain_table.domain_within_due (pos t)) (domain_read xs) (λ row d. domain_due p t (row.name, d)))
    consistent days right due are
    ∙ whole (due_by p t (spec.objects_in xs))
