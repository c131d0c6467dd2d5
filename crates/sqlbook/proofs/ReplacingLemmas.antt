-- What one domain in the place of another is to a book.
use Rattle.std.proofs.Common.{◌≡◌, ℕ, Bool, true, false, ◌&&◌, cond, int_eq, List, filter, Option, Some, None, IfSome, Result, Ok, Err, option_map, refl, sym, ap, subst, ◌∙◌}
use Rattle.std.specs.{Cmp.eq_by_cmp_equiv, Prelude.pos}
use Rattle.sqlbook.proofs.Words.{AccountRow, accounts-kept, accounts_of, are_right, are_right_by, AreAlike, BookFault, capped, contacts_of, Content}
use Rattle.sqlbook.proofs.Words.{days_of_rows, Domain, domain-sponsors, domain_read, domain_set, DomainRow, domains_of, due_at, due_with, eq_by_cmp}
use Rattle.sqlbook.proofs.Words.{FindsSome, FinMap, get, get-insert, get-remove, get_by, has_right_due, held-kept, helds_are_right, hosts_of, ids_in}
use Rattle.sqlbook.proofs.Words.{is_due_right, IsCheckedDomain, IsConsistent, IsReplaced, IsUnderDays, list_all, may_be_numbered, moment_column}
use Rattle.sqlbook.proofs.Words.{nat_cmp, nat_list_cmp_total, option_map_or, Reads, reads-on, row_of, rules_with, Schedule, slice_cmp, sponsor_in}
use Rattle.sqlbook.proofs.Words.{sponsors_are_right, StateOf, stays-on, stored_of, sums_are_right, with_named}
use Rattle.sqlbook.proofs.{IdLemmas.{ident_in, key, name_in, name_of, same-ids}, MeaningLemmas.{objects-changed, same-days}}
use Rattle.sqlbook.proofs.ObjectLemmas.{IsOfReading, due-of-reading, same-put}
use Rattle.sqlite_rules.specs.Lists.{Has}
use Rattle.sqlite_typed.specs.Tests.{bytes_eq}
use Rattle.sqlcolumns.proofs.ReadLemmas.{same_some}
use Rattle.sqltables.specs.Domain as table
use Rattle.sqlrows.specs.Read.{first_read, or_else}
use Rattle.books.specs.Ledgers as store
use Rattle.sqlaccounts.proofs.FindingLemmas.{equal}
use Rattle.sqldomains.proofs.{FoundLemmas.domain-named, FrameLemmas.{domains-same, reads-same, sponsor-frame}}
use Rattle.sqlobjects.proofs.{PutLemmas.only_named, VerdictLemmas.same-verdict}

-- ---- what the row of a name reads as

pub reading-is : (xs : Content) (row : DomainRow) → IsConsistent xs → Has xs.domains row → domain_read xs row ≡ get (domains_of xs) row.name
reading-is xs row consistent there =
    let alone = only_named table.domains.key (λ (r : DomainRow). r.name) xs.domains row consistent.keyed.domains consistent.named.domains there in
    sym (alone-read (domain_read xs row)) ∙ sym (ap (first_read (domain_read xs)) alone) ∙ domain-named xs row.name
  where
    alone-read : (o : Option Domain) → or_else o None ≡ o
    alone-read None = refl
    alone-read (Some d) = refl

at-itself : (name : List ℕ) → eq_by_cmp (slice_cmp nat_cmp) name name ≡ true
at-itself name = (eq_by_cmp_equiv nat_list_cmp_total).refl name

get-put : (m : FinMap (slice_cmp nat_cmp) Domain) (name : List ℕ) (value : Option Domain) → get (with_named m name value) name ≡ value
get-put m name None = get-remove nat_list_cmp_total m name name ∙ ap (λ b. cond b None (get m name)) (at-itself name)
get-put m name (Some d) = get-insert nat_list_cmp_total m name d name ∙ ap (λ b. cond b (Some d) (get m name)) (at-itself name)

-- ---- one in the place of another

module _ (name : List ℕ) (right : Content → DomainRow → Bool) (before after : Option Domain) (due : ℕ) (old new : Content)
    (consistent : IsConsistent old) (checked : IsCheckedDomain name right old before) (it : IsReplaced name before after due old new) where
  pub reads-after : (row : DomainRow) → Has new.domains row → row.name ≡ name → domain_read new row ≡ after
  reads-after row here named = reading-is new row it.put.consistent.1 here ∙ ap (get (domains_of new)) named ∙ ap (λ m. get m name) it.put.domains ∙ get-put (domains_of it.mid) name after

  -- the hosts take a sponsor, and accounts are counted anew
  rows-mid : it.mid.domains ≡ old.domains
  rows-mid = ap (λ (xs : Content). xs.domains) it.counted.rest ∙ ap (λ (xs : Content). xs.domains) it.followed.rest

  reads-mid : (row : DomainRow) → Has old.domains row → domain_read it.mid row ≡ domain_read old row
  reads-mid row there = ap (λ (xs : Content). domain_read xs row) it.counted.rest ∙ reads-same old it.moved (sponsor-frame name (sponsor_in after) old it.moved it.followed) row there

  accounts-moved : it.moved.accounts ≡ old.accounts
  accounts-moved = ap (λ (xs : Content). xs.accounts) it.followed.rest

  domains-moved : domains_of it.moved ≡ domains_of old
  domains-moved = domains-same old it.moved (sponsor-frame name (sponsor_in after) old it.moved it.followed)

  ids-mid : ids_in it.mid.accounts ≡ ids_in old.accounts
  ids-mid =
      same-ids it.mid.accounts old.accounts it.put.consistent.0.keyed.accounts consistent.keyed.accounts
      (λ id. ap name_of (alike-ident (row_of it.moved id) (row_of it.mid id) (it.counted.rows id)) ∙ ap (λ rows. name_in (get_by key rows id)) accounts-moved)
    where
      alike-ident : (o n : Option AccountRow) → AreAlike o n → ident_in n ≡ ident_in o
      alike-ident None None e = refl
      alike-ident None (Some b) e = absurd e
      alike-ident (Some a) None e = absurd e
      alike-ident (Some a) (Some b) e = ap (λ (r : AccountRow). Some r.ident) e

  -- and the domain is put
  metas-same : new.metas ≡ old.metas
  metas-same = it.put.metas ∙ ap (λ (xs : Content). xs.metas) it.counted.rest ∙ ap (λ (xs : Content). xs.metas) it.followed.rest

  days-same : new.days ≡ old.days
  days-same = it.put.days ∙ ap (λ (xs : Content). xs.days) it.counted.rest ∙ ap (λ (xs : Content). xs.days) it.followed.rest

  sums-same : sums_are_right new ≡ sums_are_right old
  sums-same = (λ i. sums_are_right (record new { accounts = it.put.accounts i; lines = it.put.lines i; messages = it.put.messages i })) ∙ it.counted.sums ∙ ap sums_are_right it.followed.rest

  held-same : helds_are_right new ≡ helds_are_right old
  held-same =
      held-kept it.moved it.mid new before after name it.counted (ap (λ m. get m name) domains-moved ∙ checked.domain_is) it.put.domains it.put.accounts
      ∙ accounts-kept old it.moved domains-moved accounts-moved

  sponsors-right : sponsors_are_right new ≡ sponsors_are_right old
  sponsors-right = domain-sponsors name after (due_with after due) old it.moved it.mid new it.followed it.counted.rest it.put

  -- the row of the name, if there was one, was right, and is right, if there is one; and all others are as right as they were
  module _ (by : IsOfReading right) (is : (row : DomainRow) → Has new.domains row → row.name ≡ name → right new row ≡ true) where
    rights-same : list_all (right new) new.domains ≡ list_all (right old) old.domains
    rights-same =
        same-verdict (λ (r : DomainRow). r.name) name old.domains new.domains (right old) (right new)
        (λ q e. it.put.others q e ∙ ap (filter (λ (r : DomainRow). bytes_eq r.name q)) rows-mid)
        (λ row there now other. by old new metas-same days-same row (it.put.readings row (subst (λ l. Has l row) (sym rows-mid) there) now other ∙ reads-mid row there))
        checked.right_is is

    pub replaced-right : are_right_by right new ≡ are_right_by right old
    replaced-right = λ i. may_be_numbered (metas-same i) && (sums-same i && (held-same i && (rights-same i && sponsors-right i)))

  pub replaced : stored_of new ≡ domain_set name after (stored_of old)
  replaced =
      objects-changed old new metas-same days-same _ _ _ (it.put.contacts ∙ ap contacts_of it.counted.rest ∙ ap contacts_of it.followed.rest) (it.put.hosts ∙ ap hosts_of it.counted.rest ∙ it.followed.hosts)
      (it.put.domains ∙ same-put (domains_of it.mid) name after ∙ ap (λ m. store.entry_set m name after) (ap domains_of it.counted.rest ∙ domains-moved))
      ((λ i. accounts_of (record new { accounts = it.put.accounts i; lines = it.put.lines i; messages = it.put.messages i })) ∙ it.counted.accounts ∙ ap accounts_of it.followed.rest)
      (ap ids_in it.put.accounts ∙ ids-mid)

  pub replaced-days : days_of_rows new ≡ days_of_rows old
  replaced-days = same-days old new metas-same days-same

  pub replaced-lines : new.lines ≡ old.lines
  replaced-lines = it.put.lines ∙ ap (λ (xs : Content). xs.lines) it.counted.rest ∙ ap (λ (xs : Content). xs.lines) it.followed.rest

-- ---- a domain that is due when its row says

pub under-right : (days : Schedule) (xs : Content) (row : DomainRow) → IsUnderDays days xs → is_due_right days xs row ≡ true → has_right_due xs row ≡ true
under-right days xs row under is = go (days_of_rows xs) under
  where
    go : (o : Option Schedule) → IfSome o (λ d. d ≡ days) → option_map_or (λ ds. is_due_right ds xs row) o true ≡ true
    go None e = refl
    go (Some these) e = ap (λ ds. is_due_right ds xs row) e ∙ is

-- the domain, if one is put, is due then
abbrev pub IsDueThen : Schedule → ℕ → Option Domain → Type 0
IsDueThen days due after = (d : Domain) → after ≡ Some d → due ≡ capped (due_at (rules_with days) d)

module _ (name : List ℕ) (days : Schedule) (before after : Option Domain) (due : ℕ) (old new : Content) (consistent : IsConsistent old) (checked : IsCheckedDomain name has_right_due old before)
    (under : IsUnderDays days old) (it : IsReplaced name before after due old new) (is_due : IsDueThen days due after) where
  row-is : (row : DomainRow) → Has new.domains row → row.name ≡ name → is_due_right days new row ≡ true
  row-is row here named = go after refl
    where
      go : (o : Option Domain) → after ≡ o → is_due_right days new row ≡ true
      go None e =
          let column : Some row.due ≡ None = it.put.due_is row here named ∙ ap (λ o. option_map moment_column (due_with o due)) e in
          cc
      go (Some d) e =
          let column : Some row.due ≡ Some (moment_column due) = it.put.due_is row here named ∙ ap (λ o. option_map moment_column (due_with o due)) e in
          ap (λ o. option_map_or (λ x. int_eq row.due (pos (capped (due_at (rules_with days) x)))) o false) (reads-after name has_right_due before after due old new consistent checked it row here named ∙ e)
          ∙ equal row.due (pos (capped (due_at (rules_with days) d))) (same_some row.due (moment_column due) column ∙ ap moment_column (is_due d e))

  pub put-right : are_right new ≡ are_right old
  put-right =
      replaced-right name has_right_due before after due old new consistent checked it due-of-reading
      (λ row here named. under-right days new row (subst (λ o. IfSome o (λ d. d ≡ days)) (sym (replaced-days name has_right_due before after due old new consistent checked it)) under) (row-is row here named))

-- a domain that was found under lengths that are those that were put down
pub found-under : (name : List ℕ) (days : Schedule) (a b c : StateOf Content) → Reads a b × (b.is_clean ≡ true → IsUnderDays days a.content) → (r : Result (Option Domain) BookFault)
    → FindsSome r (λ domain. (get (domains_of b.content) name ≡ domain) × ((row : DomainRow) → Has b.content.domains row → row.name ≡ name → is_due_right days b.content row ≡ true)) b c
    → FindsSome r (λ domain. IsUnderDays days a.content × IsCheckedDomain name has_right_due a.content domain) a c
found-under name days a b c asked (Err fault) met = stays-on a b c asked.0 met
found-under name days a b c asked (Ok domain) met = (
  reads-on a b c asked.0 met.0,
  λ e.
      let w = met.0.clean e in
      let under = asked.1 w in
      let it = subst (λ (xs : Content). (get (domains_of xs) name ≡ domain) × ((row : DomainRow) → Has xs.domains row → row.name ≡ name → is_due_right days xs row ≡ true)) (asked.0.content w) (met.1 e) in
      (under, record { domain_is = it.0; right_is = λ row here named. under-right days a.content row under (it.1 row here named) }),
)
