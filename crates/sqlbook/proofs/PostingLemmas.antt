-- Changes of an account, and a domain that is put with them, to a book.
use Rattle.std.proofs.Common.{◌≡◌, ◌⊎◌, ℕ, true, List, Option, Some, None, IfSome, sym, ap, subst, ◌∙◌}
use Rattle.sqlbook.proofs.Words.{Account, AccountRow, are_right, AreOthersKept, ArePosted, asked-then, change-kept, Content, days_of_rows, Domain}
use Rattle.sqlbook.proofs.Words.{domain_read, domain_set, DomainRow, domains-kept, FinMap, get, get_by, has_right_due, HasChanged, HasEnd, HaveEnds}
use Rattle.sqlbook.proofs.Words.{is_place, IsChange, IsCheckedDomain, IsConsistent, IsOpened, IsPosted, IsReplacedPosting, IsRowOf, IsSponsorSetBelow}
use Rattle.sqlbook.proofs.Words.{IsUnderDays, IsUnwritten, nat_cmp, opening-kept, posted_to, Reads, registrar_column, row_of, Schedule, StateOf}
use Rattle.sqlbook.proofs.Words.{Stored, stored_of, then-became, with_accounts, with_row, with_unwritten}
use Rattle.sqlbook.proofs.{AccountLemmas.{account-changed, account-opened, right-of-others}, IdLemmas.key, MeaningLemmas.same-days}
use Rattle.sqlbook.proofs.{ObjectLemmas.due-of-reading, ReplacingLemmas.{IsDueThen, put-right, replaced, replaced-lines}}
use Rattle.sqlite_rules.specs.Lists.{Has}
use Rattle.model.specs.Registry.{account_of}
use Rattle.books.proofs.PutLemmas.{changed-put}
use Rattle.sqlaccounts.proofs.PostingLemmas.{consistent-with, row-found, row-posted, with-found}
use Rattle.sqlderived.specs.declared.recounting.Unwritten.{Unwritten}

-- ---- an account is opened, and changed

others-on : (a b c : Content) → AreOthersKept a b → AreOthersKept b c → AreOthersKept a c
others-on a b c one two = record {
  metas = two.metas ∙ one.metas;
  days = two.days ∙ one.days;
  contacts = two.contacts ∙ one.contacts;
  domains = two.domains ∙ one.domains;
  hosts = two.hosts ∙ one.hosts;
  addresses = two.addresses ∙ one.addresses;
  links = two.links ∙ one.links;
  transfers = two.transfers ∙ one.transfers;
}

-- one that is changed is opened
given-opened : (r : ℕ) (f : Account → Account) (s : Stored) → posted_to r f (posted_to r (λ account. account) s) ≡ posted_to r f s
given-opened r f s = ap (λ (m : FinMap nat_cmp Account). with_accounts m s) (changed-put r s.registry.accounts (account_of r s.registry) f)

are-posted : (days : Option Schedule) (r : ℕ) (f : Account → Account) (row changed : AccountRow) (old opened new : Content) → IsConsistent old → IsConsistent opened → IsConsistent new
    → IsOpened r old opened → Some row ≡ row_of opened (registrar_column r) → is_place r ≡ true → IsPosted days r f row changed opened new → days ≡ days_of_rows old → ArePosted (posted_to r f) old (with_row changed new)
are-posted days r f row changed old opened new whole whole-opened whole-new opening found place posted by =
    let is = row-found r row opened place found in
    let change = subst (λ (xs : Content). IsChange r f xs (with_row changed new)) (with-found r row opened whole-opened found) posted.change in
    let consistent = consistent-with r changed new (row-posted days r f row changed opened new is posted) whole-new in
    record {
      held = account-changed r opened (with_row changed new) whole-opened consistent f change ∙ ap (posted_to r f) (account-opened r old opened whole whole-opened opening).0 ∙ given-opened r f (stored_of old);
      sums = change.sums ∙ opening.sums;
      helds = change-kept r f opened (with_row changed new) change ∙ opening-kept old opened r whole opening;
      others = others-on old opened (with_row changed new) opening.others change.others;
      consistent = consistent;
      ends = λ line here. subst (λ d. Has old.lines line ⊎ HasEnd d line) by (subst (λ lines. Has lines line ⊎ HasEnd days line) opening.lines (posted.ends line here));
    }

-- what was found is the account's row
pub found-now : (r : ℕ) (row : AccountRow) (d e : StateOf Content) → Reads d e × (e.is_clean ≡ true → Some row ≡ row_of d.content (registrar_column r)) → is_place r ≡ true → e.is_clean ≡ true → IsRowOf r row e.content
found-now r row d e found place clean = subst (IsRowOf r row) (sym (found.0.content clean)) (row-found r row d.content place (found.1 clean))

-- the account is opened, its row found, and changed
module _ (days : Option Schedule) (r : ℕ) (f : Account → Account) (row changed : AccountRow) (a b d e n : StateOf Content) (asked : Reads a b × (b.is_clean ≡ true → days ≡ days_of_rows a.content)) (opened : HasChanged (IsOpened r) b d)
    (found : Reads d e × (e.is_clean ≡ true → Some row ≡ row_of d.content (registrar_column r))) (place : is_place r ≡ true) (posted : HasChanged (IsPosted days r f row changed) e n) where
  pub then-posted : (b.is_clean ≡ true → IsConsistent b.content) → (d.is_clean ≡ true → IsConsistent d.content) → (n.is_clean ≡ true → IsConsistent n.content)
      → HasChanged (λ xs ys. ArePosted (posted_to r f) xs (with_row changed ys)) a n
  then-posted whole whole-opened whole-new =
      let posts = λ (xs ys : Content). IsPosted days r f row changed xs ys × IsConsistent ys × (Some row ≡ row_of xs (registrar_column r)) in
      let both = λ (xs ys : Content). IsConsistent xs → days ≡ days_of_rows xs → ArePosted (posted_to r f) xs (with_row changed ys) in
      asked-then both (λ (xs ys : Content). ArePosted (posted_to r f) xs (with_row changed ys)) a b n asked.0
      (then-became (IsOpened r) posts both b d n opened (asked-then (IsPosted days r f row changed) posts d e n found.0 posted (λ c it. (it, whole-new c, found.1 (posted.clean c))))
      (λ c one two was by. are-posted days r f row changed b.content d.content n.content was (whole-opened c) two.1 one two.2 place two.0 by))
      (λ c it. let clean = opened.clean (found.0.clean (posted.clean c)) in it (subst IsConsistent (asked.0.content clean) (whole clean)) (asked.1 clean))

  pub now-unwritten : n.is_clean ≡ true → IsRowOf r changed n.content
  now-unwritten c = row-posted days r f row changed e.content n.content (found-now r row d e found place (posted.clean c)) (posted.content c)

module _ (made : Stored → Stored) (old new : Content) (it : ArePosted made old new) where
  pub posted-right : are_right new ≡ are_right old
  posted-right = right-of-others old new it.others it.sums it.helds

  under-posted : (days : Schedule) → IsUnderDays days old → IsUnderDays days new
  under-posted days under = subst (λ o. IfSome o (λ d. d ≡ days)) (sym (same-days old new it.others.metas it.others.days)) under

  reads-posted : (row : DomainRow) → domain_read new row ≡ domain_read old row
  reads-posted row = λ i. domain_read (record new { contacts = it.others.contacts i; domains = it.others.domains i; hosts = it.others.hosts i; links = it.others.links i; transfers = it.others.transfers i }) row

  checked-posted : (name : List ℕ) (domain : Option Domain) → IsCheckedDomain name has_right_due old domain → IsCheckedDomain name has_right_due new domain
  checked-posted name domain checked = record {
    domain_is = ap (λ m. get m name) (domains-kept old new it.others) ∙ checked.domain_is;
    right_is = λ row here named. due-of-reading old new it.others.metas it.others.days row (reads-posted row) ∙ checked.right_is row (subst (λ rows. Has rows row) it.others.domains here) named;
  }

-- ---- a domain that is put with them

module _ (name : List ℕ) (made : Stored → Stored) (days : Schedule) (before after : Option Domain) (due : ℕ) (old new : Content) (under : IsUnderDays days old) (checked : IsCheckedDomain name has_right_due old before)
    (it : IsReplacedPosting name made before after due old new) (is_due : IsDueThen days due after) where
  pub put-posting : ((stored_of new ≡ domain_set name after (made (stored_of old))) × (are_right new ≡ are_right old)) × HaveEnds old new
  put-posting =
      let posted = it.are_posted in
      let now = checked-posted made old it.posted posted name before checked in (
        (
          replaced name has_right_due before after due it.posted new posted.consistent now it.replaced ∙ ap (domain_set name after) posted.held,
          put-right name days before after due it.posted new posted.consistent now (under-posted made old it.posted posted days under) it.replaced is_due ∙ posted-right made old it.posted posted,
        ),
        λ line here. posted.ends line (subst (λ lines. Has lines line) (replaced-lines name has_right_due before after due it.posted new posted.consistent now it.replaced) here),
      )

-- ---- hosts that take a sponsor, beside an account's row that isn't written yet

row-kept : (r : ℕ) (row : AccountRow) (old new : Content) → new.accounts ≡ old.accounts → IsRowOf r row old → IsRowOf r row new
row-kept r row old new same is = record {
  place = is.place;
  id = is.id;
  own = is.own;
  there = ap (λ rows. get_by key rows (registrar_column r)) same ∙ is.there;
  ident = is.ident;
}

pub followed-beside : (name : List ℕ) (who : Option ℕ) (row : Option Unwritten) (old new : Content) → IsUnwritten row old → IsSponsorSetBelow name who old new → IsSponsorSetBelow name who (with_unwritten row old) (with_unwritten row new)
followed-beside name who None old new is it = it
followed-beside name who (Some one) old new is it = record {
  stays = it.stays;
  moves = it.moves;
  hosts = it.hosts;
  rest = ap (with_row one.row) it.rest;
  consistent = (
    consistent-with one.registrar one.row old is it.consistent.0,
    consistent-with one.registrar one.row new (row-kept one.registrar one.row old new (ap (λ (xs : Content). xs.accounts) it.rest) is) it.consistent.1,
  );
}
