-- What posts make of an account whose row isn't written yet.
use Rattle.std.proofs.Common.{◌≡◌, ◌⊎◌, inl, inr, ℕ, ℤ, pos, ◌<ℤ◌, Bool, true, false, cond, List, [], ◌∷◌, Option, Some, None, Result, Ok, Err, int_eq, refl, sym, ap, subst, ◌∙◌, arith}
use Rattle.std.specs.Result.{IsErr}
use Rattle.sqlaccounts.proofs.Words.{Account, account_of_row, account_of_rows, AccountRow, accounts_of, accounts_to, all_weaker, cases_Bool, Content}
use Rattle.sqlaccounts.proofs.Words.{empty_account, eq_by_cmp, eq_by_cmp_equiv, FinMap, get, get-insert, get_by, Has, has_found, has_right_sums}
use Rattle.sqlaccounts.proofs.Words.{HasEnd, HasNewCounters, ident_and_held, insert, insert_by, ints, is_place, is_right, IsChange}
use Rattle.sqlaccounts.proofs.Words.{IsConsistent, IsKeyedBy, IsPosted, IsReady, IsRowOf, key-get_by, LineRow, lines_under, MessageRow}
use Rattle.sqlaccounts.proofs.Words.{nat_cmp, nat_cmp-IsAntisymmetric, nat_cmp_total, none_past, option_map, option_map_or, PostsTo, queue_under}
use Rattle.sqlaccounts.proofs.Words.{Reads, reads-same, registrar_column, row_of, same_map, Schedule, StateOf, Stays, stays-on, then-became}
use Rattle.sqlaccounts.proofs.Words.{unwrap_or, with_account_changed, with_counters, with_row}
use Rattle.sqlaccounts.proofs.{AccountLemmas.{accounts-put, get-found, row_here, row_there, sums-put}, CallLemmas.{stays-after, then-kept}}
use Rattle.sqlaccounts.proofs.FindingLemmas.{equal}
use Rattle.states.specs.declared.fault.BookFault.{BookFault}
use Rattle.states.proofs.LeavingLemmas.{leaves-on}
use Rattle.accounts.specs.declared.counters.Counters.{Counters}
use Rattle.sqlrows.specs.Meanings.{HasChanged}
use Rattle.sqltables.specs.Account as account_table
use Rattle.sqltables.proofs.PuttingLemmas.{consistent-with as put-consistent, put-twice}

abbrev key : AccountRow → ℤ
key = account_table.accounts.key

-- the content with these rows of lines and messages
abbrev pub beside : List LineRow → List MessageRow → Content → Content
beside ls ms xs = record xs { lines = ls; messages = ms }

-- ---- the rows with one that isn't written

-- the row that is found is an account's
pub row-found : (r : ℕ) (row : AccountRow) (xs : Content) → is_place r ≡ true → Some row ≡ row_of xs (registrar_column r) → IsRowOf r row xs
row-found r row xs place found = record { place = place; id = key-get_by key xs.accounts (registrar_column r) row (sym found); own = row; there = sym found; ident = refl }

-- one that is there already stays where it is
put-there : (xs : List AccountRow) (row : AccountRow) (id : ℤ) → IsKeyedBy key xs → row.id ≡ id → get_by key xs id ≡ Some row → insert_by key xs row ≡ xs
put-there [] row id up at e = cc
put-there (x ∷ xs) row id up at e =
    let past : ¬ (id <ℤ x.id) = λ above.
    let none : Some row ≡ None = sym e ∙ none_past key (x ∷ xs) id (above, all_weaker _ (λ (y : AccountRow). id <ℤ y.id) (λ y h. omega (arith, ints, above, h)) xs up.0) in cc in
    grind (arith, ints, put-there xs row id up.1 at, past, at, e)

-- it changes nothing
pub with-found : (r : ℕ) (row : AccountRow) (xs : Content) → IsConsistent xs → Some row ≡ row_of xs (registrar_column r) → with_row row xs ≡ xs
with-found r row xs consistent found =
    ap (λ rows. accounts_to (λ _. rows) xs) (put-there xs.accounts row (registrar_column r) consistent.keyed.accounts (key-get_by key xs.accounts (registrar_column r) row (sym found)) (sym found))

-- what was posted is the row of the account too
pub row-posted : (days : Option Schedule) (r : ℕ) (f : Account → Account) (row changed : AccountRow) (old new : Content) → IsRowOf r row old → IsPosted days r f row changed old new → IsRowOf r changed new
row-posted days r f row changed old new is posted = record {
  place = is.place;
  id = posted.id ∙ is.id;
  own = is.own;
  there = ap (λ rows. row_of (accounts_to (λ _. rows) new) (registrar_column r)) posted.unwritten ∙ is.there;
  ident = is.ident ∙ sym (ap (λ (it : List ℕ × ℤ). it.0) posted.stands);
}

module _ (r : ℕ) (row : AccountRow) (xs : Content) (is : IsRowOf r row xs) where
  own_id : is.own.id ≡ row.id
  own_id = key-get_by key xs.accounts (registrar_column r) is.own is.there ∙ sym is.id

  pub row-seen : row_of (with_row row xs) (registrar_column r) ≡ Some row
  row-seen = row_here xs (with_row row xs) r row refl is.id (registrar_column r) (equal (registrar_column r) (registrar_column r) refl)

  pub account-seen : get (accounts_of (with_row row xs)) r ≡ Some (account_of_row xs row)
  account-seen = get-found (with_row row xs) r row is.place row-seen

  -- lines and messages are the account's own, written or not
  own-account : get (accounts_of xs) r ≡ Some (account_of_row xs is.own)
  own-account = get-found xs r is.own is.place is.there

  pub own-lines : (account_of_rows r xs).lines ≡ lines_under xs row.id
  own-lines = ap (λ (o : Option Account). (unwrap_or o empty_account).lines) own-account ∙ ap (lines_under xs) own_id

  pub own-queue : (account_of_rows r xs).queue ≡ queue_under xs row.id
  own-queue = ap (λ (o : Option Account). (unwrap_or o empty_account).queue) own-account ∙ ap (queue_under xs) own_id

  -- the rows are as consistent with it
  pub consistent-with : IsConsistent xs → IsConsistent (with_row row xs)
  consistent-with it = put-consistent xs row is.own it (has_found (λ (a : AccountRow). int_eq a.id (registrar_column r)) xs.accounts is.own is.there).0 own_id is.ident

module _ (days : Option Schedule) (r : ℕ) (row : AccountRow) (xs : Content) (is : IsRowOf r row xs) where
  -- other rows of lines and messages, as if both rows of account were written
  pub posted-rows : (f : Account → Account) (changed : AccountRow) (ls : List LineRow) (ms : List MessageRow) → changed.id ≡ row.id → ident_and_held changed ≡ ident_and_held row
      → ((id : ℤ) → int_eq (pos r) id ≡ false → lines_under (beside ls ms xs) id ≡ lines_under xs id) → ((id : ℤ) → int_eq (pos r) id ≡ false → queue_under (beside ls ms xs) id ≡ queue_under xs id)
      → account_of_row (beside ls ms xs) changed ≡ f (account_of_row xs row) → is_right (beside ls ms xs) changed ≡ is_right xs row → ((line : LineRow) → Has ls line → Has xs.lines line ⊎ HasEnd days line)
      → IsPosted days r f row changed xs (beside ls ms xs)
  posted-rows f changed ls ms id stands lines queues here right ends =
      let old : Content = with_row row xs in
      let new : Content = with_row changed (beside ls ms xs) in
      let at : changed.id ≡ pos r = id ∙ is.id in
      let put : new.accounts ≡ insert_by key old.accounts changed = sym (put-twice key xs.accounts row changed (sym id)) in
      let value : account_of_row new changed ≡ f (unwrap_or (get (accounts_of old) r) empty_account) = here ∙ sym (ap (λ a. f (unwrap_or a empty_account)) (account-seen r row xs is)) in
      let kept : is_right new changed ≡ has_right_sums old (pos r) = right ∙ sym (ap (λ o. option_map_or (is_right old) o true) (row-seen r row xs is)) in
      record {
        change = record {
          there = (account_of_row xs row, account-seen r row xs is);
          accounts = accounts-put old new r f changed is.place put at lines queues value kept;
          sums = sums-put old new r f changed is.place put at lines queues value kept;
          idents_and_held = λ k. elim (cases_Bool (int_eq (pos r) k)) [
            | inl e ↦ ap (option_map ident_and_held) (row_here old new r changed put at k e) ∙ ap Some stands ∙ sym (ap (option_map ident_and_held) (row_here xs old r row refl is.id k e))
            | inr e ↦ ap (option_map ident_and_held) (row_there old new r changed put at k e)
          ];
          others = record { metas = refl; days = refl; contacts = refl; domains = refl; hosts = refl; addresses = refl; links = refl; transfers = refl };
        };
        unwritten = refl;
        id = id;
        stands = stands;
        ends = ends;
      }

  -- other counters
  pub counts-posted : (f : Account → Account) (x : Counters) (changed : AccountRow) → with_counters x (account_of_row xs row) ≡ f (account_of_row xs row) → HasNewCounters x row changed → IsPosted days r f row changed xs xs
  counts-posted f x changed same it =
      posted-rows f changed xs.lines xs.messages (ap (λ (a : AccountRow). a.id) it.rest) (ap ident_and_held it.rest) (λ id e. refl) (λ id e. refl)
      ((λ i. record { lines = lines_under xs (it.rest i).id; queue = queue_under xs (it.rest i).id; commands = (it.back i).commands; messages = (it.back i).messages; serial = (it.back i).serial }) ∙ same)
      (ap (is_right xs) it.rest) (λ line has. inl has)

  -- nothing is changed
  pub posted-still : (f : Account → Account) → f (account_of_row xs row) ≡ account_of_row xs row → IsPosted days r f row row xs xs
  posted-still f still = posted-rows f row xs.lines xs.messages refl refl (λ id e. refl) (λ id e. refl) (sym still) refl (λ line has. inl has)

-- ---- one change, and another

covered : (c : Bool) (a b : Account) (o : Option Account) → cond c (Some b) (cond c (Some a) o) ≡ cond c (Some b) o
covered c a b o = grind arith

put-put : (m : FinMap nat_cmp Account) (r : ℕ) (a b : Account) → insert (insert m r a) r b ≡ insert m r b
put-put m r a b = same_map nat_cmp_total nat_cmp-IsAntisymmetric _ _ (λ q.
    rw (get-insert nat_cmp_total (insert m r a) r b q, get-insert nat_cmp_total m r a q, get-insert nat_cmp_total m r b q) (covered (eq_by_cmp nat_cmp q r) a b (get m q)))

now-there : (m : FinMap nat_cmp Account) (r : ℕ) (a : Account) → get (insert m r a) r ≡ Some a
now-there m r a = rw (get-insert nat_cmp_total m r a r, (eq_by_cmp_equiv nat_cmp_total).refl r)

change-on : (r : ℕ) (f g : Account → Account) (a b c : Content) → IsChange r f a b → IsChange r g b c → IsChange r (λ x. g (f x)) a c
change-on r f g a b c one two = record {
  there = one.there;
  accounts =
      two.accounts ∙ ap (λ m. with_account_changed g m r) one.accounts
      ∙ ap (λ (o : Option Account). insert (with_account_changed f (accounts_of a) r) r (g (unwrap_or o empty_account))) (now-there (accounts_of a) r (f (unwrap_or (get (accounts_of a) r) empty_account)))
      ∙ put-put (accounts_of a) r (f (unwrap_or (get (accounts_of a) r) empty_account)) (g (f (unwrap_or (get (accounts_of a) r) empty_account)));
  sums = two.sums ∙ one.sums;
  idents_and_held = λ id. two.idents_and_held id ∙ one.idents_and_held id;
  others = record {
    metas = two.others.metas ∙ one.others.metas;
    days = two.others.days ∙ one.others.days;
    contacts = two.others.contacts ∙ one.others.contacts;
    domains = two.others.domains ∙ one.others.domains;
    hosts = two.others.hosts ∙ one.others.hosts;
    addresses = two.others.addresses ∙ one.others.addresses;
    links = two.others.links ∙ one.others.links;
    transfers = two.others.transfers ∙ one.others.transfers;
  };
}

module _ (days : Option Schedule) (r : ℕ) where
  -- one post and another
  pub posted-on : (f g : Account → Account) (row mid changed : AccountRow) (a b c : Content) → IsPosted days r f row mid a b → IsPosted days r g mid changed b c → IsPosted days r (λ x. g (f x)) row changed a c
  posted-on f g row mid changed a b c one two = record {
    change = change-on r f g (with_row row a) (with_row mid b) (with_row changed c) one.change two.change;
    unwritten = two.unwritten ∙ one.unwritten;
    id = two.id ∙ one.id;
    stands = two.stands ∙ one.stands;
    ends = λ line has. elim (two.ends line has) [ inl there ↦ one.ends line there | inr end ↦ inr end ];
  }

  -- by what else it makes of the account
  pub posted-as : (f g : Account → Account) (row changed : AccountRow) (old new : Content) → IsRowOf r row old → f (account_of_row old row) ≡ g (account_of_row old row) → IsPosted days r f row changed old new → IsPosted days r g row changed old new
  posted-as f g row changed old new is same it = record {
    change = record {
      there = it.change.there;
      accounts =
          it.change.accounts
          ∙ ap (λ (a : Account). insert (accounts_of (with_row row old)) r a)
          (ap (λ (o : Option Account). f (unwrap_or o empty_account)) (account-seen r row old is) ∙ same ∙ sym (ap (λ (o : Option Account). g (unwrap_or o empty_account)) (account-seen r row old is)));
      sums = it.change.sums;
      idents_and_held = it.change.idents_and_held;
      others = it.change.others;
    };
    unwritten = it.unwritten;
    id = it.id;
    stands = it.stands;
    ends = it.ends;
  }

-- the same behind a look at the store, by what else it makes of the account
pub posts-behind : (result : Result AccountRow BookFault) (days : Option Schedule) (r : ℕ) (f g : Account → Account) (row : AccountRow) (a b c : StateOf Content) → Reads a b
    → (b.is_clean ≡ true → (changed : AccountRow) (ys : Content) → IsPosted days r f row changed a.content ys → IsPosted days r g row changed a.content ys) → PostsTo result days r f row b c → PostsTo result days r g row a c
posts-behind (Ok changed) days r f g row a b c reads same made = record {
  clean = λ e. reads.clean (made.clean e);
  before = λ e. made.before e ∙ reads.before (made.clean e);
  opened = made.opened;
  content = λ e. same (made.clean e) changed c.content (subst (λ xs. IsPosted days r f row changed xs c.content) (reads.content (made.clean e)) (made.content e));
  answers = λ was. made.answers (reads.answers was);
  leaves = leaves-on a b c reads.leaves made.leaves;
}
posts-behind (Err fault) days r f g row a b c reads same made = stays-on a b c reads made

-- the same behind another post
pub posts-then : (result : Result AccountRow BookFault) (days : Option Schedule) (r : ℕ) (f g : Account → Account) (row mid : AccountRow) (a b c : StateOf Content) → HasChanged (IsPosted days r f row mid) a b → PostsTo result days r g mid b c
    → PostsTo result days r (λ x. g (f x)) row a c
posts-then (Ok changed) days r f g row mid a b c one two =
    then-became (IsPosted days r f row mid) (IsPosted days r g mid changed) (IsPosted days r (λ x. g (f x)) row changed) a b c one two
    (λ clean first second. posted-on days r f g row mid changed a.content b.content c.content first second)
posts-then (Err fault) days r f g row mid a b c one two = stays-after (IsPosted days r f row mid) a b c one two

-- ---- one after another

-- some are made, and those that are left make of the account what all of them do
pub record IsUnderway {X : Type 0} (days : Option Schedule) (r : ℕ) (make : List X → Account → Account) (all left : List X) (row changed : AccountRow) (old new : StateOf Content) : Type 0 where
  pub made : Account → Account
  pub together : (a : Account) → make left (made a) ≡ make all a
  pub posted : HasChanged (IsPosted days r made row changed) old new

pub at-first : {X : Type 0} (days : Option Schedule) (r : ℕ) (make : List X → Account → Account) (all left : List X) (row : AccountRow) (a : StateOf Content) → (a.is_clean ≡ true → IsRowOf r row a.content)
    → a.is_open ≡ true → left ≡ all → IsUnderway days r make all left row row a a
at-first days r make all left row a is begun e = record {
  made = λ x. x;
  together = λ x. ap (λ items. make items x) e;
  posted = then-kept (IsPosted days r (λ x. x) row row) a a (reads-same a) begun (λ clean. posted-still days r row a.content (is clean) (λ x. x) refl);
}

module _ {X : Type 0} {days : Option Schedule} {r : ℕ} {make : List X → Account → Account} {all now : List X} {row mid : AccountRow} {a b : StateOf Content} (it : IsUnderway days r make all now row mid a b) where
  -- the row is the account's
  pub ready-underway : (a.is_clean ≡ true → IsRowOf r row a.content) → IsReady r mid b
  ready-underway is = record { begun = it.posted.opened; there = λ clean. row-posted days r it.made row mid a.content b.content (is (it.posted.clean clean)) (it.posted.content clean) }

  pub then-one : {f : Account → Account} {x : X} {left : List X} {changed : AccountRow} {c : StateOf Content} → now ≡ x ∷ left → HasChanged (IsPosted days r f mid changed) b c → ((y : Account) → make left (f y) ≡ make (x ∷ left) y)
      → IsUnderway days r make all left row changed a c
  then-one {f} {x} {left} {changed} {c} e one step = record {
    made = λ y. f (it.made y);
    together = λ y. step (it.made y) ∙ sym (ap (λ items. make items (it.made y)) e) ∙ it.together y;
    posted = then-became (IsPosted days r it.made row mid) (IsPosted days r f mid changed) (IsPosted days r (λ y. f (it.made y)) row changed) a b c it.posted one
        (λ clean first second. posted-on days r it.made f row mid changed a.content b.content c.content first second);
  }

  pub refused-on : (result : Result AccountRow BookFault) (c : StateOf Content) → IsErr result → Stays b c → PostsTo result days r (make all) row a c
  refused-on (Err fault) c failed stays = stays-after (IsPosted days r it.made row mid) a b c it.posted stays
  refused-on (Ok changed) c failed stays = cc

  pub at-last : now ≡ [] → ((y : Account) → make [] y ≡ y) → HasChanged (IsPosted days r (make all) row mid) a b
  at-last e none =
      subst (λ (f : Account → Account). HasChanged (IsPosted days r f row mid) a b) (λ i y. (sym (none (it.made y)) ∙ sym (ap (λ items. make items (it.made y)) e) ∙ it.together y) i) it.posted
