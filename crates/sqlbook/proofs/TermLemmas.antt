-- What another clock, and other terms, over rows are to a book.
use Rattle.std.proofs.Common.{◌≡◌, inl, inr, ℕ, ℤ, Bool, true, false, ◌&&◌, List, [], ◌∷◌, map, Option, Some, option_map, Result, refl, sym, ap, subst, ◌∙◌, cond, int_eq}
use Rattle.sqlbook.proofs.Words.{AccountRow, accounts_of, are_right, are_right_by, asked-stood, asked-then, BookFault, Changes, clock_set}
use Rattle.sqlbook.proofs.Words.{columns-kept, contacts_of, Content, days_of_rows, DomainRow, domains_of, dues_are_right, ends_are, get_by}
use Rattle.sqlbook.proofs.Words.{has_right_due, HasChanged, helds_are_right, hosts_of, is_due_right, is_live_right, IsClockSet, IsSetDown, IsSetOver}
use Rattle.sqlbook.proofs.Words.{IsTermsSet, list_all, lives_are_right, MakesAs, may_be_numbered, MeansSame, nameless, option_map_or, Reads, Schedule}
use Rattle.sqlbook.proofs.Words.{sponsors_are_right, StateOf, stored_of, SuitDomains, sums_are_right, then-became, with_terms}
use Rattle.sqlbook.proofs.{IdLemmas.key, MeaningLemmas.{alters, stored-by}}
use Rattle.policy.specs.declared.terms.Terms.{Terms}
use Rattle.sqlderived.proofs.RedateLemmas.{dues-live}

-- ---- another clock

clock-set : (m : ℕ) (old new : Content) → IsClockSet m old new → (stored_of new ≡ clock_set m (stored_of old)) × (are_right new ≡ are_right old)
clock-set m old new it = (
  stored-by new (clock_set m (stored_of old)) (ap contacts_of it.others) (ap hosts_of it.others) (ap domains_of it.others) (ap accounts_of it.others) it.clock it.terms,
  λ i.
      it.numbered i
      && (sums_are_right (it.others i)
      && (helds_are_right (it.others i) && (list_all (λ row. option_map_or (λ days. is_due_right days (it.others i) row) (it.days i) true) (it.others i).domains && sponsors_are_right (it.others i)))),
)

pub clock_made : (m : ℕ) (r : Result (Unit {0}) BookFault) (old new : StateOf Content) → Changes r (IsClockSet m) old new
    → MakesAs r stored_of are_right (clock_set m (stored_of old.content)) old new
clock_made m r old new made = alters r (IsClockSet m) _ old new made (λ it. clock-set m old.content new.content it)

-- ---- other terms

abbrev held_in : Option AccountRow → Option ℤ
held_in o = option_map (λ (row : AccountRow). row.held) o

nameless-held : (rows : List AccountRow) (id : ℤ) → held_in (get_by key (map nameless rows) id) ≡ held_in (get_by key rows id)
nameless-held [] id = refl
nameless-held (row ∷ rows) id = go (int_eq row.id id) (nameless-held rows id)
  where
    go : (b : Bool) → held_in (get_by key (map nameless rows) id) ≡ held_in (get_by key rows id) → held_in (cond b (Some (nameless row)) (get_by key (map nameless rows) id)) ≡ held_in (cond b (Some row) (get_by key rows id))
    go true more = refl
    go false more = more

-- the column of a number, among rows that are alike but for their idents
same-column : (xs ys : List AccountRow) → map nameless ys ≡ map nameless xs → (id : ℤ) → held_in (get_by key ys id) ≡ held_in (get_by key xs id)
same-column xs ys same id = sym (nameless-held ys id) ∙ ap (λ rows. held_in (get_by key rows id)) same ∙ nameless-held xs id

module _ (value : Terms) (old new : Content) (it : IsTermsSet value old new) where
  same-domains : domains_of new ≡ domains_of old
  same-domains = λ i. domains_of (it.others i)

  -- all sums are as right where the rows of domains are
  terms-right : (right : Content → DomainRow → Bool) → list_all (right new) new.domains ≡ list_all (right old) old.domains → are_right_by right new ≡ are_right_by right old
  terms-right right same = λ i. it.numbered i && (it.sums i && (columns-kept old new same-domains (same-column old.accounts new.accounts it.rows) i && (same i && sponsors_are_right (it.others i))))

  same-dues : SuitDomains value.days old → dues_are_right new ≡ dues_are_right old
  same-dues (inl same) = λ i. list_all (λ row. option_map_or (λ days. is_due_right days (it.others i) row) ((it.days ∙ sym same) i) true) (it.others i).domains
  same-dues (inr none) = ap (list_all (has_right_due new)) (ap (λ (xs : Content). xs.domains) it.others ∙ none) ∙ sym (ap (list_all (has_right_due old)) none)

  -- no length bears on the rows of domains that aren't deleted
  lives-same : are_right_by is_live_right new ≡ are_right_by is_live_right old
  lives-same = terms-right is_live_right (λ i. lives_are_right (it.others i))

  terms-changed : stored_of new ≡ with_terms value (stored_of old)
  terms-changed = stored-by new (with_terms value (stored_of old)) (ap contacts_of it.others) (ap hosts_of it.others) same-domains it.accounts it.clock it.terms

  same-lines : new.lines ≡ old.lines
  same-lines = ap (λ (xs : Content). xs.lines) it.others

  pub set-down : SuitDomains value.days old → IsSetDown value old new
  set-down suits = record { stored = terms-changed; sums = terms-right has_right_due (same-dues suits); days = it.days; lines = same-lines }

-- ---- other days, where domains are there

-- where deleted domains' columns are the ends of their deletions all sums are right if those are that hang on no length
ends-right : (days : Schedule) (xs : Content) → ends_are days xs ≡ true → days_of_rows xs ≡ Some days → are_right xs ≡ are_right_by is_live_right xs
ends-right days xs are put_down = λ i. may_be_numbered xs.metas && (sums_are_right xs && (helds_are_right xs && (dues-live days xs are put_down i && sponsors_are_right xs)))

-- rows that mean the same are put down under
set-between : (before : Schedule) (value : Terms) (a b c : Content) → ends_are before a ≡ true → days_of_rows a ≡ Some before → MeansSame a b → IsTermsSet value b c → ends_are value.days c ≡ true → IsSetDown value a c
set-between before value a b c were put_down same it are = record {
  stored = terms-changed value b c it ∙ ap (with_terms value) same.stored;
  sums = ends-right value.days c are it.days ∙ lives-same value b c it ∙ same.sums ∙ sym (ends-right before a were put_down);
  days = it.days;
  lines = same-lines value b c it ∙ same.lines;
}

-- deleted domains are looked at, put again, and after the terms were put down looked at again
pub others-set : (before : Schedule) (value : Terms) (a b c d e : StateOf Content) → Reads a b × (b.is_clean ≡ true → ends_are before a.content ≡ true) → HasChanged MeansSame b c → HasChanged (IsTermsSet value) c d
    → Reads d e × (e.is_clean ≡ true → ends_are value.days d.content ≡ true) → HasChanged (λ x y. days_of_rows x ≡ Some before → IsSetOver (Some before) value x y) a e
others-set before value a b c d e first redated set last =
    let way = λ (x y : Content). days_of_rows x ≡ Some before → IsSetOver (Some before) value x y in
    let ends = λ (x y : Content). days_of_rows x ≡ Some before → ends_are value.days y ≡ true → IsSetOver (Some before) value x y in
    let begins = λ (x y : Content). ends_are before x ≡ true → ends x y in
    let looked = λ (x y : Content). (y ≡ x) × (ends_are value.days x ≡ true) in
    let changed = then-became MeansSame (IsTermsSet value) begins b c d redated set
    (λ _ same it was were right. record { set = set-between before value b.content c.content d.content was were same it right; ends = inr right }) in
    then-became ends looked way a d e (asked-then begins ends a b d first.0 changed (λ t it. it (first.1 (changed.clean t)))) (asked-stood looked d e last.0 set.opened (λ t. (refl, last.1 t)))
    (λ _ it after were. subst (IsSetOver (Some before) value a.content) (sym after.0) (it were after.1))
