-- What accounts over rows that are opened and changed are to a book.
use Rattle.std.proofs.Common.{◌≡◌, ℕ, ℤ, Bool, true, false, ◌&&◌, List, pos, Option, Some, None, option_map, refl, ap, subst, ◌∙◌, int_eq}
use Rattle.sqlbook.proofs.Words.{Account, AccountRow, accounts_of, are_right, AreOthersKept, clock_of, contacts_of, Content, domains-kept}
use Rattle.sqlbook.proofs.Words.{dues_are_right, helds_are_right, hosts_of, ident_and_held, ids_in, IsChange, IsConsistent, IsOpened, may_be_numbered}
use Rattle.sqlbook.proofs.Words.{opened_row, opening-kept, posted_to, row_of, sponsors-kept, stored_of, sums_are_right, unwrap_or}
use Rattle.sqlbook.proofs.{Words.with_account_changed, IdLemmas.{name_in, name_of, same-ids}, MeaningLemmas.{same-terms, stored-by}}
use Rattle.sqlite_keyed.proofs.KeyedLemmas.{same_int}
use Rattle.sqlcolumns.proofs.ReadLemmas.{same_some}

-- ---- accounts alone are others

module _ (old new : Content) (others : AreOthersKept old new) where
  dues-of-others : dues_are_right new ≡ dues_are_right old
  dues-of-others = λ i. dues_are_right (record new { metas = others.metas i; days = others.days i; contacts = others.contacts i; domains = others.domains i; hosts = others.hosts i; links = others.links i; transfers = others.transfers i })

  pub right-of-others : sums_are_right new ≡ sums_are_right old → helds_are_right new ≡ helds_are_right old → are_right new ≡ are_right old
  right-of-others sums helds = λ i. may_be_numbered (others.metas i) && (sums i && (helds i && (dues-of-others i && sponsors-kept old new others.hosts others.domains i)))

  -- what is held is the registry with that account changed
  pub posted-of-others : (r : ℕ) (f : Account → Account) → accounts_of new ≡ with_account_changed f (accounts_of old) r → ids_in new.accounts ≡ ids_in old.accounts → stored_of new ≡ posted_to r f (stored_of old)
  posted-of-others r f accounts ids =
      stored-by new (posted_to r f (stored_of old)) (λ i. contacts_of (record new { contacts = others.contacts i; transfers = others.transfers i })) (λ i. hosts_of (record new { hosts = others.hosts i; addresses = others.addresses i }))
      (domains-kept old new others) accounts (λ i. clock_of (record new { metas = others.metas i })) (same-terms old new others.metas others.days ids)

module _ (r : ℕ) (old new : Content) (consistent : IsConsistent old) (after : IsConsistent new) where
  -- ---- an account is changed

  pub account-changed : (f : Account → Account) → IsChange r f old new → stored_of new ≡ posted_to r f (stored_of old)
  account-changed f it =
      posted-of-others old new it.others r f it.accounts
      (same-ids new.accounts old.accounts after.keyed.accounts consistent.keyed.accounts (λ id. named-so (row_of new id) (row_of old id) (it.idents_and_held id)))
    where
      named-so : (n o : Option AccountRow) → option_map ident_and_held n ≡ option_map ident_and_held o → name_in n ≡ name_in o
      named-so None None e = refl
      named-so None (Some b) e = cc
      named-so (Some a) None e = cc
      named-so (Some a) (Some b) e = ap (λ (s : List ℕ × ℤ). name_of (Some s.0)) (same_some (ident_and_held a) (ident_and_held b) e)

  -- ---- an account is opened: a row without an id brings none

  module _ (it : IsOpened r old new) where
    own-named : (o : Option AccountRow) → name_in (Some (unwrap_or o (opened_row r))) ≡ name_in o
    own-named None = refl
    own-named (Some row) = refl

    named-at : (id : ℤ) (b : Bool) → int_eq (pos r) id ≡ b → name_in (row_of new id) ≡ name_in (row_of old id)
    named-at id true e = subst (λ k. name_in (row_of new k) ≡ name_in (row_of old k)) (same_int (pos r) id e) (ap name_in it.own ∙ own-named (row_of old (pos r)))
    named-at id false e = ap name_in (it.rows id e)

    pub account-opened : (stored_of new ≡ posted_to r (λ account. account) (stored_of old)) × (are_right new ≡ are_right old)
    account-opened = (
      posted-of-others old new it.others r (λ a. a) it.accounts (same-ids new.accounts old.accounts after.keyed.accounts consistent.keyed.accounts (λ id. named-at id (int_eq (pos r) id) refl)),
      right-of-others old new it.others it.sums (opening-kept old new r consistent it),
    )
