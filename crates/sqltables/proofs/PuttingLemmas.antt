-- What putting an account's row makes of the rows.
use Rattle.std.proofs.Common.{◌≡◌, ◌⊎◌, inl, inr, ℤ, ◌==◌, true, false, not, length, List, [], ◌∷◌, filter, Option, refl, sym, ap, ◌∙◌, subst, arith, Ordering, Less, Equal, Greater, int_cmp, true≢false}
use Rattle.std.specs.Ordering.{is_eq, match_ordering}
use Rattle.sqltables.proofs.Words.{account_with_id, AccountRow, accounts, accounts_to, Content, Has, insert_by, ints}
use Rattle.sqltables.proofs.Words.{IsConsistent, IsKeyedBy, IsKeyedBy-insert_by, IsNamedBy, LeadsTo, metas, same_int, update_where}
use Rattle.sqltables.proofs.RowLemmas.{same_by_key}
use Rattle.sqlite_rules.proofs.ListLemmas.{has_filtered}
use Rattle.sqlrows.proofs.{ListLemmas.only_one, ReplaceLemmas.replaced-is-put, RowLemmas.{has-insert_by, put-or-there}}

-- ---- a row put in its place

same_cmp : (a b : ℤ) → a ≡ b → int_cmp a b ≡ Equal
same_cmp a b e = grind (arith, ints)

module _ {X : Type 0} (key : X → ℤ) where
  -- no number goes
  put-keeps-keys : (xs : List X) (new y : X) → Has xs y → (z : X) × Has (insert_by key xs new) z × (key z ≡ key y)
  put-keeps-keys [] new y h = absurd h
  put-keeps-keys (x ∷ xs) new y h = go (int_cmp (key x) (key new)) refl (put-keeps-keys xs new y) h
    where
      go : (o : Ordering) → int_cmp (key x) (key new) ≡ o → (Has xs y → (z : X) × Has (insert_by key xs new) z × (key z ≡ key y))
          → (y ≡ x) ⊎ Has xs y → (z : X) × Has (match_ordering o (x ∷ insert_by key xs new) (new ∷ xs) (new ∷ x ∷ xs)) z × (key z ≡ key y)
      go Less e more (inl p) = (x, inl refl, ap key (sym p))
      go Less e more (inr h) = let it = more h in (it.0, inr it.1, it.2)
      go Equal e more (inl p) = (new, inl refl, sym (same_int (key x) (key new) (ap is_eq e)) ∙ ap key (sym p))
      go Equal e more (inr h) = (y, inr h, refl)
      go Greater e more h = (y, inr h, refl)

  -- the second of two in one place is the one that stays
  pub put-twice : (xs : List X) (a b : X) → key a ≡ key b → insert_by key (insert_by key xs a) b ≡ insert_by key xs b
  put-twice [] a b same = ap (λ o. match_ordering o (a ∷ b ∷ []) (b ∷ []) (b ∷ a ∷ [])) (same_cmp (key a) (key b) same)
  put-twice (x ∷ xs) a b same = go (int_cmp (key x) (key a)) (sym (ap (int_cmp (key x)) same)) (put-twice xs a b same)
    where
      go : (o : Ordering) → int_cmp (key x) (key b) ≡ o → insert_by key (insert_by key xs a) b ≡ insert_by key xs b
          → insert_by key (match_ordering o (x ∷ insert_by key xs a) (a ∷ xs) (a ∷ x ∷ xs)) b ≡ insert_by key (x ∷ xs) b
      go Less e more = rw e (ap (λ ys. x ∷ ys) more)
      go Equal e more = rw (e, same_cmp (key a) (key b) same)
      go Greater e more = rw (e, same_cmp (key a) (key b) same)

-- ---- the row of an account in the place of one with its number and its name

led-with : {X : Type 0} (xs : List X) (column : X → Option ℤ) (rows : List AccountRow) (row : AccountRow) → LeadsTo xs column rows (λ (x : AccountRow). x.id) → LeadsTo xs column (insert_by accounts.key rows row) (λ (x : AccountRow). x.id)
led-with xs column rows row led x h id is =
    let it = led x h id is in
    let z = put-keeps-keys accounts.key rows row it.0 it.1 in
    (z.0, z.1, z.2 ∙ it.2)

named-with : (rows : List AccountRow) (row old : AccountRow) → IsKeyedBy accounts.key rows → Has rows old → old.id ≡ row.id → old.ident ≡ row.ident → IsNamedBy (λ (x : AccountRow). x.ident) rows → IsNamedBy (λ (x : AccountRow). x.ident) (insert_by accounts.key rows row)
named-with rows row old up there same-id same-ident named a b ha hb e = go (put-or-there accounts.key rows row a ha) (put-or-there accounts.key rows row b hb)
  where
    key : AccountRow → ℤ
    key = accounts.key

    -- a row that was there and has the new one's name has its number too
    met : (x : AccountRow) → Has rows x → x.ident ≡ row.ident → x.id ≡ row.id
    met x h same = ap (λ (y : AccountRow). y.id) (named x old h there (same ∙ sym same-ident)) ∙ same-id

    one : a.id ≡ b.id → a ≡ b
    one = same_by_key accounts.key (insert_by accounts.key rows row) a b (IsKeyedBy-insert_by accounts.key rows row up) ha hb

    go : (a ≡ row) ⊎ Has rows a → (b ≡ row) ⊎ Has rows b → a ≡ b
    go (inl p) (inl q) = p ∙ sym q
    go (inl p) (inr h) = one (ap (λ (x : AccountRow). x.id) p ∙ sym (met b h (sym e ∙ ap (λ (x : AccountRow). x.ident) p)))
    go (inr h) (inl q) = one (met a h (e ∙ ap (λ (x : AccountRow). x.ident) q) ∙ sym (ap (λ (x : AccountRow). x.id) q))
    go (inr h) (inr k) = named a b h k e

pub consistent-with : (xs : Content) (row old : AccountRow) → IsConsistent xs → Has xs.accounts old → old.id ≡ row.id → old.ident ≡ row.ident → IsConsistent (accounts_to (λ rows. insert_by accounts.key rows row) xs)
consistent-with xs row old it there same-id same-ident = record {
  keyed = record {
    metas = it.keyed.metas;
    accounts = IsKeyedBy-insert_by accounts.key xs.accounts row it.keyed.accounts;
    contacts = it.keyed.contacts;
    domains = it.keyed.domains;
    hosts = it.keyed.hosts;
    addresses = it.keyed.addresses;
    links = it.keyed.links;
    lines = it.keyed.lines;
    messages = it.keyed.messages;
    transfers = it.keyed.transfers;
    days = it.keyed.days;
  };
  named = record {
    accounts = named-with xs.accounts row old it.keyed.accounts there same-id same-ident it.named.accounts;
    contacts = it.named.contacts;
    domains = it.named.domains;
    hosts = it.named.hosts;
  };
  linked = record {
    contact_sponsor = led-with xs.contacts _ xs.accounts row it.linked.contact_sponsor;
    domain_sponsor = led-with xs.domains _ xs.accounts row it.linked.domain_sponsor;
    domain_registrant = it.linked.domain_registrant;
    host_external_sponsor = led-with xs.hosts _ xs.accounts row it.linked.host_external_sponsor;
    host_sponsor = led-with xs.hosts _ xs.accounts row it.linked.host_sponsor;
    address_host = it.linked.address_host;
    link_domain = it.linked.link_domain;
    link_contact = it.linked.link_contact;
    link_host = it.linked.link_host;
    line_account = led-with xs.lines _ xs.accounts row it.linked.line_account;
    message_account = led-with xs.messages _ xs.accounts row it.linked.message_account;
    transfer_contact = it.linked.transfer_contact;
    transfer_domain = it.linked.transfer_domain;
    transfer_requester = led-with xs.transfers _ xs.accounts row it.linked.transfer_requester;
    transfer_losing = led-with xs.transfers _ xs.accounts row it.linked.transfer_losing;
  };
}

-- ---- what replaces a row that is there is put

pub account-replaced : (xs : Content) (row old : AccountRow) → IsConsistent xs → Has xs.accounts old → old.id ≡ row.id
    → accounts_to (λ rows. update_where (account_with_id row.id) (λ x. record row { id = x.id }) rows) xs ≡ accounts_to (λ rows. insert_by accounts.key rows row) xs
account-replaced xs row old consistent there same =
    ap (λ (rows : List AccountRow). accounts_to (λ _. rows) xs)
    (replaced-is-put accounts.key xs.accounts old row (λ x. record row { id = x.id }) consistent.keyed.accounts there same (λ x e. ap (λ (k : ℤ). record row { id = k }) e))

-- ---- what is asked after it

-- the account that has the number of the one that was put
pub account-put : (rows : List AccountRow) (row : AccountRow) → IsKeyedBy accounts.key rows → filter (account_with_id row.id) (insert_by accounts.key rows row) ≡ row ∷ []
account-put rows row up = only_one accounts.key (insert_by accounts.key rows row) row row.id (IsKeyedBy-insert_by accounts.key rows row up) (has-insert_by accounts.key rows row) refl

-- ---- what is known before it

-- one with its number is there
pub account-there : (rows : List AccountRow) (id : ℤ) → not (length (filter (account_with_id id) rows) == 0) ≡ true → (x : AccountRow) × Has rows x × (x.id ≡ id)
account-there rows id h = go (filter (account_with_id id) rows) refl h
  where
    go : (some : List AccountRow) → filter (account_with_id id) rows ≡ some → not (length some == 0) ≡ true → (x : AccountRow) × Has rows x × (x.id ≡ id)
    go [] e none = absurd (true≢false (sym none))
    go (row ∷ more) e _ =
        let it = has_filtered (account_with_id id) rows row (subst (λ l. Has l row) (sym e) (inl refl)) in
        (row, it.0, same_int row.id id it.1)
