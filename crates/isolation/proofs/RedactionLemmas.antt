-- What is left out once is left out twice, and more is left out of what is left.
use Rattle.std.proofs.Common.{arith, ◌≡◌, ◌≢◌, ℕ, Bool, true, false, cond, ◌&&◌, ◌==◌, List, [], Option, Some, None, option_map, refl, sym, ap, ◌∙◌}
use Rattle.isolation.proofs.AccountLemmas.{filter-twice}
use Rattle.isolation.proofs.Words.{unwrap_or, nat_cmp_total, slice_cmp, nat_list_cmp_total, FinMap, get, nat_cmp-IsAntisymmetric, nat_cmp, and_from}
use Rattle.isolation.proofs.Words.{and_parts, eq-eqb, Account, Line, empty_account, map_values, names_apart, get-map_values}
use Rattle.isolation.proofs.Words.{map_values-twice, Registry, account_of, Contact, Postal, Domain, Roid, Objects, AreOne, is_charge, is_redacted}
use Rattle.isolation.proofs.Words.{no_postal, redacted, redacted_account, redacted_contact, redacted_domain, blank_if, without_deposits, ne_eqb}

-- ---- hidden data

-- a contact with other hidden data
abbrev pub with_data : List ℕ → Postal → Option (List ℕ) → List ℕ → Contact → Contact
with_data secret postal voice mail c = record c { secret = secret; postal = postal; voice = voice; mail = mail }

abbrev pub with_secret : List ℕ → Domain → Domain
with_secret secret d = record d { secret = secret }

-- and without it, if it is to be left out
abbrev pub left_out : Bool → List ℕ → Postal → Option (List ℕ) → List ℕ → Contact → Contact
left_out out secret postal voice mail c = with_data (blank_if out [] secret) (blank_if out no_postal postal) (blank_if out None voice) (blank_if out [] mail) c

-- what is left out first is left out then
pub left_out-twice : (b c : Bool) → (b ≡ true → c ≡ true) → (secret : List ℕ) (postal : Postal) (voice : Option (List ℕ)) (mail : List ℕ) (x : Contact)
    → left_out c secret postal voice mail x ≡ left_out c (blank_if b [] secret) (blank_if b no_postal postal) (blank_if b None voice) (blank_if b [] mail) x
left_out-twice b c more secret postal voice mail x = grind arith

pub secret-twice : (b c : Bool) → (b ≡ true → c ≡ true) → (secret : List ℕ) (d : Domain) → with_secret (blank_if c [] secret) d ≡ with_secret (blank_if c [] (blank_if b [] secret)) d
secret-twice b c more secret d = grind arith

-- what is left out stays so, where who is no party stays none
pub still-out : (a b c : Bool) → (b ≡ true → c ≡ true) → (a && b) ≡ true → (a && c) ≡ true
still-out a b c more e = let both = and_parts a b e in and_from a c both.0 (more both.1)

-- ---- larger sets

both-more : (a b c : Bool) → (a ≡ true → b ≡ true) → (a && c) ≡ true → (b && c) ≡ true
both-more a b c more e = let both = and_parts a c e in and_from b c (more both.0) both.1

module _ (r : ℕ) (touched more : Objects) (within : (roid : Roid) → touched roid ≡ true → more roid ≡ true) where
  contact-more : (c : Contact) → redacted_contact r more (redacted_contact r touched c) ≡ redacted_contact r more c
  contact-more c = sym (left_out-twice (is_redacted r touched c.roid c.sponsor c.transfer) (is_redacted r more c.roid c.sponsor c.transfer)
      (both-more (touched c.roid) (more c.roid) _ (within c.roid)) c.secret c.postal c.voice c.mail c)

  domain-more : (d : Domain) → redacted_domain r more (redacted_domain r touched d) ≡ redacted_domain r more d
  domain-more d = sym (secret-twice (is_redacted r touched d.roid d.sponsor d.transfer) (is_redacted r more d.roid d.sponsor d.transfer)
      (both-more (touched d.roid) (more d.roid) _ (within d.roid)) d.secret d)

  account-again : (q : ℕ) (a : Account) → redacted_account r q (redacted_account r q a) ≡ redacted_account r q a
  account-again q a = by (q == r)
    where
      by : (b : Bool) → cond b (cond b a (without_deposits a)) (without_deposits (cond b a (without_deposits a))) ≡ cond b a (without_deposits a)
      by true = refl
      by false = ap (λ (lines : List Line). record a { lines = lines }) (filter-twice is_charge a.lines)

  pub redacted-more : (s : Registry) → redacted r more (redacted r touched s) ≡ redacted r more s
  redacted-more s = λ i. record s {
    contacts = map_values-twice (slice_cmp nat_cmp) nat_list_cmp_total names_apart (λ name. redacted_contact r touched) (λ name. redacted_contact r more) (λ name. redacted_contact r more) (λ name. contact-more) s.contacts i;
    domains = map_values-twice (slice_cmp nat_cmp) nat_list_cmp_total names_apart (λ name. redacted_domain r touched) (λ name. redacted_domain r more) (λ name. redacted_domain r more) (λ name. domain-more) s.domains i;
    accounts = map_values-twice nat_cmp nat_cmp_total nat_cmp-IsAntisymmetric (redacted_account r) (redacted_account r) (redacted_account r) account-again s.accounts i;
  }

  -- registries that are one but for some objects are so but for more
  pub one-but-more : (s t : Registry) → AreOne r touched s t → AreOne r more s t
  one-but-more s t one = sym (redacted-more s) ∙ ap (redacted r more) one ∙ redacted-more t

-- ---- accounts

module _ (r q : ℕ) where
  left-empty : redacted_account r q empty_account ≡ empty_account
  left-empty = elim (q == r) as (λ (b : Bool). cond b empty_account (without_deposits empty_account) ≡ empty_account) [ true ↦ refl | false ↦ refl ]

  left-found : (o : Option Account) → redacted_account r q (unwrap_or o empty_account) ≡ unwrap_or (option_map (redacted_account r q) o) empty_account
  left-found None = left-empty
  left-found (Some a) = refl

  -- what is left of the account that is found is what is found of what is left
  pub account-found : (accounts : FinMap nat_cmp Account) → redacted_account r q (unwrap_or (get accounts q) empty_account) ≡ unwrap_or (get (map_values (redacted_account r) accounts) q) empty_account
  account-found accounts = left-found (get accounts q) ∙ ap (λ (o : Option Account). unwrap_or o empty_account) (sym (get-map_values nat_cmp nat_cmp_total nat_cmp-IsAntisymmetric (redacted_account r) accounts q))

-- ---- what registries that are one share

module _ (r : ℕ) (touched : Objects) where
  contact-left : (s : Registry) (name : List ℕ) → get (redacted r touched s).contacts name ≡ option_map (redacted_contact r touched) (get s.contacts name)
  contact-left s name = get-map_values (slice_cmp nat_cmp) nat_list_cmp_total names_apart (λ name. redacted_contact r touched) s.contacts name

  domain-left : (s : Registry) (name : List ℕ) → get (redacted r touched s).domains name ≡ option_map (redacted_domain r touched) (get s.domains name)
  domain-left s name = get-map_values (slice_cmp nat_cmp) nat_list_cmp_total names_apart (λ name. redacted_domain r touched) s.domains name

  pub account-left : (s : Registry) (q : ℕ) → account_of q (redacted r touched s) ≡ redacted_account r q (account_of q s)
  account-left s q = sym (account-found r q s.accounts)

  module _ (s t : Registry) (one : AreOne r touched s t) where
    pub same-clock : s.clock ≡ t.clock
    same-clock = ap (λ (x : Registry). x.clock) one

    pub same-hosts : s.hosts ≡ t.hosts
    same-hosts = ap (λ (x : Registry). x.hosts) one

    pub same-contact : (name : List ℕ) → option_map (redacted_contact r touched) (get s.contacts name) ≡ option_map (redacted_contact r touched) (get t.contacts name)
    same-contact name = sym (contact-left s name) ∙ ap (λ (x : Registry). get x.contacts name) one ∙ contact-left t name

    pub same-domain : (name : List ℕ) → option_map (redacted_domain r touched) (get s.domains name) ≡ option_map (redacted_domain r touched) (get t.domains name)
    same-domain name = sym (domain-left s name) ∙ ap (λ (x : Registry). get x.domains name) one ∙ domain-left t name

    pub same-account : (q : ℕ) → redacted_account r q (account_of q s) ≡ redacted_account r q (account_of q t)
    same-account q = sym (account-left s q) ∙ ap (account_of q) one ∙ account-left t q

    -- the registrar's own account is the same
    pub same-own : account_of r s ≡ account_of r t
    same-own = sym (own-left s) ∙ same-account r ∙ own-left t
      where
        own-left : (x : Registry) → redacted_account r r (account_of r x) ≡ account_of r x
        own-left x = ap (λ (b : Bool). cond b (account_of r x) (without_deposits (account_of r x))) (eq-eqb r r refl)

    -- and another's without its deposits
    pub same-others : (q : ℕ) → q ≢ r → without_deposits (account_of q s) ≡ without_deposits (account_of q t)
    same-others q other = sym (other-left s) ∙ same-account q ∙ other-left t
      where
        other-left : (x : Registry) → redacted_account r q (account_of q x) ≡ without_deposits (account_of q x)
        other-left x = ap (λ (b : Bool). cond b (account_of q x) (without_deposits (account_of q x))) (ne_eqb q r other)
