-- Registries that are one but for what is redacted stay so, where each changes as the other.
use Rattle.std.proofs.Common.{◌≡◌, ◌≢◌, ℕ, max, Bool, true, false, cond, ◌==◌, List, [], ◌∷◌, Option, Some, None, refl, sym, ap, subst, ◌∙◌, eqb-true}
use Rattle.lifecycle.specs.Changes.{changed as account_changed}
use Rattle.decisions.specs.declared.change.Change.TheVariants.{MoveClock, OpenAccount, PutContact, DropContact, PutDomain, DropDomain, PutHost, DropHost, RenameHost, LapseContact, LapseDomain, Post}
use Rattle.isolation.proofs.{AccountLemmas.{account-changed, account-entered, deposited-left}, RedactionLemmas.account-found}
use Rattle.isolation.proofs.Words.{unwrap_or, nat_cmp_total, slice_cmp, nat_list_cmp_total, FinMap, get, insert, remove, nat_cmp-IsAntisymmetric, nat_cmp}
use Rattle.isolation.proofs.Words.{Account, Line, Posting, empty_account, entered, map_values, names_apart, map_values-insert, map_values-remove}
use Rattle.isolation.proofs.Words.{map_values-twice, AccountChange, Charge, Registry, Contact, Domain, Host, PolicyRules, Change, changed, changed_all}
use Rattle.isolation.proofs.Words.{host_renamed, itself, may_rename, with_host_renamed, Objects, AreOne, is_charge, redacted_account}
use Rattle.isolation.proofs.Words.{redacted_contact, redacted_domain, without_deposits}

abbrev pub Named : Type 0 → Type 0
Named X = FinMap (slice_cmp nat_cmp) X

abbrev pub Accounts : Type 0
Accounts = FinMap nat_cmp Account

-- ---- accounts

-- two changes of one registrar's account, of which what is left is one
abbrev pub ChangesAlike : ℕ → ℕ → (Account → Account) → (Account → Account) → Type 0
ChangesAlike r q f g = (a b : Account) → redacted_account r q a ≡ redacted_account r q b → redacted_account r q (f a) ≡ redacted_account r q (g b)

by-owner : (b : Bool) (f g : Account → Account) → ((a : Account) → b ≡ true → f a ≡ g a) → (b ≡ false → (a c : Account) → without_deposits a ≡ without_deposits c → without_deposits (f a) ≡ without_deposits (g c))
    → (a c : Account) → cond b a (without_deposits a) ≡ cond b c (without_deposits c) → cond b (f a) (without_deposits (f a)) ≡ cond b (g c) (without_deposits (g c))
by-owner true f g own others a c one = own a refl ∙ ap g one
by-owner false f g own others a c one = others refl a c one

pub given-alike : (p : PolicyRules) (r q : ℕ) (what : AccountChange) → ChangesAlike r q (account_changed p what) (account_changed p what)
given-alike p r q what = by-owner (q == r) (account_changed p what) (account_changed p what) (λ a e. refl) (λ e a c one. account-changed p what a c one)

pub entered-alike : (r q : ℕ) (x : Posting) → ChangesAlike r q (entered x.what) (entered x.what)
entered-alike r q x = by-owner (q == r) (entered x.what) (entered x.what) (λ a e. refl) (λ e a c one. account-entered x.what a c one)

-- deposits of different cents to another
pub deposited-alike : (p : PolicyRules) (r q : ℕ) → q ≢ r → (x y : Line) → is_charge x ≡ false → is_charge y ≡ false → ChangesAlike r q (account_changed p (Charge x)) (account_changed p (Charge y))
deposited-alike p r q other x y dx dy =
    by-owner (q == r) (account_changed p (Charge x)) (account_changed p (Charge y)) (λ a e. absurd (other (eqb-true q r e)))
    (λ e a c one. deposited-left p x dx a ∙ one ∙ sym (deposited-left p y dy c))

module _ (r q : ℕ) (f g : Account → Account) (alike : ChangesAlike r q f g) where
  abbrev of_map : Accounts → Account
  of_map accounts = unwrap_or (get accounts q) empty_account

  -- in a map of accounts
  pub account-alike : (a b : Accounts) → map_values (redacted_account r) a ≡ map_values (redacted_account r) b
      → map_values (redacted_account r) (insert a q (f (unwrap_or (get a q) empty_account))) ≡ map_values (redacted_account r) (insert b q (g (unwrap_or (get b q) empty_account)))
  account-alike a b one =
      map_values-insert nat_cmp nat_cmp_total nat_cmp-IsAntisymmetric (redacted_account r) a q (f (of_map a))
      ∙ (λ i. insert (one i) q (alike (of_map a) (of_map b) (account-found r q a ∙ ap of_map one ∙ sym (account-found r q b)) i))
      ∙ sym (map_values-insert nat_cmp nat_cmp_total nat_cmp-IsAntisymmetric (redacted_account r) b q (g (of_map b)))

-- ---- objects by their names

module _ {X : Type 0} (out : X → X) (m n : Named X) (one : map_values (λ (name : List ℕ). out) m ≡ map_values (λ (name : List ℕ). out) n) where
  put-left : (x y : X) → out x ≡ out y → {a b : List ℕ} → a ≡ b → map_values (λ (name : List ℕ). out) (insert m a x) ≡ map_values (λ (name : List ℕ). out) (insert n b y)
  put-left x y same {a} {b} names =
      map_values-insert (slice_cmp nat_cmp) nat_list_cmp_total names_apart (λ (name : List ℕ). out) m a x
      ∙ (λ i. insert (one i) (names i) (same i))
      ∙ sym (map_values-insert (slice_cmp nat_cmp) nat_list_cmp_total names_apart (λ (name : List ℕ). out) n b y)

  drop-left : (name : List ℕ) → map_values (λ (name : List ℕ). out) (remove m name) ≡ map_values (λ (name : List ℕ). out) (remove n name)
  drop-left name =
      map_values-remove (slice_cmp nat_cmp) nat_list_cmp_total names_apart (λ (name : List ℕ). out) m name
      ∙ (λ i. remove (one i) name)
      ∙ sym (map_values-remove (slice_cmp nat_cmp) nat_list_cmp_total names_apart (λ (name : List ℕ). out) n name)

-- ---- each change

-- two changes leave registries one that were
pub record IsAlikeChange (p : PolicyRules) (r : ℕ) (touched : Objects) (x y : Change) : Type 0 where
  pub leaves : (s t : Registry) → AreOne r touched s t → AreOne r touched (changed p x s) (changed p y t)

module _ (p : PolicyRules) (r : ℕ) (touched : Objects) where
  pub put-contact-alike : (c d : Contact) → redacted_contact r touched c ≡ redacted_contact r touched d → IsAlikeChange p r touched (PutContact c) (PutContact d)
  put-contact-alike c d same = record {
    leaves = λ s t one i. record (one i) { contacts = put-left (redacted_contact r touched) s.contacts t.contacts (λ j. (one j).contacts) c d same (λ j. (same j).name) i };
  }

  pub put-domain-alike : (c d : Domain) → redacted_domain r touched c ≡ redacted_domain r touched d → IsAlikeChange p r touched (PutDomain c) (PutDomain d)
  put-domain-alike c d same = record {
    leaves = λ s t one i. record (one i) { domains = put-left (redacted_domain r touched) s.domains t.domains (λ j. (one j).domains) c d same (λ j. (same j).name) i };
  }

  pub give-alike : (q : ℕ) (x y : AccountChange) → ChangesAlike r q (account_changed p x) (account_changed p y) → IsAlikeChange p r touched (Post q x) (Post q y)
  give-alike q x y alike = record {
    leaves = λ s t one i. record (one i) {
      accounts = account-alike r q (account_changed p x) (account_changed p y) alike s.accounts t.accounts (ap (λ (z : Registry). z.accounts) one) i;
    };
  }

  contact-left-by : (name : List ℕ) (left : Option Contact) (s t : Registry) → AreOne r touched s t → AreOne r touched (changed p (LapseContact name left) s) (changed p (LapseContact name left) t)
  contact-left-by name None s t one = λ i. record (one i) { contacts = drop-left (redacted_contact r touched) s.contacts t.contacts (λ j. (one j).contacts) name i }
  contact-left-by name (Some c) s t one = λ i. record (one i) { contacts = put-left (redacted_contact r touched) s.contacts t.contacts (λ j. (one j).contacts) c c refl (λ j. name) i }

  domain-left-by : (name : List ℕ) (left : Option Domain) (s t : Registry) → AreOne r touched s t → AreOne r touched (changed p (LapseDomain name left) s) (changed p (LapseDomain name left) t)
  domain-left-by name None s t one = λ i. record (one i) { domains = drop-left (redacted_domain r touched) s.domains t.domains (λ j. (one j).domains) name i }
  domain-left-by name (Some d) s t one = λ i. record (one i) { domains = put-left (redacted_domain r touched) s.domains t.domains (λ j. (one j).domains) d d refl (λ j. name) i }

  domains-renamed : (old new : List ℕ) (m : Named Domain) → map_values (λ name. redacted_domain r touched) (map_values (λ name. with_host_renamed old new) m) ≡ map_values (λ name. with_host_renamed old new) (map_values (λ name. redacted_domain r touched) m)
  domains-renamed old new m =
      map_values-twice (slice_cmp nat_cmp) nat_list_cmp_total names_apart (λ name. with_host_renamed old new) (λ name. redacted_domain r touched) (λ name d. redacted_domain r touched (with_host_renamed old new d)) (λ name d. refl) m
      ∙ sym (map_values-twice (slice_cmp nat_cmp) nat_list_cmp_total names_apart (λ name. redacted_domain r touched) (λ name. with_host_renamed old new) (λ name d. redacted_domain r touched (with_host_renamed old new d)) (λ name d. refl) m)

  renamed-alike : (old : List ℕ) (h : Host) (s t : Registry) → AreOne r touched s t → (b : Bool) → AreOne r touched (cond b (host_renamed old h s) s) (cond b (host_renamed old h t) t)
  renamed-alike old h s t one true = λ i. record (one i) {
    hosts = insert (remove (one i).hosts old) h.name h;
    domains = (domains-renamed old h.name s.domains ∙ (λ j. map_values (λ name. with_host_renamed old h.name) (one j).domains) ∙ sym (domains-renamed old h.name t.domains)) i;
  }
  renamed-alike old h s t one false = one

  -- the same change in both
  same-left : (x : Change) (s t : Registry) → AreOne r touched s t → AreOne r touched (changed p x s) (changed p x t)
  same-left (MoveClock u) s t one = λ i. record (one i) { clock = max u (one i).clock }
  same-left (OpenAccount q) s t one = λ i. record (one i) {
    accounts = account-alike r q itself itself (λ a b same. same) s.accounts t.accounts (ap (λ (z : Registry). z.accounts) one) i;
  }
  same-left (PutContact c) s t one = (put-contact-alike c c refl).leaves s t one
  same-left (DropContact name) s t one = contact-left-by name None s t one
  same-left (PutDomain d) s t one = (put-domain-alike d d refl).leaves s t one
  same-left (DropDomain name) s t one = domain-left-by name None s t one
  same-left (PutHost h) s t one = λ i. record (one i) { hosts = insert (one i).hosts h.name h }
  same-left (DropHost name) s t one = λ i. record (one i) { hosts = remove (one i).hosts name }
  same-left (RenameHost old h) s t one = subst (λ (b : Bool). AreOne r touched (cond (may_rename s.hosts old h.name) (host_renamed old h s) s) (cond b (host_renamed old h t) t))
      (ap (λ (z : Registry). may_rename z.hosts old h.name) one) (renamed-alike old h s t one (may_rename s.hosts old h.name))
  same-left (LapseContact name left) s t one = contact-left-by name left s t one
  same-left (LapseDomain name left) s t one = domain-left-by name left s t one
  same-left (Post q what) s t one = (give-alike q what what (given-alike p r q what)).leaves s t one

  pub same-change : (x : Change) → IsAlikeChange p r touched x x
  same-change x = record { leaves = same-left x }

  -- ---- lists of changes

  abbrev pub AreAlikeChanges : List Change → List Change → Type 0
  AreAlikeChanges [] [] = Unit {0}
  AreAlikeChanges (x ∷ xs) (y ∷ ys) = IsAlikeChange p r touched x y × AreAlikeChanges xs ys
  AreAlikeChanges xs ys = ⊥

  pub same-changes : (xs : List Change) → AreAlikeChanges xs xs
  same-changes [] = tt
  same-changes (x ∷ xs) = (same-change x, same-changes xs)

  pub changed-alike : (xs ys : List Change) → AreAlikeChanges xs ys → (s t : Registry) → AreOne r touched s t → AreOne r touched (changed_all p xs s) (changed_all p ys t)
  changed-alike [] [] alike s t one = one
  changed-alike (x ∷ xs) (y ∷ ys) alike s t one = changed-alike xs ys alike.1 (changed p x s) (changed p y t) (alike.0.leaves s t one)
  changed-alike xs ys alike s t one = absurd alike
