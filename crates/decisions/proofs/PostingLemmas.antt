-- What time posts into accounts goes to registrars, and keeps a registry well formed.
use Rattle.std.proofs.Common.{◌≡◌, ℕ, ◌+◌, ◌<◌, ◌≤◌, false, nat_lt, zero, suc, List, [], ◌∷◌, ◌++◌, Option, Some, None, refl, ap, subst, ◌∙◌, arith}
use Rattle.decisions.proofs.Words.{contact_completed, contact_completion, domain_notice, is_pending_state, IsLastTransfer, lapse_contact, nat_list_cmp_total}
use Rattle.decisions.proofs.Words.{account_of, completion, given_list, HasObjects, IsRegistrar, IsTransfer, LapseEntry, names_apart, PolicyRules, with_account}
use Rattle.decisions.proofs.Words.{and_parts, cond_both, cond_some, Deletion, given, lapse_by, nat_tests, plus_years, postings, purge_at, slice_cmp, turns-are}
use Rattle.decisions.proofs.Words.{Account, Contact, Domain, due_by, entered, entries, FinMap, gained, nat_cmp, Posting, Registry, Renewal, renewals, Transfer}
use Rattle.decisions.proofs.Words.{fold, get, lapse, Lapsed, leaves, lived, moved, nat_le, posted, Purged, purged, raised, turn, turns, ◌&&◌}
use Rattle.basis.proofs.EntryLaws.{Each, each_entry}
use Rattle.decisions.proofs.{KeepingLemmas.kept-account, ViewLemmas.account-keep}

-- ---- what is so of each posting

abbrev pub AllPosted : (Posting → Type 0) → List Posting → Type 0
AllPosted R [] = Unit {0}
AllPosted R (e ∷ es) = R e × AllPosted R es

module _ (R : Posting → Type 0) where
  pub posted-both : (es fs : List Posting) → AllPosted R es → AllPosted R fs → AllPosted R (es ++ fs)
  posted-both [] fs first second = second
  posted-both (e ∷ es) fs first second = (first.0, posted-both es fs first.1 second)

  posted-each : {X : Type 0} (g : List ℕ → X → List Posting) (es : List (List ℕ × X)) → Each (λ name x. AllPosted R (g name x)) es → AllPosted R (given_list g es)
  posted-each g [] each = tt
  posted-each g (e ∷ es) each = posted-both (g e.0 e.1) (given_list g es) each.0 (posted-each g es each.1)

  pub posted-given : {X : Type 0} (g : List ℕ → X → List Posting) (m : FinMap (slice_cmp nat_cmp) X) → ((name : List ℕ) (x : X) → get m name ≡ Some x → AllPosted R (g name x)) → AllPosted R (given g m)
  posted-given g m all = posted-each g (entries m) (each_entry (slice_cmp nat_cmp) nat_list_cmp_total names_apart (λ name x. AllPosted R (g name x)) m all)

-- ---- a transfer that is due

pub due-is : (t : ℕ) (o : Option Transfer) (x : Transfer) → due_by t o ≡ Some x → (o ≡ Some x) × (x.ac_date ≤ t)
due-is t None x e = cc
due-is t (Some y) x e =
    let h = cond_some (is_pending_state y.state && nat_le y.ac_date t) y x e in
    let come : y.ac_date ≤ t = grind (arith, nat_tests, (and_parts (is_pending_state y.state) _ h.0).1) in
    (ap (λ (z : Transfer). Some z) h.1, subst (λ (z : Transfer). z.ac_date ≤ t) h.1 come)

-- it lies between registrars
pub due-transfer : (p : PolicyRules) (s : Registry) (t created : ℕ) (transferred : Option ℕ) (o : Option Transfer) (x : Transfer) → due_by t o ≡ Some x → IsLastTransfer p s created transferred o → IsTransfer p s created transferred x
due-transfer p s t created transferred o x e is = subst (IsLastTransfer p s created transferred) (due-is t o x e).0 is

-- ---- a domain lapses: one that is deleted stays or is purged, and any other lives on

pub lapse-cases : (p : PolicyRules) (t : ℕ) (d : Domain) (Q : Lapsed Domain → Type 0) → ((x : Deletion) → d.deletion ≡ Some x → Q (leaves d [])) → ((x : Deletion) → nat_lt t (purge_at p x) ≡ false → Q (purged p x d))
    → (d.deletion ≡ None → (o : Option Transfer) → due_by t d.transfer ≡ o → Q (lived p t o d)) → Q (lapse p t d)
lapse-cases p t d Q deleted gone alive = by d.deletion refl
  where
    by : (o : Option Deletion) → d.deletion ≡ o → Q (lapse_by p t o d)
    by None is = alive is (due_by t d.transfer) refl
    by (Some x) is = cond_both (nat_lt t (purge_at p x)) (leaves d []) (purged p x d) Q (λ e. deleted x is) (λ e. gone x e)

-- ---- what time posts of contacts and domains

-- what is so of each turn's postings
pub renewals-each : (p : PolicyRules) (R : Posting → Type 0) (d : Domain) (n : ℕ) → ((k : ℕ) → k < n → AllPosted R (turn p d k)) → AllPosted R (renewals p d n)
unfolding renewals
renewals-each p R d zero each = tt
renewals-each p R d (suc n) each = posted-both R (renewals p d n) (turn p d n) (renewals-each p R d n (λ k lt. each k (omega (arith, lt)))) (each n (omega arith))

module _ (p : PolicyRules) (t : ℕ) (R : Posting → Type 0) where
  -- of each turn of a domain's years that has come
  abbrev pub AllTurned : Domain → Type 0
  AllTurned d = (k : ℕ) → plus_years d.created (d.years + k) ≤ t → AllPosted R (turn p d k)

  renewals-posted : (d : Domain) (n : ℕ) → AllTurned d → ((k : ℕ) → k < n → plus_years d.created (d.years + k) ≤ t) → AllPosted R (renewals p d n)
  renewals-posted d n turned by = renewals-each p R d n (λ k lt. turned k (by k lt))

  -- a domain as it is when a transfer of it is completed
  abbrev before : Transfer → Domain → Domain
  before x d = raised (turns d x.ac_date) d

  -- what holds of its turns, of what completes a transfer that is due, of the turns after that, and of its purge
  module _ (d : Domain) (turned : AllTurned d)
      (completed : (x : Transfer) → due_by t d.transfer ≡ Some x → AllPosted R (completion x (gained (before x d) x.ac_date) (before x d)) × AllTurned (moved x (before x d)))
      (gone : (x : Deletion) → nat_lt t (purge_at p x) ≡ false → R (domain_notice d.sponsor (purge_at p x) Purged d)) where
    by-transfer : (o : Option Transfer) → due_by t d.transfer ≡ o → AllPosted R (lived p t o d).postings
    by-transfer None e = renewals-posted d (turns d t) turned (turns-are d t).before
    by-transfer (Some x) e =
        let come : x.ac_date ≤ t = (due-is t d.transfer x e).1 in
        let after : Domain = moved x (before x d) in
        let done : List Posting = completion x (gained (before x d) x.ac_date) (before x d) in
        posted-both R (renewals p d (turns d x.ac_date)) (done ++ renewals p after (turns after t))
        (renewals-posted d (turns d x.ac_date) turned (λ k lt. omega (arith, (turns-are d x.ac_date).before k lt, come)))
        (posted-both R done (renewals p after (turns after t)) (completed x e).0 (renewals-posted after (turns after t) (completed x e).1 (turns-are after t).before))

    pub domain-posted : AllPosted R (lapse p t d).postings
    domain-posted = lapse-cases p t d (λ (l : Lapsed Domain). AllPosted R l.postings) (λ x is. tt) (λ x past. (gone x past, tt)) (λ alive. by-transfer)

  module _ (c : Contact) (completed : (x : Transfer) → due_by t c.transfer ≡ Some x → AllPosted R (contact_completion x c)) where
    by-completion : (o : Option Transfer) → due_by t c.transfer ≡ o → AllPosted R (contact_completed o c).postings
    by-completion None e = tt
    by-completion (Some x) e = completed x e

    pub contact-posted : AllPosted R (lapse_contact t c).postings
    contact-posted = by-completion (due_by t c.transfer) refl

  pub postings-posted : (s : Registry) → ((name : List ℕ) (c : Contact) → get s.contacts name ≡ Some c → AllPosted R (lapse_contact t c).postings)
      → ((name : List ℕ) (d : Domain) → get s.domains name ≡ Some d → AllPosted R (lapse p t d).postings) → AllPosted R (postings (λ name. lapse_contact t) (λ name. lapse p t) s)
  postings-posted s contacts domains = posted-both R (given (λ name c. (lapse_contact t c).postings) s.contacts) (given (λ name d. (lapse p t d).postings) s.domains)
      (posted-given R (λ name c. (lapse_contact t c).postings) s.contacts contacts) (posted-given R (λ name d. (lapse p t d).postings) s.domains domains)

-- ---- to registrars

abbrev IsToRegistrar : PolicyRules → Posting → Type 0
IsToRegistrar p e = IsRegistrar p e.registrar

abbrev pub AreToRegistrars : PolicyRules → List Posting → Type 0
AreToRegistrars p es = AllPosted (IsToRegistrar p) es

pub postings-to : (p : PolicyRules) (s : Registry) (t : ℕ) → HasObjects p s → AreToRegistrars p (postings (λ name. lapse_contact t) (λ name. lapse p t) s)
postings-to p s t is = postings-posted p t (IsToRegistrar p) s
    (λ name c at. contact-posted p t (IsToRegistrar p) c (λ x due.
    let k = (due-transfer p s t c.created c.transferred c.transfer x due (is.contacts name c at).transfer).recorded in
    (k.losing_registrar, (k.requester, tt))))
    (λ name d at.
    let place = (is.domains name d at).is_at.sponsor in
    domain-posted p t (IsToRegistrar p) d (λ k come. (place, (place, tt))) (λ x due.
    let k = (due-transfer p s t d.created d.transferred d.transfer x due (is.domains name d at).transfer).recorded in
    ((k.requester, (k.losing_registrar, (k.requester, tt))), λ n come. (k.requester, (k.requester, tt))))
    (λ x past. place))

-- ---- the accounts that they leave

same-serial : (what : LapseEntry) (a : Account) → (entered what a).serial ≡ a.serial
same-serial (Renewal r) a = refl
same-serial _ a = refl

serial-entered : (r other : ℕ) (what : LapseEntry) (s : Registry) → (account_of r (with_account other (entered what) s)).serial ≡ (account_of r s).serial
serial-entered r other what s = account-keep (λ (a : Account). a.serial ≡ (account_of r s).serial) s other (entered what) r (λ own same. same-serial what (account_of r s)) refl

pub serial-posted : (r : ℕ) (es : List Posting) (s : Registry) → (account_of r (record s { accounts = fold posted s.accounts es })).serial ≡ (account_of r s).serial
serial-posted r [] s = refl
serial-posted r (e ∷ es) s = serial-posted r es (with_account e.registrar (entered e.what) s) ∙ serial-entered r e.registrar e.what s

pub kept-posted : (p : PolicyRules) (es : List Posting) → AreToRegistrars p es → (s : Registry) → HasObjects p s → HasObjects p (record s { accounts = fold posted s.accounts es })
kept-posted p [] to s is = is
kept-posted p (e ∷ es) to s is = kept-posted p es to.1 (with_account e.registrar (entered e.what) s) (kept-account p e.registrar (entered e.what) (λ a. omega (arith, same-serial e.what a)) s to.0 is)
