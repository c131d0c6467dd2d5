-- What a command or an order leaves of a registry in which nothing is due has nothing due in it.
use Rattle.std.proofs.Common.{◌≡◌, inl, inr, ℕ, ◌+◌, ◌<◌, ◌≤◌, max, false, List, Option, Some, None, option_map, refl, sym, subst, arith}
use Rattle.decisions.proofs.Words.{Asked, Bad, Change, changed_all, ClientApproved, Command, Contact, is_pending_state}
use Rattle.decisions.proofs.Words.{domain_with_transfer, order_decision, redemption_end, renewed_domain, restored_domain, restoring_domain}
use Rattle.decisions.proofs.Words.{changes_after, completes_at, day-count, order_effect, updated_domain, with_account, with_command}
use Rattle.decisions.proofs.Words.{handed_over, is_pending, IsDeletion, last_clock, plus_years, PolicyRules}
use Rattle.decisions.proofs.Words.{cases_lt, decision, Deletion, earlier, IsSettled, nat_tests, purge_at, Registry, requested, turns-are}
use Rattle.decisions.proofs.Words.{Domain, due_at, due_by, due_of, effect, end, ended, expiry, gained, get, Host, IsSound, later, name_of, Order, Transfer, turns}
use Rattle.decisions.proofs.Lemmas.{all-put, AllFit, CommandCases, order-cases, Puts, request-cases, clock-kept}
use Rattle.calendar.proofs.YearLaws.{plus_years-lt, plus_years-zero}
use Rattle.policy.specs.declared.days.Period.TheVariants as periods

-- ---- a domain that another stands in for

pub years-ahead : (created n k : ℕ) → n ≤ k → plus_years created n ≤ plus_years created k
years-ahead created n k le = elim (cases_lt n k) [
  | inl lt ↦ omega (arith, plus_years-lt created n k lt)
  | inr ge ↦ let same : n ≡ k = omega (arith, le, ge) in subst (λ (m : ℕ). plus_years created n ≤ plus_years created m) same (omega arith)
]

expiry-ahead : (t m : ℕ) (o : Option ℕ) → t < earlier m o → t < m
expiry-ahead t m None lt = lt
expiry-ahead t m (Some n) lt = omega (arith, lt)

earlier-of-both : (t m n : ℕ) (o : Option ℕ) → t < n → t < earlier m o → t < earlier n o
earlier-of-both t m n None ahead lt = ahead
earlier-of-both t m n (Some k) ahead lt = omega (arith, ahead, lt)

earlier-ahead : (t m n : ℕ) (o : Option ℕ) → m ≤ n → t < earlier m o → t < earlier n o
earlier-ahead t m n o le lt = earlier-of-both t m n o (omega (arith, le, expiry-ahead t m o lt)) lt

-- registered for at least the other's years, it expires no earlier
expires-later : (d e : Domain) → e.created ≡ d.created → d.years ≤ e.years → expiry d ≤ expiry e
expires-later d e created years = rw created (years-ahead d.created d.years e.years years)

-- deleted as the other is, it is due later if it is where neither is deleted
due-as : (p : PolicyRules) (t : ℕ) (d e : Domain) → e.deletion ≡ d.deletion → (t < earlier (expiry d) (completes_at d.transfer) → t < earlier (expiry e) (completes_at e.transfer)) → t < due_at p d → t < due_at p e
due-as p t d e deletion undeleted lt = subst (λ (o : Option Deletion). t < due_of p o e) (sym deletion) (by d.deletion lt)
  where
    by : (o : Option Deletion) → t < due_of p o d → t < due_of p o e
    by None lt = undeleted lt
    by (Some x) lt = lt

-- transferred as the other is, and registered for at least its years, it is due no earlier
pub due-no-earlier : (p : PolicyRules) (t : ℕ) (d e : Domain) → e.deletion ≡ d.deletion → e.transfer ≡ d.transfer → e.created ≡ d.created → d.years ≤ e.years → t < due_at p d → t < due_at p e
due-no-earlier p t d e deletion transfer created years = due-as p t d e deletion (λ lt.
    subst (λ (x : Option Transfer). t < earlier (expiry e) (completes_at x)) (sym transfer) (earlier-ahead t (expiry d) (expiry e) (completes_at d.transfer) (expires-later d e created years) lt))

-- a domain that is deleted is purged later
due-after-deletion : (p : PolicyRules) → IsSound p → (t : ℕ) → t < purge_at p (record { deleted = t; restore_requested = None })
due-after-deletion p sound t =
    let x : Deletion = record { deleted = t; restore_requested = None } in
    omega (arith, (day-count periods.Redemption t p.days sound.days_in_range).0, (day-count periods.PendingDelete (redemption_end p x) p.days sound.days_in_range).0)

-- one whose restoration is asked for is purged later
due-after-request : (p : PolicyRules) → IsSound p → (t : ℕ) (x : Deletion) → t < purge_at p (record x { restore_requested = Some t })
due-after-request p sound t x =
    omega (arith, (day-count periods.Restore t p.days sound.days_in_range).0, (day-count periods.PendingDelete (later (redemption_end p x) (Some (end periods.Restore t p))) p.days sound.days_in_range).0)

restoring-ahead : (p : PolicyRules) → IsSound p → (t : ℕ) (d : Domain) → t < due_at p d → t < due_at p (restoring_domain t d)
restoring-ahead p sound t d lt = by d.deletion lt
  where
    by : (o : Option Deletion) → t < due_of p o d → t < due_of p (option_map (λ (x : Deletion). record x { restore_requested = Some t }) o) (restoring_domain t d)
    by None lt = lt
    by (Some x) lt = due-after-request p sound t x

completes-none : (o : Option Transfer) → is_pending o ≡ false → completes_at o ≡ None
completes-none None none = refl
completes-none (Some x) none = rw none refl

-- one that is restored has the years that put its expiry after the moment, and no transfer was pending
restored-ahead : (p : PolicyRules) (s : Registry) (t : ℕ) (d : Domain) → IsDeletion p s d d.deletion → t < due_at p d → t < due_at p (restored_domain t d)
restored-ahead p s t d deleted lt = by d.deletion deleted lt
  where
    by : (o : Option Deletion) → IsDeletion p s d o → t < due_of p o d → t < earlier (plus_years d.created (d.years + turns d t)) (completes_at d.transfer)
    by None deleted lt = earlier-of-both t (expiry d) (plus_years d.created (d.years + turns d t)) (completes_at d.transfer) (turns-are d t).after lt
    by (Some x) deleted lt = rw (completes-none d.transfer deleted.transfer) (turns-are d t).after

-- ---- changes that put nothing that is due

abbrev pub PutsNothingDue : PolicyRules → ℕ → Change → Registry → Type 0
PutsNothingDue p t = Puts p (λ (c : Contact). due_by t c.transfer ≡ None) (λ (h : Host). Unit {0}) (λ (d : Domain). t < due_at p d)

-- by this moment
abbrev PutNothingDue : PolicyRules → ℕ → List Change → Registry → Type 0
PutNothingDue p t changes s = AllFit p (PutsNothingDue p t) changes s

settled-changed_all : (p : PolicyRules) (changes : List Change) (s : Registry) → PutNothingDue p s.clock changes s → IsSettled p s → IsSettled p (changed_all p changes s)
settled-changed_all p changes s fit is =
    let after = all-put p (λ (c : Contact). due_by s.clock c.transfer ≡ None) (λ (h : Host). Unit {0}) (λ (d : Domain). s.clock < due_at p d) changes s fit (search (is.contacts, is.domains)) in
    let same = clock-kept p (PutsNothingDue p s.clock) (λ u t never. never) changes s fit in
    record { contacts = λ n c at. rw same (after.contacts n c at); domains = λ n d at. rw same (after.domains n d at) }

-- ---- commands

-- each domain that is deleted has neither subordinate hosts nor a pending transfer
abbrev pub HasDeletions : PolicyRules → Registry → Type 0
HasDeletions p s = (name : List ℕ) (d : Domain) → get s.domains name ≡ Some d → IsDeletion p s d d.deletion

-- a domain whose transfer isn't pending, and that is registered for at least its years
ended-ahead : (p : PolicyRules) (t : ℕ) (d e : Domain) → e.deletion ≡ d.deletion → completes_at e.transfer ≡ None → e.created ≡ d.created → d.years ≤ e.years → t < due_at p d → t < due_at p e
ended-ahead p t d e deletion over created years = due-as p t d e deletion (λ lt.
    subst (λ (o : Option ℕ). t < earlier (expiry e) o) (sym over) (omega (arith, expires-later d e created years, expiry-ahead t (expiry d) (completes_at d.transfer) lt)))

module _ (p : PolicyRules) (sound : IsSound p) (s : Registry) (early : s.clock ≤ last_clock) where
  abbrev t : ℕ
  t = s.clock

  -- one that is registered for at least a year expires later
  new-ahead : (years : ℕ) → t < plus_years t (max 1 years)
  new-ahead years = omega (arith, plus_years-zero t, plus_years-lt t 0 (max 1 years) (omega arith))

  -- a transfer that is asked for is due once the time to answer is over
  asked-ahead : (r sponsor : ℕ) → t < (requested p r sponsor t).ac_date
  asked-ahead r sponsor = omega (arith, early, (day-count periods.Answer t p.days sound.days_in_range).0)

  asked-not-due : (r sponsor : ℕ) → due_by t (Some (requested p r sponsor t)) ≡ None
  asked-not-due r sponsor = grind (arith, nat_tests, asked-ahead r sponsor)

  asked-domain-ahead : (r : ℕ) (d : Domain) → d.deletion ≡ None → t < due_at p d → t < due_at p (domain_with_transfer (requested p r d.sponsor t) d)
  asked-domain-ahead r d undeleted lt =
      let expires : t < expiry d = expiry-ahead t (expiry d) (completes_at d.transfer) (subst (λ (o : Option Deletion). t < due_of p o d) undeleted lt) in
      subst (λ (o : Option Deletion). t < due_of p o (domain_with_transfer (requested p r d.sponsor t) d)) (sym undeleted) (omega (arith, expires, asked-ahead r d.sponsor))

-- nor is one that is over
over-not-due : (t : ℕ) (x : Transfer) → is_pending_state x.state ≡ false → due_by t (Some x) ≡ None
over-not-due t x over = rw over refl

-- no command puts anything that is due
commands-settled : (p : PolicyRules) → IsSound p → (r : ℕ) (cl_trid : Option (List ℕ)) (s : Registry) → s.clock ≤ last_clock → HasDeletions p s → IsSettled p s
    → CommandCases p r cl_trid s (λ q changes. PutNothingDue p s.clock changes (with_account r with_command s))
commands-settled p sound r cl_trid s early formed is = record {
  contacts = search (is.contacts, asked-not-due p sound s early, over-not-due);
  hosts = search (arith, due-no-earlier p s.clock);
  none = λ q. tt;
  acknowledged = λ id. (tt, tt);
  domain_created = λ new kept fit linked paid. (new-ahead p sound s early new.years, (tt, (tt, tt)));
  domain_dropped = λ name d it. (tt, (tt, tt));
  domain_deleted = λ name d years it. (due-after-deletion p sound s.clock, (tt, tt));
  domain_updated = λ u d it linked. (due-no-earlier p s.clock d (updated_domain s.clock u d) refl refl refl (omega arith) (is.domains (name_of u.name) d it.at), tt);
  renewed = λ name expires years d it fits. (due-no-earlier p s.clock d (renewed_domain s.clock years d) refl refl refl (omega arith) (is.domains (name_of name) d it.at), (tt, tt));
  restoring = λ name d at. (restoring-ahead p sound s.clock d (is.domains (name_of name) d at), tt);
  restored = λ name del_time res_time d it. (restored-ahead p s s.clock d (formed (name_of name) d it.at) (is.domains (name_of name) d it.at), (tt, tt));
  domain_asked = λ q n d at askable paid. (asked-domain-ahead p sound s early r d askable.undeleted (is.domains n d at), (tt, (tt, tt)));
  domain_approved = λ q n d at y last pending own.
      (tt, (ended-ahead p s.clock d (handed_over (ended ClientApproved s.clock y) (gained d s.clock) d) refl refl refl (omega arith) (is.domains n d at), (tt, tt)));
  domain_turned_down = λ q n d at y last pending state to notice over down side.
      (ended-ahead p s.clock d (domain_with_transfer (ended state s.clock y) d) refl (completes-none (Some (ended state s.clock y)) over) refl (omega arith) (is.domains n d at), (tt, (tt, tt)));
}

-- A registrar's command leaves nothing due where nothing was.
pub settled-effect : (p : PolicyRules) → IsSound p → (r : ℕ) (c : Command) (s : Registry) → s.clock ≤ last_clock → HasDeletions p s → IsSettled p s → IsSettled p (effect p r c s)
unfolding changes_after
settled-effect p sound r (Bad cl_trid fault) s early formed is = settled-changed_all p (decision p r (Bad cl_trid fault) s).changes s (tt, tt) is
settled-effect p sound r (Asked cl_trid q) s early formed is =
    settled-changed_all p (decision p r (Asked cl_trid q) s).changes s (tt, request-cases p r cl_trid s _ (commands-settled p sound r cl_trid s early formed is) q) is

-- An order of the operator leaves nothing due where nothing was.
pub settled-order : (p : PolicyRules) (order : Order) (s : Registry) → IsSettled p s → IsSettled p (order_effect p order s)
settled-order p order s is = settled-changed_all p (order_decision p order s).changes s (order-cases p s (λ changes. PutNothingDue p s.clock changes s) (search (arith, is.contacts, is.domains, due-no-earlier p s.clock)) order) is
