-- Each change keeps what a well-formed registry says of lines, where what it puts or charges fits.
use Rattle.std.proofs.Common.{◌≡◌, ◌⊎◌, ⊎_elim, ℕ, ◌≤◌, Bool, true, false, cond, not, List, Option, Some, None, is_some, unwrap_or, refl, sym, ap, subst, ◌∙◌, arith}
use Rattle.decisions.proofs.Words.{Account, account_of, AccountChange, All, AllByRecursion, begins_after, Change, changed, changed_all, cond_both, host_renamed, may_rename}
use Rattle.decisions.proofs.Words.{account_changed, add, All-from_recursion, Charge, charges_waiting, Domain, DropDomain, empty_account, get, HasBeen}
use Rattle.decisions.proofs.Words.{HasLines, HasLinesOn, in_order, is_begun_after, is_for_transfer, is_on, is_pending_state, IsAwaitedIfPending, IsLineOf}
use Rattle.decisions.proofs.Words.{Lapse, LapseContact, LapseDomain, Line, list_any, MoveClock, nat_tests, OpenAccount, PolicyRules, Post, PutDomain}
use Rattle.decisions.proofs.Words.{recursion_from_All, refunded_by, RefundRunning, RefundTransfer, Registry, remade, RenameHost, Roid, RunningRefund, runs}
use Rattle.decisions.proofs.Words.{and_parts, period_of, runs_from, TakeSerial, Transfer, waits, WasGiven, with_account, with_host_renamed, with_lines}
use Rattle.decisions.proofs.{GrowthLemmas.{Grows, been-grown, roid-grown, AllFit, all-kept}, NamedLemmas.{drop-cases, remade-cases, at-put}}
use Rattle.decisions.specs.Changes.{itself}
use Rattle.decisions.proofs.{LineEntryLemmas.begins-asks, LineEntryLemmas.waits-asks, ViewLemmas.account-keep, ViewLemmas.serial-rises}
use Rattle.model.proofs.LineLemmas.{all-add, all-remade, all-weaker, and-false, awaited-carried, count, count-add-none, count-remade, none-add, none-remade}

-- ---- the clock and serials grow, and lines stay

module _ (p q : PolicyRules) (s t : Registry) (grows : Grows p q s t) where
  given-grown : (roid : Option Roid) → WasGiven p s roid → WasGiven q t roid
  given-grown None h = tt
  given-grown (Some roid) h = roid-grown p q s t grows _ roid h

  pub line-grown : (l : Line) → IsLineOf p s l → IsLineOf q t l
  line-grown l h = search (arith, given-grown, been-grown p q s t grows, grows.clock)

  -- what keeps the lines of each account keeps what is so of each line
  pub each-kept : HasLines p s → ((r : ℕ) → AllByRecursion (IsLineOf q t) (account_of r s).lines → AllByRecursion (IsLineOf q t) (account_of r t).lines) → (r : ℕ) → All (IsLineOf q t) (account_of r t).lines
  each-kept is keeps r = All-from_recursion (IsLineOf q t) (account_of r t).lines
      (keeps r (all-weaker (IsLineOf p s) (IsLineOf q t) line-grown (account_of r s).lines (recursion_from_All (IsLineOf p s) (account_of r s).lines (is.each r))))

-- a domain under other lines, where none begins that didn't, and as many wait
pub on-carried : (s t : Registry) (d : Domain) → ((last : Option ℕ) (q : ℕ) → list_any (begins_after d.roid last) (account_of q s).lines ≡ false → list_any (begins_after d.roid last) (account_of q t).lines ≡ false)
    → ((q n : ℕ) → count (waits d.roid) (account_of q s).lines ≡ n → count (waits d.roid) (account_of q t).lines ≡ n) → HasLinesOn s d → HasLinesOn t d
on-carried s t d none as_many h =
    search (none, as_many, h.elsewhere, h.waiting, awaited-carried s t d d.transfer (λ x at pending. none (Some x.ac_date) d.sponsor) h.awaited)

-- under the lines of another registry's accounts
pub on-same : (s t : Registry) → ((r : ℕ) → (account_of r t).lines ≡ (account_of r s).lines) → (d : Domain) → HasLinesOn s d → HasLinesOn t d
on-same s t same d = on-carried s t d (λ last q none. ap (list_any (begins_after d.roid last)) (same q) ∙ none) (λ q n waiting. ap (count (waits d.roid)) (same q) ∙ waiting)

-- another domain in the place of this one, with its name, ROID, sponsor, creation and transfers
abbrev pub in_place : Domain → Domain → Domain
in_place d e = record e { name = d.name; roid = d.roid; sponsor = d.sponsor; created = d.created; transferred = d.transferred; transfer = d.transfer }

awaited-again : (s : Registry) (d e : Domain) (o : Option Transfer) → IsAwaitedIfPending s d o → IsAwaitedIfPending s (in_place d e) o
awaited-again s d e None h = tt
awaited-again s d e (Some x) h = λ pending. let w = h pending in search

-- what is asked of the lines on a domain depends on these of its parts
pub on-again : (s : Registry) (d e : Domain) → HasLinesOn s d → HasLinesOn s (in_place d e)
on-again s d e h = search (awaited-again s d e d.transfer h.awaited)

-- ---- what has begun

-- has begun by any moment from the clock on
pub begun-by : (s : Registry) (last : ℕ) (started : Option ℕ) → s.clock ≤ last → HasBeen s started → is_begun_after (Some last) started ≡ false
begun-by s last None le been = refl
begun-by s last (Some start) le been = grind (arith, nat_tests, le, been)

-- ---- objects are put and taken away

-- domains come and go, each with the lines that it is to have
pub lines-domains : (p q : PolicyRules) (s t : Registry) → Grows p q s t → ((r : ℕ) → (account_of r t).lines ≡ (account_of r s).lines)
    → ((name : List ℕ) (d : Domain) → get t.domains name ≡ Some d → HasLinesOn s d) → HasLines p s → HasLines q t
lines-domains p q s t grows same on is =
    search (each-kept p q s t grows is (λ r. subst (AllByRecursion (IsLineOf q t)) (sym (same r))), on-same s t same, on)

-- ---- one account changes

module _ (s : Registry) (r : ℕ) (f : Account → Account) where
  -- its lines stay
  pub lines-stay : ((a : Account) → (f a).lines ≡ a.lines) → (q : ℕ) → (account_of q (with_account r f s)).lines ≡ (account_of q s).lines
  lines-stay keeps q = account-keep (λ (a : Account). a.lines ≡ (account_of q s).lines) s r f q (λ own same. keeps (account_of q s)) refl

  -- and a property of them
  pub lines-keep : (P : List Line → Type 0) (q : ℕ) → (r ≡ q → P (account_of q s).lines → P (f (account_of q s)).lines) → P (account_of q s).lines → P (account_of q (with_account r f s)).lines
  lines-keep P q keeps h = account-keep (λ (a : Account). P a.lines) s r f q keeps h

  pub rises : ((a : Account) → a.serial ≤ (f a).serial) → (q : ℕ) → (account_of q s).serial ≤ (account_of q (with_account r f s)).serial
  rises more q = account-keep (λ (a : Account). (account_of q s).serial ≤ a.serial) s r f q (λ own le. more (account_of q s)) (omega arith)

  pub account-grows : (p : PolicyRules) → ((a : Account) → a.serial ≤ (f a).serial) → Grows p p s (with_account r f s)
  account-grows p more = record { zone = refl; place = λ q place. place; clock = omega arith; serial = rises more }

-- its counters and its queue change
pub lines-counted : (p : PolicyRules) (s : Registry) (r : ℕ) (f : Account → Account) → ((a : Account) → (f a).lines ≡ a.lines) → ((a : Account) → a.serial ≤ (f a).serial) → HasLines p s → HasLines p (with_account r f s)
lines-counted p s r f keeps more is =
    lines-domains p p s (with_account r f s) (account-grows s r f p more) (lines-stay s r f keeps) is.domains is

-- with its lines made anew none begins on a domain that didn't, and as many wait
pub on-relined : (s : Registry) (r : ℕ) (g : List Line → List Line) (d : Domain) → ((last : Option ℕ) (ls : List Line) → list_any (begins_after d.roid last) ls ≡ false → list_any (begins_after d.roid last) (g ls) ≡ false)
    → ((ls : List Line) → count (waits d.roid) (g ls) ≡ count (waits d.roid) ls) → HasLinesOn s d → HasLinesOn (with_account r (with_lines g) s) d
on-relined s r g d none as_many = on-carried s (with_account r (with_lines g) s) d
    (λ last q. lines-keep s r (with_lines g) (λ ls. list_any (begins_after d.roid last) ls ≡ false) q (λ own. none last (account_of q s).lines))
    (λ q n. lines-keep s r (with_lines g) (λ ls. count (waits d.roid) ls ≡ n) q (λ own h. as_many (account_of q s).lines ∙ h))

lines-relined : (p : PolicyRules) (s : Registry) (r : ℕ) (g : List Line → List Line) → let t : Registry = with_account r (with_lines g) s in
    ((ls : List Line) → AllByRecursion (IsLineOf p t) ls → AllByRecursion (IsLineOf p t) (g ls)) → ((name : List ℕ) (d : Domain) → get s.domains name ≡ Some d → HasLinesOn t d) → HasLines p s → HasLines p t
lines-relined p s r g fits on is =
    let t : Registry = with_account r (with_lines g) s in
    record { each = each-kept p p s t (account-grows s r (with_lines g) p (λ a. omega arith)) is (λ q. lines-keep s r (with_lines g) (AllByRecursion (IsLineOf p t)) q (λ own. fits (account_of q s).lines)); domains = on }

-- ---- a charge

-- for a domain of the registrar's own, which isn't for a transfer, and whose grace begins before a
-- transfer that is pending is due
pub record IsCharged (r : ℕ) (line : Line) (d : Domain) : Type 0 where
  pub sponsor : r ≡ d.sponsor
  pub waits : waits d.roid line ≡ false
  pub awaited : (x : Transfer) → d.transfer ≡ Some x → is_pending_state x.state ≡ true → begins_after d.roid (Some x.ac_date) line ≡ false

pub record IsChargeIn (p : PolicyRules) (s : Registry) (r : ℕ) (line : Line) : Type 0 where
  pub fits : IsLineOf p s line
  pub domains : (name : List ℕ) (d : Domain) → get s.domains name ≡ Some d → (is_on d.roid line ≡ false) ⊎ IsCharged r line d

module _ (p : PolicyRules) (s : Registry) (r : ℕ) (line : Line) where
  abbrev with_line : Registry
  with_line = with_account r (with_lines (add in_order line)) s

  charged-own : (d : Domain) → IsCharged r line d → HasLinesOn s d → HasLinesOn with_line d
  charged-own d charged h = record {
    elsewhere = λ q other. keep (λ ls. list_any (begins_after d.roid d.transferred) ls ≡ false) q (λ own h. absurd (other (sym own ∙ charged.sponsor))) (h.elsewhere q other);
    waiting = λ q. keep (λ ls. count (waits d.roid) ls ≡ charges_waiting q d.transfer) q (λ own h. count-add-none in_order (waits d.roid) line (account_of q s).lines charged.waits ∙ h) (h.waiting q);
    awaited = awaited-carried s with_line d d.transfer (λ x at pending none. keep (λ ls. list_any (begins_after d.roid (Some x.ac_date)) ls ≡ false) d.sponsor
        (λ own h. none-add in_order (begins_after d.roid (Some x.ac_date)) line (account_of d.sponsor s).lines (charged.awaited x at pending) h) none) h.awaited;
  }
    where
      keep : (P : List Line → Type 0) (q : ℕ) → (r ≡ q → P (account_of q s).lines → P (add in_order line (account_of q s).lines)) → P (account_of q s).lines → P (account_of q with_line).lines
      keep = lines-keep s r (with_lines (add in_order line))

  pub lines-charged : IsChargeIn p s r line → HasLines p s → HasLines p with_line
  lines-charged charge is = lines-relined p s r (add in_order line)
      (λ ls. all-add in_order (IsLineOf p with_line) line ls (line-grown p p s with_line (account-grows s r (with_lines (add in_order line)) p (λ a. omega arith)) line charge.fits))
      (λ name d at. ⊎_elim
      (λ off. on-relined s r (add in_order line) d (λ last ls. none-add in_order (begins_after d.roid last) line ls (begins-asks d.roid last line off))
      (λ ls. count-add-none in_order (waits d.roid) line ls (waits-asks d.roid line off)) (is.domains name d at))
      (λ own. charged-own d own (is.domains name d at)) (charge.domains name d at)) is

-- ---- what is given back

-- begins when it did
pub refund-begins : (b : Bool) (moment : ℕ) (roid : Roid) (last : Option ℕ) (l : Line)
    → begins_after roid last (cond b (record l { refunded = Some moment }) l) ≡ begins_after roid last l
refund-begins b moment roid last l = grind arith

pub refund-line : (b : Bool) (p : PolicyRules) (s : Registry) (moment : ℕ) → moment ≤ s.clock → (l : Line)
    → IsLineOf p s l → IsLineOf p s (cond b (record l { refunded = Some moment }) l)
refund-line true p s moment come l h = search
refund-line false p s moment come l h = h

-- by a deletion
module _ (p : PolicyRules) (x : RunningRefund) where
  abbrev back : Line → Line
  back = refunded_by p x

  has-begun : (l : Line) (started : Option ℕ) → runs_from p x.moment x.transferred started (period_of l.kind) ≡ true → not (is_some started) ≡ false
  has-begun l None running = absurd (let never : false ≡ true = running in cc)
  has-begun l (Some start) running = refl

  -- what waits for a transfer isn't given back
  refund-waits : (roid : Roid) (l : Line) → waits roid (back l) ≡ waits roid l
  refund-waits roid l = cond_both (runs p x.moment x.roid x.transferred l) (record l { refunded = Some x.moment }) l (λ m. waits roid m ≡ waits roid l)
      (λ running.
      let begun = has-begun l l.started (and_parts (not (is_some l.refunded)) _ (and_parts (is_on x.roid l) _ running).1).1 in
      and-false _ (not (is_some l.started)) begun ∙ sym (and-false (is_for_transfer roid l) (not (is_some l.started)) begun)) (λ ended. refl)

  module _ (s : Registry) (r : ℕ) where
    abbrev refunded : Registry
    refunded = with_account r (with_lines (remade in_order back)) s

    pub lines-refunded : x.moment ≤ s.clock → HasLines p s → HasLines p (with_account r (with_lines (remade in_order (refunded_by p x))) s)
    lines-refunded come is = lines-relined p s r (remade in_order back)
        (all-remade in_order (IsLineOf p refunded) (IsLineOf p refunded) back (λ l. refund-line (runs p x.moment x.roid x.transferred l) p refunded x.moment come l))
        (λ name d at. on-relined s r (remade in_order back) d
        (λ last. none-remade in_order (begins_after d.roid last) (begins_after d.roid last) back (λ l e. refund-begins (runs p x.moment x.roid x.transferred l) x.moment d.roid last l ∙ e))
        (count-remade in_order (waits d.roid) back (refund-waits d.roid)) (is.domains name d at)) is

-- ---- each change

-- what is charged or given back to an account fits the domains that are there, and the clock
abbrev pub FitsAccount : PolicyRules → ℕ → AccountChange → Registry → Type 0
FitsAccount p r (Charge line) s = IsChargeIn p s r line
FitsAccount p r (RefundRunning x) s = x.moment ≤ s.clock
FitsAccount p r (RefundTransfer x) s = ⊥
FitsAccount p r (Lapse what) s = ⊥
FitsAccount p r _ s = Unit {0}

-- a domain that is put has the lines that it is to have, and no time passes
abbrev pub FitsLines : PolicyRules → Change → Registry → Type 0
FitsLines p (MoveClock t) s = ⊥
FitsLines p (PutDomain d) s = HasLinesOn s d
FitsLines p (LapseContact name left) s = ⊥
FitsLines p (LapseDomain name left) s = ⊥
FitsLines p (Post r what) s = FitsAccount p r what s
FitsLines p _ s = Unit {0}

lines-account : (p : PolicyRules) (r : ℕ) (what : AccountChange) (s : Registry) → FitsAccount p r what s → HasLines p s → HasLines p (changed p (Post r what) s)
lines-account p r (Charge line) s fits is = lines-charged p s r line fits is
lines-account p r (RefundRunning x) s fits is = lines-refunded p x s r fits is
lines-account p r (RefundTransfer x) s fits is = absurd fits
lines-account p r (Lapse what) s fits is = absurd fits
lines-account p r TakeSerial s fits is = lines-counted p s r (account_changed p TakeSerial) (λ a. refl) serial-rises is
lines-account p r what s fits is = lines-counted p s r (account_changed p what) (λ a. refl) (λ a. omega arith) is

-- objects change, and neither the clock nor an account does
lines-objects : (p : PolicyRules) (s t : Registry) → t.clock ≡ s.clock → t.accounts ≡ s.accounts → ((name : List ℕ) (d : Domain) → get t.domains name ≡ Some d → HasLinesOn s d) → HasLines p s → HasLines p t
lines-objects p s t clock accounts on is = lines-domains p p s t
    (record { zone = refl; place = λ r place. place; clock = omega (arith, clock); serial = λ r. omega (arith, ap (λ m. (unwrap_or (get m r) empty_account).serial) accounts) })
    (λ r. ap (λ m. (unwrap_or (get m r) empty_account).lines) accounts) on is

lines-changed : (p : PolicyRules) (change : Change) (s : Registry) → FitsLines p change s → HasLines p s → HasLines p (changed p change s)
lines-changed p (MoveClock t) s fits is = absurd fits
lines-changed p (OpenAccount r) s fits is = lines-counted p s r itself (λ a. refl) (λ a. omega arith) is
lines-changed p (PutDomain d) s fits is = lines-objects p s _ refl refl (at-put (λ n. HasLinesOn s) s.domains d.name d fits is.domains) is
lines-changed p (DropDomain dropped) s fits is = lines-objects p s _ refl refl (λ name e at. is.domains name e (drop-cases s.domains dropped name e at).1) is
lines-changed p (RenameHost old h) s fits is = cond_both (may_rename s.hosts old h.name) (host_renamed old h s) s (HasLines p)
    (λ may. lines-objects p s (host_renamed old h s) refl refl (λ name e at.
    let was = remade-cases (with_host_renamed old h.name) s.domains name e at in
    subst (HasLinesOn s) was.2 (on-again s was.0 (with_host_renamed old h.name was.0) (is.domains name was.0 was.1))) is)
    (λ else. is)
lines-changed p (LapseContact name left) s fits is = absurd fits
lines-changed p (LapseDomain name left) s fits is = absurd fits
lines-changed p (Post r what) s fits is = lines-account p r what s fits is
lines-changed p _ s fits is = lines-objects p s _ refl refl is.domains is

-- each of the changes fits when its turn comes
abbrev pub AllFitLines : PolicyRules → List Change → Registry → Type 0
AllFitLines p changes s = AllFit p (FitsLines p) changes s

pub lines-changed_all : (p : PolicyRules) (changes : List Change) (s : Registry) → AllFitLines p changes s → HasLines p s → HasLines p (changed_all p changes s)
lines-changed_all p = all-kept p (FitsLines p) (HasLines p) (lines-changed p)
