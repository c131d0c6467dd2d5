-- What is so of the lines of an account stays so as time enters into it.
use Rattle.std.proofs.Common.{◌≡◌, ℕ, ◌≤◌, nat_lt, Bool, true, false, not, ◌&&◌, List, [], ◌∷◌, ◌++◌, Option, Some, None, refl, sym, ap, subst, ◌∙◌, arith, ⊎_elim}
use Rattle.decisions.proofs.Words.{Account, account_of, add, AllByRecursion, and_left, and_right, AutoRenewal, begins_after, begins_by, cases_Bool, cond_both}
use Rattle.decisions.proofs.Words.{entered, FinMap, fold, get, given, in_order, is_begun_after, is_for_transfer, is_kind, is_of, is_on, is_same_roid, IsLineOf}
use Rattle.decisions.proofs.Words.{LapseEntry, Line, list_any, nat_cmp, nat_tests, Notice, PolicyRules, posted, Posting, Registry, remade, Renewal}
use Rattle.decisions.proofs.Words.{renewal_line, Roid, same-roids, slice_cmp, Start, start-elsewhere, start-stays, transfer_started, TransferStart, waits}
use Rattle.decisions.proofs.Words.{and_cases, is_some, WasGiven, with_account}
use Rattle.accounts.specs.declared.line.LineKind.TheVariants as kinds
use Rattle.model.proofs.LineLemmas.{all-add, all-remade, and-false, count, count-add-none, count-remade, none-add, none-remade}
use Rattle.decisions.proofs.{PostingLemmas.AllPosted, PostingLemmas.posted-both, PostingLemmas.posted-given, ViewLemmas.account-keep}

-- ---- the lines once an entry is made

abbrev pub entered_lines : LapseEntry → List Line → List Line
entered_lines (Renewal r) ls = add in_order (renewal_line r) ls
entered_lines (Start x) ls = remade in_order (transfer_started x) ls
entered_lines (Notice m) ls = ls

lines-entered : (what : LapseEntry) (a : Account) → (entered what a).lines ≡ entered_lines what a.lines
lines-entered (Renewal r) a = refl
lines-entered _ a = refl

-- what is posted into this registrar's account keeps the property of lines
abbrev pub Keeps : (List Line → Type 0) → ℕ → Posting → Type 0
Keeps P r e = e.registrar ≡ r → (ls : List Line) → P ls → P (entered_lines e.what ls)

abbrev pub AllKeep : (List Line → Type 0) → ℕ → List Posting → Type 0
AllKeep P r es = AllPosted (Keeps P r) es

module _ (P : List Line → Type 0) (r : ℕ) where
  keep-one : (e : Posting) → Keeps P r e → (s : Registry) → P (account_of r s).lines → P (account_of r (with_account e.registrar (entered e.what) s)).lines
  keep-one e keeps s h = account-keep (λ (a : Account). P a.lines) s e.registrar (entered e.what) r
      (λ own h. subst P (sym (lines-entered e.what (account_of r s))) (keeps own (account_of r s).lines h)) h

  pub keep-posted : (es : List Posting) → AllKeep P r es → (s : Registry) → P (account_of r s).lines → P (account_of r (record s { accounts = fold posted s.accounts es })).lines
  keep-posted [] keep s h = h
  keep-posted (e ∷ es) keep s h = keep-posted es keep.1 (with_account e.registrar (entered e.what) s) (keep-one e keep.0 s h)

  pub keep-both : (es fs : List Posting) → AllKeep P r es → AllKeep P r fs → AllKeep P r (es ++ fs)
  keep-both = posted-both (Keeps P r)

  pub keep-given : {X : Type 0} (g : List ℕ → X → List Posting) (m : FinMap (slice_cmp nat_cmp) X) → ((name : List ℕ) (x : X) → get m name ≡ Some x → AllKeep P r (g name x)) → AllKeep P r (given g m)
  keep-given = posted-given (Keeps P r)

-- ---- entries on other domains

-- the test asks for the domain
abbrev pub AsksFor : Roid → (Line → Bool) → Type 0
AsksFor roid test = (l : Line) → is_on roid l ≡ false → test l ≡ false

pub begins-asks : (roid : Roid) (last : Option ℕ) → AsksFor roid (begins_after roid last)
begins-asks roid last l off = ap (λ (b : Bool). b && is_begun_after last l.started) off

pub waits-asks : (roid : Roid) → AsksFor roid (waits roid)
waits-asks roid l off = and_left _ _ (and_right (is_kind l.kind kinds.Transfer) _ (and_left (is_on roid l) _ off))

-- a line on one domain isn't on another
pub on-one : (roid other : Roid) → is_same_roid other roid ≡ false → (l : Line) → is_on other l ≡ true → is_on roid l ≡ false
on-one roid other apart l on = by l.roid on
  where
    by : (of : Option Roid) → is_of other of ≡ true → is_of roid of ≡ false
    by None on = absurd cc
    by (Some named) on = ap (λ (n : Roid). is_same_roid n roid) (same-roids named other on) ∙ apart

-- a test that asks for a domain doesn't tell what is done to the lines of another
pub test-elsewhere : (roid other : Roid) (test : Line → Bool) → AsksFor roid test → is_same_roid other roid ≡ false → (f : Line → Line) → ((l : Line) → is_on other l ≡ false → f l ≡ l) → ((l : Line) → (f l).roid ≡ l.roid)
    → (l : Line) → test (f l) ≡ test l
test-elsewhere roid other test asks apart f elsewhere stays l = ⊎_elim
    (λ on.
    let off : is_on roid l ≡ false = on-one roid other apart l on in
    asks (f l) (ap (is_of roid) (stays l) ∙ off) ∙ sym (asks l off))
    (λ off. ap test (elsewhere l off)) (cases_Bool (is_on other l))

-- the entry is on another domain
abbrev pub IsOff : Roid → LapseEntry → Type 0
IsOff roid (Renewal r) = is_same_roid r.roid roid ≡ false
IsOff roid (Start x) = is_same_roid x.roid roid ≡ false
IsOff roid (Notice m) = Unit {0}

abbrev pub AllOff : Roid → List Posting → Type 0
AllOff roid es = AllPosted (λ (e : Posting). IsOff roid e.what) es

-- what no entry on another domain changes
abbrev pub IsKeptOff : Roid → (List Line → Type 0) → Type 0
IsKeptOff roid P = (what : LapseEntry) → IsOff roid what → (ls : List Line) → P ls → P (entered_lines what ls)

pub off-keep : (roid : Roid) (P : List Line → Type 0) → IsKeptOff roid P → (r : ℕ) (es : List Posting) → AllOff roid es → AllKeep P r es
off-keep roid P kept r [] off = tt
off-keep roid P kept r (e ∷ es) off = (λ own. kept e.what off.0, off-keep roid P kept r es off.1)

pub none-kept-off : (roid : Roid) (test : Line → Bool) → AsksFor roid test → IsKeptOff roid (λ ls. list_any test ls ≡ false)
none-kept-off roid test asks (Renewal r) off ls none = none-add in_order test (renewal_line r) ls (asks (renewal_line r) off) none
none-kept-off roid test asks (Start x) off ls none =
    none-remade in_order test test (transfer_started x) (λ l e. test-elsewhere roid x.roid test asks off (transfer_started x) (start-elsewhere x) (start-stays x) l ∙ e) ls none
none-kept-off roid test asks (Notice m) off ls none = none

pub count-kept-off : (roid : Roid) (test : Line → Bool) → AsksFor roid test → (n : ℕ) → IsKeptOff roid (λ ls. count test ls ≡ n)
count-kept-off roid test asks n (Renewal r) off ls e = count-add-none in_order test (renewal_line r) ls (asks (renewal_line r) off) ∙ e
count-kept-off roid test asks n (Start x) off ls e =
    count-remade in_order test (transfer_started x) (test-elsewhere roid x.roid test asks off (transfer_started x) (start-elsewhere x) (start-stays x)) ls ∙ e
count-kept-off roid test asks n (Notice m) off ls e = e

-- ---- entries on the domain itself

-- an automatic year doesn't wait for a transfer
pub renewal-waits-not : (roid : Roid) (r : AutoRenewal) → waits roid (renewal_line r) ≡ false
renewal-waits-not roid r = refl

-- one that is charged by a moment
pub renewal-by : (roid : Roid) (r : AutoRenewal) (last : ℕ) → r.moment ≤ last → begins_after roid (Some last) (renewal_line r) ≡ false
renewal-by roid r last le = and-false (is_on roid (renewal_line r)) (nat_lt last r.moment) (grind (arith, nat_tests, le))

-- a charge whose grace was begun waits no more
pub started-waits-not : (x : TransferStart) (l : Line) → waits x.roid (transfer_started x l) ≡ false
started-waits-not x l = cond_both (is_for_transfer x.roid l && not (begins_by l.started l.years x.moment x.years)) (record l { started = Some x.moment; years = x.years }) l (λ m. waits x.roid m ≡ false)
    (λ e. and_right (is_for_transfer x.roid l) false refl)
    (λ e. ⊎_elim (and_left (is_for_transfer x.roid l) _) (λ n. and_right (is_for_transfer x.roid l) _ (begun l.started n)) (and_cases (is_for_transfer x.roid l) _ e))
  where
    begun : (started : Option ℕ) → not (begins_by started l.years x.moment x.years) ≡ false → not (is_some started) ≡ false
    begun None n = absurd (let never : true ≡ false = n in cc)
    begun (Some start) n = refl

-- ---- each line is of a domain, and no grace begins ahead of the clock

-- the entry is on a domain, and of a moment that has come
abbrev pub IsOf : PolicyRules → Registry → LapseEntry → Type 0
IsOf p s (Renewal r) = WasGiven p s (Some r.roid) × (r.moment ≤ s.clock)
IsOf p s (Start x) = x.moment ≤ s.clock
IsOf p s (Notice m) = Unit {0}

started-line : (p : PolicyRules) (s : Registry) (x : TransferStart) → x.moment ≤ s.clock → (l : Line) → IsLineOf p s l → IsLineOf p s (transfer_started x l)
started-line p s x le l is = cond_both (is_for_transfer x.roid l && not (begins_by l.started l.years x.moment x.years))
    (record l { started = Some x.moment; years = x.years }) l (IsLineOf p s)
    (λ e. record { roid = is.roid; recorded = is.recorded; started = le; refunded = is.refunded }) (λ e. is)

pub lines-kept : (p : PolicyRules) (s : Registry) (what : LapseEntry) → IsOf p s what → (ls : List Line) → AllByRecursion (IsLineOf p s) ls → AllByRecursion (IsLineOf p s) (entered_lines what ls)
lines-kept p s (Renewal r) is ls all = all-add in_order (IsLineOf p s) (renewal_line r) ls (record { roid = is.0; recorded = is.1; started = is.1; refunded = tt }) all
lines-kept p s (Start x) is ls all = all-remade in_order (IsLineOf p s) (IsLineOf p s) (transfer_started x) (started-line p s x is) ls all
lines-kept p s (Notice m) is ls all = all
