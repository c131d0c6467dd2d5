-- An account without its deposits: what is done to it is done to what is left.
use Rattle.std.proofs.Common.{◌≡◌, ℕ, Bool, true, false, cond, not, ◌&&◌, ◌==◌, List, [], ◌∷◌, ◌++◌, map, filter, Option, Some, None, refl, sym, ap, ◌∙◌, arith, eqb-true}
use Rattle.std.proofs.lemmas.{Bool.Decides.nat_tests, List.Sums.sum_by-cons, Map.Views.any-filter_same}
use Rattle.std.specs.declared.cmp.Ordering.TheVariants.{Less, Equal, Greater}
use Rattle.accounts.specs.declared.{entries.LapseEntry.{LapseEntry, TheVariants.{Renewal, Start, Notice}}, line.LineKind.LineKind}
use Rattle.accounts.specs.Lines.{in_order, is_kind, is_on, kind_rank, maybe_number, numbers, roid_numbers, transfer_refunded, transfer_started}
use Rattle.accounts.specs.declared.line.LineKind.TheVariants as kinds
use Rattle.basis.specs.Bag.{add, bag_of, precedes, remade}
use Rattle.basis.proofs.BagLaws.{filter-bag_of}
use Rattle.lifecycle.specs.{Changes.{changed, refunded_by}, Graces.{gives, graces, period_of, runs, runs_from}}
use Rattle.policy.specs.declared.days.Period.{Period}
use Rattle.isolation.proofs.Words.{is_some, nat_lt, slice_cmp, list_any, sum_by, is_le, nat_cmp, ordering_then, not-false, not-true, Account, Line, entered}
use Rattle.isolation.proofs.Words.{renewal_line, with_lines, lines_in_order, AccountChange, Charge, RefundRunning, RefundTransfer, Lapse}
use Rattle.isolation.proofs.Words.{RunningRefund, cents_back, given_back, years_back, Roid, PolicyRules, is_charge, without_deposits}

-- ---- lists without what fails a test

module _ {A : Type 0} (le : A → A → Bool) (test : A → Bool) (x : A) where
  -- what fails it is left out where it is added
  pub filter-skip : test x ≡ false → (ys : List A) → filter test (add le x ys) ≡ filter test ys
  unfolding add
  filter-skip fails [] = ap (λ (t : Bool). cond t (x ∷ []) []) fails
  filter-skip fails (y ∷ ys) = elim (le x y) as (λ (b : Bool). filter test (cond b (x ∷ y ∷ ys) (y ∷ add le x ys)) ≡ filter test (y ∷ ys)) [
    | true ↦ ap (λ (t : Bool). cond t (x ∷ filter test (y ∷ ys)) (filter test (y ∷ ys))) fails
    | false ↦ ap (λ (zs : List A). cond (test y) (y ∷ zs) zs) (filter-skip fails ys)
  ]

  module _ (passes : test x ≡ true) (behind : (y : A) → test y ≡ false → le x y ≡ false) where
    keep-later : (y : A) (ys : List A) (c : Bool) → test y ≡ c → le x y ≡ false → add le x (cond c (y ∷ filter test ys) (filter test ys)) ≡ cond c (y ∷ add le x (filter test ys)) (add le x (filter test ys))
    unfolding add
    keep-later y ys true t l = ap (λ (b : Bool). cond b (x ∷ y ∷ filter test ys) (y ∷ add le x (filter test ys))) l
    keep-later y ys false t l = refl

    keep-first : (y : A) (ys : List A) (c : Bool) → test y ≡ c → le x y ≡ true → cond (test x) (x ∷ cond c (y ∷ filter test ys) (filter test ys)) (cond c (y ∷ filter test ys) (filter test ys)) ≡ add le x (cond c (y ∷ filter test ys) (filter test ys))
    unfolding add
    keep-first y ys true t l = rw (passes, l) refl
    keep-first y ys false t l = let never : true ≡ false = sym l ∙ behind y t in cc

    keep-step : (y : A) (ys : List A) (b : Bool) → le x y ≡ b → filter test (add le x ys) ≡ add le x (filter test ys)
        → filter test (cond b (x ∷ y ∷ ys) (y ∷ add le x ys)) ≡ add le x (filter test (y ∷ ys))
    keep-step y ys true l ih = keep-first y ys (test y) refl l
    keep-step y ys false l ih = ap (λ (zs : List A). cond (test y) (y ∷ zs) zs) ih ∙ sym (keep-later y ys (test y) refl l)

    -- what passes it stands behind what fails it
    pub filter-keep : (ys : List A) → filter test (add le x ys) ≡ add le x (filter test ys)
    unfolding add
    filter-keep [] = ap (λ (t : Bool). cond t (x ∷ []) []) passes
    filter-keep (y ∷ ys) = keep-step y ys (le x y) refl (filter-keep ys)

module _ {A : Type 0} (test : A → Bool) where
  twice-step : (x : A) (xs : List A) (b : Bool) → test x ≡ b → filter test (filter test xs) ≡ filter test xs → filter test (cond b (x ∷ filter test xs) (filter test xs)) ≡ cond b (x ∷ filter test xs) (filter test xs)
  twice-step x xs true t ih = ap (λ (b : Bool). cond b (x ∷ filter test (filter test xs)) (filter test (filter test xs))) t ∙ ap (λ (zs : List A). x ∷ zs) ih
  twice-step x xs false t ih = ih

  pub filter-twice : (xs : List A) → filter test (filter test xs) ≡ filter test xs
  filter-twice [] = refl
  filter-twice (x ∷ xs) = twice-step x xs (test x) refl (filter-twice xs)

  module _ (f : A → A) (keeps : (x : A) → test (f x) ≡ test x) where
    map-step : (x : A) (xs : List A) (b : Bool) → filter test (map f xs) ≡ map f (filter test xs) → cond b (f x ∷ filter test (map f xs)) (filter test (map f xs)) ≡ map f (cond b (x ∷ filter test xs) (filter test xs))
    map-step x xs true ih = ap (λ (zs : List A). f x ∷ zs) ih
    map-step x xs false ih = ih

    pub filter-map : (xs : List A) → filter test (map f xs) ≡ map f (filter test xs)
    filter-map [] = refl
    filter-map (x ∷ xs) = ap (λ (b : Bool). cond b (f x ∷ filter test (map f xs)) (filter test (map f xs))) (keeps x) ∙ map-step x xs (test x) (filter-map xs)

  module _ (cost : A → ℕ) (free : (x : A) → test x ≡ false → cost x ≡ 0) where
    sum-step : (x : A) (xs : List A) (b : Bool) → test x ≡ b → sum_by cost (filter test xs) ≡ sum_by cost xs → sum_by cost (cond b (x ∷ filter test xs) (filter test xs)) ≡ sum_by cost (x ∷ xs)
    sum-step x xs true t ih = omega (arith, sum_by-cons cost x xs, sum_by-cons cost x (filter test xs), ih)
    sum-step x xs false t ih = omega (arith, sum_by-cons cost x xs, free x t, ih)

    pub filter-sum : (xs : List A) → sum_by cost (filter test xs) ≡ sum_by cost xs
    filter-sum [] = refl
    filter-sum (x ∷ xs) = sum-step x xs (test x) refl (filter-sum xs)

-- ---- deposits among lines

-- what isn't a charge is a deposit
deposit-rank : (l : Line) → is_charge l ≡ false → kind_rank l.kind ≡ 0
deposit-rank l e = eqb-true (kind_rank l.kind) 0 (not-false (is_kind l.kind kinds.Deposit) e)

charge-rank : (l : Line) → is_charge l ≡ true → (kind_rank l.kind == 0) ≡ false
charge-rank l e = not-true (is_kind l.kind kinds.Deposit) e

behind-all : (m : ℕ) → nat_lt m 0 ≡ false
behind-all m = grind (arith, nat_tests)

rank-behind : (m n : ℕ) (xs ys : List ℕ) → (m == 0) ≡ false → n ≡ 0 → precedes (slice_cmp nat_cmp) (m ∷ xs) (n ∷ ys) ≡ false
rank-behind m n xs ys e z =
    ap (λ (k : ℕ). precedes (slice_cmp nat_cmp) (m ∷ xs) (k ∷ ys)) z
    ∙ (λ i. is_le (ordering_then (cond (behind-all m i) Less (cond (e i) Equal Greater)) (slice_cmp nat_cmp xs ys)))

-- deposits stand first
deposits-first : (x y : Line) → is_charge x ≡ true → is_charge y ≡ false → in_order x y ≡ false
unfolding in_order numbers
deposits-first x y passes fails = rank-behind (kind_rank x.kind) (kind_rank y.kind)
    (roid_numbers x.roid ++ x.recorded ∷ x.years ∷ x.cents ∷ maybe_number x.started ∷ maybe_number x.refunded ∷ [])
    (roid_numbers y.roid ++ y.recorded ∷ y.years ∷ y.cents ∷ maybe_number y.started ∷ maybe_number y.refunded ∷ []) (charge-rank x passes) (deposit-rank y fails)

module _ (l : Line) (deposit : is_charge l ≡ false) where
  not-kind : (kind : LineKind) → (0 == kind_rank kind) ≡ false → is_kind l.kind kind ≡ false
  not-kind kind e = ap (λ (n : ℕ). n == kind_rank kind) (deposit-rank l deposit) ∙ e

  no-period : (kind : LineKind) → kind_rank kind ≡ 0 → period_of kind ≡ None
  no-period kinds.Deposit z = refl
  no-period kind z = absurd (omega (arith, z))

  never : (a b : Bool) → (a && (b && false)) ≡ false
  never a b = grind arith

  from-none : (p : PolicyRules) (t : ℕ) (since started : Option ℕ) → runs_from p t since started None ≡ false
  from-none p t since None = refl
  from-none p t since (Some start) = refl

  -- no grace begins with it
  deposit-runs : (p : PolicyRules) (t : ℕ) (roid : Roid) (since : Option ℕ) → runs p t roid since l ≡ false
  deposit-runs p t roid since =
      ap (λ (period : Option Period). is_on roid l && (not (is_some l.refunded) && runs_from p t since l.started period)) (no-period l.kind (deposit-rank l deposit))
      ∙ ap (λ (b : Bool). is_on roid l && (not (is_some l.refunded) && b)) (from-none p t since l.started)
      ∙ never (is_on roid l) (not (is_some l.refunded))

-- ---- what is read off lines

charges-alone : (p : Line → Bool) → ((l : Line) → is_charge l ≡ false → p l ≡ false) → (lines : List Line) → list_any p (filter is_charge lines) ≡ list_any p lines
charges-alone p fails lines = any-filter_same p is_charge true (λ l passes. by l (is_charge l) refl passes) lines
  where
    by : (l : Line) (b : Bool) → is_charge l ≡ b → p l ≡ true → is_charge l ≡ true
    by l true e passes = e
    by l false e passes = let never : true ≡ false = sym passes ∙ fails l e in cc

-- graces hang on charges
pub graces-charges : (p : PolicyRules) (t : ℕ) (roid : Roid) (since : Option ℕ) (lines : List Line) → graces p t roid since (filter is_charge lines) ≡ graces p t roid since lines
unfolding graces
graces-charges p t roid since lines = λ i. record {
  add = charges-alone (gives kinds.Create p t roid since) (λ l e. ap (λ (b : Bool). b && runs p t roid since l) (not-kind l e kinds.Create refl)) lines i;
  auto_renew = charges-alone (gives kinds.AutoRenew p t roid since) (λ l e. ap (λ (b : Bool). b && runs p t roid since l) (not-kind l e kinds.AutoRenew refl)) lines i;
  renew = charges-alone (gives kinds.Renew p t roid since) (λ l e. ap (λ (b : Bool). b && runs p t roid since l) (not-kind l e kinds.Renew refl)) lines i;
  transfer = charges-alone (gives kinds.Transfer p t roid since) (λ l e. ap (λ (b : Bool). b && runs p t roid since l) (not-kind l e kinds.Transfer refl)) lines i;
}

-- and so does what is given back
pub given-charges : (p : PolicyRules) (x : RunningRefund) (lines : List Line) → given_back p x (filter is_charge lines) ≡ given_back p x lines
given-charges p x lines = λ i. record {
  cents = filter-sum is_charge (cents_back p x) (λ l e. ap (λ (b : Bool). cond b l.cents 0) (deposit-runs l e p x.moment x.roid x.transferred)) lines i;
  years = filter-sum is_charge (years_back p x) (λ l e. ap (λ (b : Bool). cond b l.years 0) (deposit-runs l e p x.moment x.roid x.transferred)) lines i;
}

-- ---- what is done to an account

add-left : (x : Line) (b : Bool) → is_charge x ≡ b → (lines : List Line) → filter is_charge (add in_order x lines) ≡ cond b (add in_order x (filter is_charge lines)) (filter is_charge lines)
add-left x true e lines = filter-keep in_order is_charge x e (λ y fails. deposits-first x y e fails) lines
add-left x false e lines = filter-skip in_order is_charge x e lines

remade-left : (f : Line → Line) → ((l : Line) → (f l).kind ≡ l.kind) → (lines : List Line) → filter is_charge (remade in_order f lines) ≡ remade in_order f (filter is_charge lines)
remade-left f keeps lines =
    filter-bag_of in_order lines_in_order is_charge (map f lines)
    ∙ ap (bag_of in_order) (filter-map is_charge f (λ l. ap (λ (kind : LineKind). not (is_kind kind kinds.Deposit)) (keeps l)) lines)

refund-kind : (p : PolicyRules) (x : RunningRefund) (l : Line) → (refunded_by p x l).kind ≡ l.kind
refund-kind p x l = elim (runs p x.moment x.roid x.transferred l) as (λ (b : Bool). (cond b (record l { refunded = Some x.moment }) l).kind ≡ l.kind) [ true ↦ refl | false ↦ refl ]

turned-kind : (b : Bool) (l m : Line) → m.kind ≡ l.kind → (cond b m l).kind ≡ l.kind
turned-kind true l m e = e
turned-kind false l m e = refl

-- what is left of the change of an account, by what was left of it
left_changed : PolicyRules → AccountChange → Account → Account
left_changed p (Charge line) a = with_lines (λ lines. cond (is_charge line) (add in_order line lines) lines) a
left_changed p what a = changed p what a

entered-left : (what : LapseEntry) (a : Account) → without_deposits (entered what a) ≡ entered what (without_deposits a)
entered-left (Renewal x) a = ap (λ (lines : List Line). record a { lines = lines }) (add-left (renewal_line x) true refl a.lines)
entered-left (Start x) a = ap (λ (lines : List Line). record a { lines = lines }) (remade-left (transfer_started x) (λ l. turned-kind _ l (record l { started = Some x.moment; years = x.years }) refl) a.lines)
entered-left (Notice m) a = refl

changed-left : (p : PolicyRules) (what : AccountChange) (a : Account) → without_deposits (changed p what a) ≡ left_changed p what (without_deposits a)
unfolding left_changed
changed-left p (Charge line) a = ap (λ (lines : List Line). record a { lines = lines }) (add-left line (is_charge line) refl a.lines)
changed-left p (RefundRunning x) a = ap (λ (lines : List Line). record a { lines = lines }) (remade-left (refunded_by p x) (refund-kind p x) a.lines)
changed-left p (RefundTransfer x) a = ap (λ (lines : List Line). record a { lines = lines }) (remade-left (transfer_refunded x) (λ l. turned-kind _ l (record l { refunded = Some x.moment }) refl) a.lines)
changed-left p (Lapse what) a = entered-left what a
changed-left p what a = refl

-- accounts that are one but for deposits stay so
pub account-changed : (p : PolicyRules) (what : AccountChange) (a b : Account) → without_deposits a ≡ without_deposits b → without_deposits (changed p what a) ≡ without_deposits (changed p what b)
account-changed p what a b one = changed-left p what a ∙ ap (left_changed p what) one ∙ sym (changed-left p what b)

pub account-entered : (what : LapseEntry) (a b : Account) → without_deposits a ≡ without_deposits b → without_deposits (entered what a) ≡ without_deposits (entered what b)
account-entered what a b one = entered-left what a ∙ ap (entered what) one ∙ sym (entered-left what b)

-- a deposit isn't left
pub deposited-left : (p : PolicyRules) (line : Line) → is_charge line ≡ false → (a : Account) → without_deposits (changed p (Charge line) a) ≡ without_deposits a
deposited-left p line deposit a = ap (λ (lines : List Line). record a { lines = lines }) (add-left line false deposit a.lines)
