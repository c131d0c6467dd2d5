-- Lines stand in an order, and balances are sums.
use Rattle.std.proofs.Common.{◌≡◌, ℕ, ◌+◌, ◌<◌, Bool, true, false, cond, List, [], ◌∷◌, ◌++◌, Option, Some, None, is_some, refl, sym, ap, ◌∙◌, arith, ℤ, pos, negsuc, ◌+ℤ◌, ◌-ℤ◌, ◌≤ℤ◌}
use Rattle.std.proofs.lemmas.{Bool.Decides.{Decides-and, Decides-eqb, Decides-like, same_from_decides}, Int.ints, Option.same_Some}
use Rattle.std.specs.{Bool.Decides, Int.{saturate_signed, w128}, List.AllByRecursion}
use Rattle.basis.specs.Bag.{IsLinear, add, bag_of, same}
use Rattle.basis.proofs.{BagLaws.{le-itself, same-is}, OrderLaws.linear_by_numbers}
use Rattle.objects.specs.declared.roid.{ObjectKind.ObjectKind, Roid.Roid}
use Rattle.accounts.specs.{declared.line.{Line.Line, LineKind.LineKind}, Groups.{IsBounded, IsSmall}}
use Rattle.accounts.specs.Lines.{amount, amount_of, balance, in_order, is_kind, is_line, is_line_for, is_same_domain, is_same_number, is_same_roid, kind_rank, maybe_number, numbers, object_rank, roid_numbers}
use Rattle.accounts.specs.declared.line.LineKind.TheVariants as kinds

-- ---- the numbers tell a line

maybe_only : (x y : Option ℕ) → maybe_number x ≡ maybe_number y → x ≡ y
maybe_only x y e = grind (arith, e)

same-kind : (a b : LineKind) → kind_rank a ≡ kind_rank b → a ≡ b
same-kind a b e = grind (arith, e)

pub same-object : (a b : ObjectKind) → object_rank a ≡ object_rank b → a ≡ b
same-object a b e = grind (arith, e)

one_roid : (a b : Roid) → object_rank a.kind ≡ object_rank b.kind → a.creator ≡ b.creator → a.serial ≡ b.serial → a ≡ b
one_roid a b e f g =
    let kind = same-object a.kind b.kind e in
    λ i. record { kind = kind i; creator = f i; serial = g i }

-- the roids, and what follows them in the numbers
pub roid_only : (x y : Option Roid) (rest more : List ℕ) → (roid_numbers x ++ rest) ≡ (roid_numbers y ++ more) → (x ≡ y) × (rest ≡ more)
roid_only None None rest more e = (refl, cc)
roid_only None (Some b) rest more e = let heads : 0 ≡ 1 + object_rank b.kind = cc in absurd (omega (arith, heads))
roid_only (Some a) None rest more e = let heads : 1 + object_rank a.kind ≡ 0 = cc in absurd (omega (arith, heads))
roid_only (Some a) (Some b) rest more e =
    let heads : 1 + object_rank a.kind ≡ 1 + object_rank b.kind = cc in
    let kinds : object_rank a.kind ≡ object_rank b.kind = omega (arith, heads) in
    let creators : a.creator ≡ b.creator = cc in
    let serials : a.serial ≡ b.serial = cc in
    (ap Some (one_roid a b kinds creators serials), cc)

numbers_only : (a b : Line) → numbers a ≡ numbers b → a ≡ b
unfolding numbers
numbers_only a b e =
    let kind = same-kind a.kind b.kind cc in
    let tails : (roid_numbers a.roid ++ a.recorded ∷ a.years ∷ a.cents ∷ maybe_number a.started ∷ maybe_number a.refunded ∷ []) ≡ (roid_numbers b.roid ++ b.recorded ∷ b.years ∷ b.cents ∷ maybe_number b.started ∷ maybe_number b.refunded ∷ []) = cc in
    let rest = roid_only a.roid b.roid _ _ tails in
    let last : (a.recorded ∷ a.years ∷ a.cents ∷ maybe_number a.started ∷ maybe_number a.refunded ∷ []) ≡ (b.recorded ∷ b.years ∷ b.cents ∷ maybe_number b.started ∷ maybe_number b.refunded ∷ []) = rest.1 in
    let started = maybe_only a.started b.started cc in
    let refunded = maybe_only a.refunded b.refunded cc in
    let recorded : a.recorded ≡ b.recorded = cc in
    let years : a.years ≡ b.years = cc in
    let cents : a.cents ≡ b.cents = cc in
    λ i. record { kind = kind i; roid = rest.0 i; recorded = recorded i; years = years i; cents = cents i; started = started i; refunded = refunded i }

pub lines_in_order : IsLinear in_order
unfolding in_order
lines_in_order = linear_by_numbers numbers numbers_only

-- ---- a line is told by what it says

kind-Decides : (a b : LineKind) → Decides (is_kind a b) (a ≡ b)
kind-Decides a b = Decides-like _ (same-kind a b) (ap kind_rank) (Decides-eqb (kind_rank a) (kind_rank b))

pub roid-Decides : (a b : Roid) → Decides (is_same_roid a b) (a ≡ b)
roid-Decides a b = Decides-like _
    (λ e. one_roid a b e.0 e.1.0 e.1.1)
    (λ e. (ap (λ (r : Roid). object_rank r.kind) e, (ap (λ (r : Roid). r.creator) e, ap (λ (r : Roid). r.serial) e)))
    (Decides-and _ _ (Decides-eqb (object_rank a.kind) (object_rank b.kind)) (Decides-and _ _ (Decides-eqb a.creator b.creator) (Decides-eqb a.serial b.serial)))

pub same-roids : (a b : Roid) → is_same_roid a b ≡ true → a ≡ b
same-roids a b = (roid-Decides a b).0

pub itself-roid : (a : Roid) → is_same_roid a a ≡ true
itself-roid a = (roid-Decides a a).1 refl

domain-Decides : (a b : Option Roid) → Decides (is_same_domain a b) (a ≡ b)
domain-Decides None None = (λ e. refl, λ e. refl)
domain-Decides (Some a) (Some b) = Decides-like _ (ap Some) (same_Some a b) (roid-Decides a b)
domain-Decides None (Some b) = (λ e. cc, λ e. cc)
domain-Decides (Some a) None = (λ e. cc, λ e. cc)

number-Decides : (a b : Option ℕ) → Decides (is_same_number a b) (a ≡ b)
number-Decides None None = (λ e. refl, λ e. refl)
number-Decides (Some a) (Some b) = Decides-like _ (ap Some) (same_Some a b) (Decides-eqb a b)
number-Decides None (Some b) = (λ e. cc, λ e. cc)
number-Decides (Some a) None = (λ e. cc, λ e. cc)

line-Decides : (a b : Line) → Decides (is_line a b) (a ≡ b)
unfolding is_line is_line_for
line-Decides a b = Decides-like _
    (λ e. λ i. record { kind = e.0.0 i; roid = e.0.1.0 i; recorded = e.0.1.1.0 i; years = e.0.1.1.1 i; cents = e.1.0 i; started = e.1.1.0 i; refunded = e.1.1.1 i })
    (λ e. (
      (ap (λ (l : Line). l.kind) e, (ap (λ (l : Line). l.roid) e, (ap (λ (l : Line). l.recorded) e, ap (λ (l : Line). l.years) e))),
      (ap (λ (l : Line). l.cents) e, (ap (λ (l : Line). l.started) e, ap (λ (l : Line). l.refunded) e)),
    ))
    (Decides-and _ _
    (Decides-and _ _ (kind-Decides a.kind b.kind) (Decides-and _ _ (domain-Decides a.roid b.roid) (Decides-and _ _ (Decides-eqb a.recorded b.recorded) (Decides-eqb a.years b.years))))
    (Decides-and _ _ (Decides-eqb a.cents b.cents) (Decides-and _ _ (number-Decides a.started b.started) (number-Decides a.refunded b.refunded))))

pub same-in_order : (a b : Line) → same in_order a b ≡ true → a ≡ b
same-in_order a b e = same-is in_order lines_in_order a b (in_order a b) (in_order b a) refl refl e

itself-in_order : (a : Line) → same in_order a a ≡ true
itself-in_order a = rw (le-itself in_order lines_in_order a (in_order a a) refl) refl

-- in their order as well
pub line-told : (a b : Line) → is_line a b ≡ same in_order a b
line-told a b = same_from_decides _ _ (line-Decides a b) (same-in_order a b, λ e. ap (λ (l : Line). same in_order a l) (sym e) ∙ itself-in_order a)

-- ---- sums

add-step : (b : Bool) (x y : Line) (ys zs : List Line) → balance zs ≡ amount x +ℤ balance ys → balance (cond b (x ∷ y ∷ ys) (y ∷ zs)) ≡ amount x +ℤ balance (y ∷ ys)
unfolding balance
add-step true x y ys zs e = refl
add-step false x y ys zs e = omega (arith, ints, e)

-- a charge adds its amount
pub balance-add : (x : Line) (ls : List Line) → balance (add in_order x ls) ≡ amount x +ℤ balance ls
unfolding add balance
balance-add x [] = refl
balance-add x (y ∷ ys) = add-step (in_order x y) x y ys (add in_order x ys) (balance-add x ys)

pub balance-bag_of : (ls : List Line) → balance (bag_of in_order ls) ≡ balance ls
unfolding bag_of balance
balance-bag_of [] = refl
balance-bag_of (l ∷ ls) = balance-add l (bag_of in_order ls) ∙ ap (λ z. amount l +ℤ z) (balance-bag_of ls)

-- ---- the loop of the sum

pub balance-append : (xs ys : List Line) → balance (xs ++ ys) ≡ balance xs +ℤ balance ys
unfolding balance
balance-append [] ys = omega (arith, ints)
balance-append (x ∷ xs) ys = omega (arith, ints, balance-append xs ys)

bound : (d r : Bool) (c : ℕ) → c < 18_446_744_073_709_551_616 → ((pos 0 -ℤ pos 18_446_744_073_709_551_615) ≤ℤ amount_of d r c) × (amount_of d r c ≤ℤ pos 18_446_744_073_709_551_615)
bound d r c h = (grind (arith, ints, h), grind (arith, ints, h))

pub bounded-small : (ls : List Line) → AllByRecursion IsSmall ls → IsBounded ls
unfolding balance
bounded-small [] small = record { low = omega (arith, ints); high = omega (arith, ints) }
bounded-small (l ∷ ls) small =
    let rest = bounded-small ls small.1 in
    let most = bound (is_kind l.kind kinds.Deposit) (is_some l.refunded) l.cents small.0 in
    record { low = omega (arith, ints, rest.low, most.0); high = omega (arith, ints, rest.high, most.1) }

pub fits : (z : ℤ) → (pos 0 -ℤ pos 170_141_183_460_469_231_731_687_303_715_884_105_728) ≤ℤ z → z ≤ℤ pos 170_141_183_460_469_231_731_687_303_715_884_105_727 → saturate_signed w128 z ≡ z
fits (pos n) low high = ap pos (omega (arith, ints, high))
fits (negsuc n) low high = ap negsuc (omega (arith, ints, low))
