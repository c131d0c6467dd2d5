-- How lines follow from others, one change after another.
use Rattle.std.proofs.Common.{◌≡◌, ◌⊎◌, inl, inr, ℕ, ◌+◌, ◌≤◌, Bool, true, false, cond, List, [], ◌∷◌, ◌++◌, map, Option, Some, None, is_some, refl, sym, ap, subst, ◌∙◌, arith, pos, ◌+ℤ◌, ◌≤ℤ◌}
use Rattle.std.proofs.lemmas.{Int.ints, List.{append_assoc, map-append, map-id, Sums.{sum_by-append, sum_by-cons}}}
use Rattle.std.specs.List.{AllByRecursion, sum_by}
use Rattle.accounts.specs.{declared.line.{Line.Line, LineKind.LineKind}, Lines.{amount, amount_of, balance, in_order, is_kind}}
use Rattle.accounts.specs.declared.line.LineKind.TheVariants as kinds
use Rattle.accounts.proofs.LineLaws.{balance-append, balance-bag_of, lines_in_order}
use Rattle.basis.specs.Bag.{add, bag_of, remade}
use Rattle.basis.proofs.BagLaws.{remade-add, remade-bag_of}
use Rattle.model.specs.Money.{AccountAges, HasBegun, HasSameGrace, IsRecorded, IsRenewal, IsSameCharge, IsSooner, LineFollows, LinesFollow, NoRefund}
use Rattle.model.specs.MoneyLaws.{renewal_cents}

-- ---- bags

abbrev bag : List Line → List Line
bag = bag_of in_order

bag-after : (xs ys zs : List Line) → bag ys ≡ bag zs → bag (xs ++ ys) ≡ bag (xs ++ zs)
unfolding bag_of
bag-after [] ys zs e = e
bag-after (x ∷ xs) ys zs e = ap (add in_order x) (bag-after xs ys zs e)

bag-map : (f : Line → Line) (xs ys : List Line) → bag xs ≡ bag ys → bag (map f xs) ≡ bag (map f ys)
bag-map f xs ys e = sym (remade-bag_of in_order lines_in_order f xs) ∙ ap (remade in_order f) e ∙ remade-bag_of in_order lines_in_order f ys

bag-cons : (x : Line) (xs : List Line) → bag (x ∷ xs) ≡ add in_order x (bag xs)
unfolding bag_of
bag-cons x xs = refl

abbrev as_is : Line → Line
as_is l = l

bag-add : (x : Line) (xs : List Line) → bag (add in_order x xs) ≡ add in_order x (bag xs)
bag-add x xs =
    ap bag (sym (map-id (add in_order x xs))) ∙ remade-add in_order lines_in_order as_is x xs ∙ ap (λ (ls : List Line). add in_order x (bag ls)) (map-id xs)

bag-bag : (xs : List Line) → bag (bag xs) ≡ bag xs
bag-bag xs = ap bag (sym (map-id (bag xs))) ∙ remade-bag_of in_order lines_in_order as_is xs ∙ ap bag (map-id xs)

map-map : (f g : Line → Line) (xs : List Line) → map f (map g xs) ≡ map (λ (l : Line). f (g l)) xs
map-map f g [] = refl
map-map f g (x ∷ xs) = ap (λ (ls : List Line). f (g x) ∷ ls) (map-map f g xs)

-- ---- a line

same-charge : (l : Line) → IsSameCharge l l
same-charge l = record { kind = refl; roid = refl; recorded = refl; cents = refl }

pub line-itself : (L : ℕ → Line → Type 0) (u : ℕ) (l : Line) → LineFollows L u l l
line-itself L u l = record {
  charge = same-charge l;
  grace = inl (record { started = refl; years = refl });
  lawful = λ t none given. absurd (let never : (let o : Option ℕ = None in o) ≡ Some t = sym none ∙ given in cc);
  once = λ t given. refl;
}

sooner-then : (start years first most other all : ℕ) → IsSooner start years first most → IsSooner first most other all → IsSooner start years other all
sooner-then start years first most other all (inl lt) (inl less) = inl (omega (arith, lt, less))
sooner-then start years first most other all (inl lt) (inr same) = inl (omega (arith, lt, same.0))
sooner-then start years first most other all (inr same) (inl less) = inl (omega (arith, same.0, less))
sooner-then start years first most other all (inr same) (inr again) = inr (omega (arith, same.0, again.0), omega (arith, same.1, again.1))

-- what is lawful in one step is in both
module _ (K L M : ℕ → Line → Type 0) (first : (t : ℕ) (l : Line) → K t l → M t l) (second : (t : ℕ) (l : Line) → L t l → M t l) (u v : ℕ) (le : u ≤ v) where
  pub line-then : (l m n : Line) → LineFollows K u l m → LineFollows L v m n → LineFollows M v l n
  line-then l m n a b = record {
    charge = record { kind = b.charge.kind ∙ a.charge.kind; roid = b.charge.roid ∙ a.charge.roid; recorded = b.charge.recorded ∙ a.charge.recorded; cents = b.charge.cents ∙ a.charge.cents };
    grace = by-grace b.grace a.grace;
    lawful = λ t none given. by-refund t none given m.refunded refl;
    once = λ t given. let kept : m ≡ l = a.once t given in b.once t (ap (λ (x : Line). x.refunded) kept ∙ given) ∙ kept;
  }
    where
      begun-same : HasBegun u l m → HasSameGrace m n → HasBegun v l n
      begun-same h same = record {
        transfer = ap (λ (k : LineKind). is_kind k kinds.Transfer) b.charge.kind ∙ h.transfer;
        start = h.start;
        started = same.started ∙ h.started;
        come = omega (arith, h.come, le);
        sooner = λ other is. subst (λ (years : ℕ). IsSooner h.start years other l.years) (sym same.years) (h.sooner other is);
      }

      same-begun : HasSameGrace l m → HasBegun v m n → HasBegun v l n
      same-begun same h = record {
        transfer = h.transfer;
        start = h.start;
        started = h.started;
        come = h.come;
        sooner = λ other is. subst (λ (most : ℕ). IsSooner h.start n.years other most) same.years (h.sooner other (same.started ∙ is));
      }

      begun-begun : HasBegun u l m → HasBegun v m n → HasBegun v l n
      begun-begun g h = record {
        transfer = h.transfer;
        start = h.start;
        started = h.started;
        come = h.come;
        sooner = λ other is. sooner-then h.start n.years g.start m.years other l.years (h.sooner g.start g.started) (g.sooner other is);
      }

      by-grace : (HasSameGrace m n ⊎ HasBegun v m n) → (HasSameGrace l m ⊎ HasBegun u l m) → HasSameGrace l n ⊎ HasBegun v l n
      by-grace (inr begun) (inr before) = inr (begun-begun before begun)
      by-grace (inr begun) (inl before) = inr (same-begun before begun)
      by-grace (inl same) (inl before) = inl (record { started = same.started ∙ before.started; years = same.years ∙ before.years })
      by-grace (inl same) (inr before) = inr (begun-same before same)

      by-refund : (t : ℕ) → l.refunded ≡ None → n.refunded ≡ Some t → (o : Option ℕ) → m.refunded ≡ o → M t n
      by-refund t none given None e = second t n (b.lawful t e given)
      by-refund t none given (Some s) e =
          let kept : n ≡ m = b.once s e in
          subst (M t) (sym kept) (first t m (a.lawful t none (ap (λ (x : Line). x.refunded) (sym kept) ∙ given)))

  -- ---- lines

  all-both : (P : Line → Type 0) (xs ys : List Line) → AllByRecursion P xs → AllByRecursion P ys → AllByRecursion P (xs ++ ys)
  all-both P [] ys h j = j
  all-both P (x ∷ xs) ys h j = (h.0, all-both P xs ys h.1 j)

  recorded-later : (ls : List Line) → AllByRecursion (IsRecorded L v) ls → AllByRecursion (IsRecorded M v) ls
  recorded-later [] all = tt
  recorded-later (l ∷ ls) all =
      let before = all.0 in
      ((before.0, before.1, line-weaker before.0 l before.2), recorded-later ls all.1)
    where
      line-weaker : (k m : Line) → LineFollows L v k m → LineFollows M v k m
      line-weaker k m h = record { charge = h.charge; grace = h.grace; lawful = λ t none given. second t m (h.lawful t none given); once = h.once }

  recorded-changed : (f : Line → Line) → ((l : Line) → LineFollows L v l (f l)) → (ls : List Line) → AllByRecursion (IsRecorded K u) ls → AllByRecursion (IsRecorded M v) (map f ls)
  recorded-changed f each [] all = tt
  recorded-changed f each (l ∷ ls) all =
      let before = all.0 in
      ((before.0, before.1, line-then before.0 l (f l) before.2 (each l)), recorded-changed f each ls all.1)

  pub lines-then : (a b c : List Line) (g f : Line → Line) (n1 n2 : List Line) → LinesFollow K u a b g n1 → LinesFollow L v b c f n2
      → LinesFollow M v a c (λ (l : Line). f (g l)) (n2 ++ map f n1)
  lines-then a b c g f n1 n2 h j = record {
    lines = j.lines ∙ bag-after n2 (map f b) (map f (n1 ++ map g a)) (bag-map f b (n1 ++ map g a) h.lines)
        ∙ ap (λ (ls : List Line). bag (n2 ++ ls)) (map-append f n1 (map g a) ∙ ap (λ (ls : List Line). map f n1 ++ ls) (map-map f g a))
        ∙ ap bag (sym (append_assoc n2 (map f n1) (map (λ (l : Line). f (g l)) a)));
    each = λ l. line-then l (g l) (f (g l)) (h.each l) (j.each (g l));
    recorded = all-both (IsRecorded M v) n2 (map f n1) (recorded-later n2 j.recorded) (recorded-changed f j.each n1 h.recorded);
  }

-- ---- one change

pub lines-same : (L : ℕ → Line → Type 0) (u : ℕ) (ls : List Line) → LinesFollow L u ls ls (λ (l : Line). l) []
lines-same L u ls = record { lines = ap bag (sym (map-id ls)); each = line-itself L u; recorded = tt }

pub lines-added : (L : ℕ → Line → Type 0) (u : ℕ) (x : Line) (ls : List Line) → x.refunded ≡ None → LinesFollow L u ls (add in_order x ls) (λ (l : Line). l) (x ∷ [])
lines-added L u x ls none = record {
  lines = bag-add x ls ∙ sym (bag-cons x ls) ∙ ap (λ (ks : List Line). bag (x ∷ ks)) (sym (map-id ls));
  each = line-itself L u;
  recorded = ((x, none, line-itself L u x), tt);
}

pub lines-remade : (L : ℕ → Line → Type 0) (u : ℕ) (f : Line → Line) (ls : List Line) → ((l : Line) → LineFollows L u l (f l)) → LinesFollow L u ls (remade in_order f ls) f []
lines-remade L u f ls each = record { lines = bag-bag (map f ls); each = each; recorded = tt }

-- ---- balances

amount-given-back : (deposit given : Bool) (cents : ℕ) → amount_of deposit false cents ≤ℤ amount_of deposit given cents
amount-given-back true given cents = omega (arith, ints)
amount-given-back false true cents = omega (arith, ints)
amount-given-back false false cents = omega (arith, ints)

-- what becomes of a line lowers no balance
amount-rises : (L : ℕ → Line → Type 0) (u : ℕ) (l m : Line) → LineFollows L u l m → amount l ≤ℤ amount m
amount-rises L u l m h = by l.refunded refl
  where
    by : (o : Option ℕ) → l.refunded ≡ o → amount l ≤ℤ amount m
    by (Some t) e = subst (λ (x : Line). amount l ≤ℤ amount x) (sym (h.once t e)) (omega (arith, ints))
    by None e =
        let now : amount_of (is_kind l.kind kinds.Deposit) false l.cents ≡ amount l = ap (λ (o : Option ℕ). amount_of (is_kind l.kind kinds.Deposit) (is_some o) l.cents) (sym e) in
        let later : amount_of (is_kind l.kind kinds.Deposit) (is_some m.refunded) l.cents ≡ amount m = λ i. amount_of (is_kind (sym h.charge.kind i) kinds.Deposit) (is_some m.refunded) (sym h.charge.cents i) in
        omega (arith, ints, now, later, amount-given-back (is_kind l.kind kinds.Deposit) (is_some m.refunded) l.cents)

balance-map : (L : ℕ → Line → Type 0) (u : ℕ) (f : Line → Line) → ((l : Line) → LineFollows L u l (f l)) → (ls : List Line) → balance ls ≤ℤ balance (map f ls)
unfolding balance
balance-map L u f each [] = omega (arith, ints)
balance-map L u f each (l ∷ ls) = omega (arith, ints, amount-rises L u l (f l) (each l), balance-map L u f each ls)

pub balance-remade : (L : ℕ → Line → Type 0) (u : ℕ) (f : Line → Line) (ls : List Line) → ((l : Line) → LineFollows L u l (f l)) → balance ls ≤ℤ balance (remade in_order f ls)
balance-remade L u f ls each = omega (arith, ints, balance-map L u f each ls, balance-bag_of (map f ls))

-- ---- the cents of automatic renewals

cents-kept : (L : ℕ → Line → Type 0) (u : ℕ) (f : Line → Line) → ((l : Line) → LineFollows L u l (f l)) → (ls : List Line) → sum_by renewal_cents (map f ls) ≡ sum_by renewal_cents ls
cents-kept L u f each [] = refl
cents-kept L u f each (l ∷ ls) =
    let same : renewal_cents (f l) ≡ renewal_cents l = λ i. cond (is_kind ((each l).charge.kind i) kinds.AutoRenew) ((each l).charge.cents i) 0 in
    sum_by-cons renewal_cents (f l) (map f ls) ∙ omega (arith, same, cents-kept L u f each ls, sum_by-cons renewal_cents l ls)

pub cents-then : (L : ℕ → Line → Type 0) (u : ℕ) (f : Line → Line) → ((l : Line) → LineFollows L u l (f l)) → (new before : List Line) → sum_by renewal_cents (new ++ map f before) ≡ sum_by renewal_cents new + sum_by renewal_cents before
cents-then L u f each new before = sum_by-append renewal_cents new (map f before) ∙ ap (λ (n : ℕ). sum_by renewal_cents new + n) (cents-kept L u f each before)

-- ---- what time takes off a balance

amount-least : (deposit given : Bool) (cents : ℕ) → pos 0 ≤ℤ (amount_of deposit given cents +ℤ pos cents)
amount-least true given cents = omega (arith, ints)
amount-least false true cents = omega (arith, ints)
amount-least false false cents = omega (arith, ints)

renewal-least : (l : Line) → IsRenewal l → pos 0 ≤ℤ (amount l +ℤ pos (renewal_cents l))
renewal-least l is = subst (λ (cents : ℕ). pos 0 ≤ℤ (amount l +ℤ pos cents)) (sym (ap (λ (b : Bool). cond b l.cents 0) is.kind)) (amount-least (is_kind l.kind kinds.Deposit) (is_some l.refunded) l.cents)

renewals-least : (ls : List Line) → AllByRecursion IsRenewal ls → pos 0 ≤ℤ (balance ls +ℤ pos (sum_by renewal_cents ls))
unfolding balance
renewals-least [] all = omega (arith, ints)
renewals-least (l ∷ ls) all = omega (arith, ints, renewal-least l all.0, renewals-least ls all.1, sum_by-cons renewal_cents l ls)

-- no more than the cents of the renewals
pub ages-owe : (u : ℕ) (before found : List Line) (h : AccountAges u before found) → balance before ≤ℤ (balance found +ℤ pos (sum_by renewal_cents h.added))
ages-owe u before found h = omega (arith, ints, same, balance-append h.added (map h.change before), balance-map NoRefund u h.change h.lines.each before, renewals-least h.added h.renewals)
  where
    same : balance found ≡ balance (h.added ++ map h.change before)
    same = sym (balance-bag_of found) ∙ ap balance h.lines.lines ∙ balance-bag_of (h.added ++ map h.change before)
