-- What each change of an account makes of its lines and of its balance.
use Rattle.std.proofs.Common.{◌≡◌, ◌⊎◌, inl, inr, ℕ, ◌≤◌, ◌==◌, nat_le, nat_lt, Bool, true, false, cond, not, ◌&&◌, ◌||◌, List, [], ◌∷◌, ◌++◌, map, Option, Some, None, is_some, refl, sym, ap, subst, ◌∙◌, arith, eqb-true, pos, ◌+ℤ◌, ◌≤ℤ◌}
use Rattle.std.proofs.lemmas.{Bool.{and_parts, not-true, or_parts, Decides.nat_tests}, Int.ints}
use Rattle.std.specs.List.{AllByRecursion}
use Rattle.accounts.specs.declared.{entries.AutoRenewal.AutoRenewal, line.{Line.Line, LineKind.LineKind, TransferRefund.TransferRefund}}
use Rattle.accounts.specs.{declared.line.TransferStart.TransferStart, Entries.renewal_line}
use Rattle.accounts.specs.Lines.{amount, amount_of, balance, begins_by, in_order, is_for_transfer, is_kind, is_on, transfer_refunded, transfer_started, waits}
use Rattle.accounts.specs.declared.line.LineKind.TheVariants as kinds
use Rattle.accounts.proofs.LineLaws.{balance-add}
use Rattle.basis.specs.Bag.{add, remade}
use Rattle.lifecycle.specs.Graces.{period_of, refunded_running, runs, runs_from}
use Rattle.objects.specs.declared.{domain.Domain.Domain, roid.Roid.Roid, transfer.Transfer.Transfer}
use Rattle.objects.specs.declared.transfer.TransferState.TheVariants.{ClientRejected, ClientCancelled}
use Rattle.policy.specs.Rules.{PolicyRules}
use Rattle.model.specs.Money.{AccountAges, AccountChanges, IsCovered, IsFree, IsInGrace, IsRenewal, IsSooner, IsTurnedDown, LineFollows, LinesFollow, NoRefund}
use Rattle.model.specs.Registry.{Registry}
use Rattle.model.proofs.MoneyLemmas.{balance-remade, line-itself, lines-added, lines-remade, lines-same, lines-then}

-- ---- one line

not-some : (o : Option ℕ) → not (is_some o) ≡ true → o ≡ None
not-some None e = refl
not-some (Some n) e = absurd (let never : false ≡ true = e in cc)

none-or-some : {A : Type 0} (o : Option ℕ) (t : ℕ) → o ≡ None → o ≡ Some t → A
none-or-some o t none given = absurd (let never : (let n : Option ℕ = None in n) ≡ Some t = sym none ∙ given in cc)

-- a grace that isn't begun by a moment begins sooner there
begins-sooner : (other most moment years : ℕ) → not (begins_by (Some other) most moment years) ≡ true → IsSooner moment years other most
begins-sooner other most moment years late = by (other == moment) refl
  where
    none : (nat_lt other moment ≡ false) × (((other == moment) && nat_le most years) ≡ false)
    none = or_parts (nat_lt other moment) ((other == moment) && nat_le most years) (not-true (nat_lt other moment || ((other == moment) && nat_le most years)) late)

    by : (b : Bool) → (other == moment) ≡ b → IsSooner moment years other most
    by true same =
        let more : nat_le most years ≡ false = ap (λ (b : Bool). b && nat_le most years) (sym same) ∙ none.1 in
        inr (sym (eqb-true other moment same), grind (arith, nat_tests, more))
    by false apart = let after : nat_lt other moment ≡ false = none.0 in inl (grind (arith, nat_tests, after, apart))

-- a line that takes nothing off a balance is a deposit, or of no cents
free-charge : (x : Line) → x.refunded ≡ None → pos 0 ≤ℤ amount x → IsFree x
free-charge x none free = by (is_kind x.kind kinds.Deposit) refl
  where
    by : (b : Bool) → is_kind x.kind kinds.Deposit ≡ b → IsFree x
    by true deposit = inl deposit
    by false charge =
        let whole : amount_of false false x.cents ≡ amount x = λ i. amount_of (sym charge i) (is_some (sym none i)) x.cents in
        inr (omega (arith, ints, free, whole))

module _ (L : ℕ → Line → Type 0) (u : ℕ) where
  -- a line that wasn't given back is, where that is lawful
  line-refunded : (b : Bool) (t : ℕ) (l : Line) → (b ≡ true → l.refunded ≡ None) → (b ≡ true → L t (record l { refunded = Some t })) → LineFollows L u l (cond b (record l { refunded = Some t }) l)
  line-refunded true t l open_still lawful = record {
    charge = record { kind = refl; roid = refl; recorded = refl; cents = refl };
    grace = inl (record { started = refl; years = refl });
    lawful = λ s none given.
        let same : t ≡ s = cc in
        let m : Line = record l { refunded = Some t } in
        subst (λ (n : ℕ). L n m) same (lawful refl);
    once = λ s given. none-or-some l.refunded s (open_still refl) given;
  }
  line-refunded false t l open_still lawful = line-itself L u l

  -- the charge of a transfer that waits
  pub transfer-given-back : (x : TransferRefund) (l : Line) → (waits x.roid l ≡ true → L x.moment (record l { refunded = Some x.moment })) → LineFollows L u l (transfer_refunded x l)
  transfer-given-back x l lawful = line-refunded (waits x.roid l) x.moment l (λ e.
      let wait = and_parts (is_for_transfer x.roid l) (not (is_some l.started)) e in
      let for = and_parts (is_kind l.kind kinds.Transfer) (is_on x.roid l && not (is_some l.refunded)) wait.0 in
      not-some l.refunded (and_parts (is_on x.roid l) (not (is_some l.refunded)) for.1).1) lawful

  -- a line whose grace runs
  pub running-given-back : (p : PolicyRules) (t : ℕ) (roid : Roid) (since : Option ℕ) (l : Line) → (runs p t roid since l ≡ true → L t (record l { refunded = Some t })) → LineFollows L u l (refunded_running p t roid since l)
  running-given-back p t roid since l lawful = line-refunded (runs p t roid since l) t l (λ e.
      let run = and_parts (is_on roid l) (not (is_some l.refunded) && runs_from p t since l.started (period_of l.kind)) e in
      not-some l.refunded (and_parts (not (is_some l.refunded)) (runs_from p t since l.started (period_of l.kind)) run.1).0) lawful

  -- the grace of a transfer's begins
  pub transfer-begun : (x : TransferStart) → x.moment ≤ u → (l : Line) → LineFollows L u l (transfer_started x l)
  transfer-begun x le l = by (is_for_transfer x.roid l) (not (begins_by l.started l.years x.moment x.years)) refl refl
    where
      by : (b c : Bool) → is_for_transfer x.roid l ≡ b → not (begins_by l.started l.years x.moment x.years) ≡ c → LineFollows L u l (cond (b && c) (record l { started = Some x.moment; years = x.years }) l)
      by true true e late =
          let for = and_parts (is_kind l.kind kinds.Transfer) (is_on x.roid l && not (is_some l.refunded)) e in
          let open_still : l.refunded ≡ None = not-some l.refunded (and_parts (is_on x.roid l) (not (is_some l.refunded)) for.1).1 in
          record {
            charge = record { kind = refl; roid = refl; recorded = refl; cents = refl };
            grace = inr (record {
              transfer = for.0;
              start = x.moment;
              started = refl;
              come = le;
              sooner = λ other is. begins-sooner other l.years x.moment x.years (ap (λ (o : Option ℕ). not (begins_by o l.years x.moment x.years)) (sym is) ∙ late);
            });
            lawful = λ t none given. none-or-some l.refunded t none given;
            once = λ t given. none-or-some l.refunded t open_still given;
          }
      by true false e late = line-itself L u l
      by false c e late = line-itself L u l

  -- ---- the lines of an account

  -- a line more
  lines-one : (x : Line) → x.refunded ≡ None → (before after : List Line) (change : Line → Line) (added : List Line) → LinesFollow L u before after change added
      → LinesFollow L u before (add in_order x after) change ((x ∷ []) ++ map (λ (l : Line). l) added)
  lines-one x none before after change added h =
      lines-then L L L (λ t l it. it) (λ t l it. it) u u (omega arith) before after (add in_order x after) change (λ (l : Line). l) added (x ∷ []) h (lines-added L u x after none)

  -- lines change
  lines-changed : (f : Line → Line) → ((l : Line) → LineFollows L u l (f l)) → (before after : List Line) (change : Line → Line) (added : List Line) → LinesFollow L u before after change added
      → LinesFollow L u before (remade in_order f after) (λ (l : Line). f (change l)) ([] ++ map f added)
  lines-changed f each before after change added h =
      lines-then L L L (λ t l it. it) (λ t l it. it) u u (omega arith) before after (remade in_order f after) change f added [] h (lines-remade L u f after each)

  -- ---- what a call makes of them, and of the balance

  abbrev pub Follows : List Line → List Line → Type 0
  Follows found after = AccountChanges L u found after

  pub follows-itself : (ls : List Line) → Follows ls ls
  follows-itself ls = record { change = λ (l : Line). l; added = []; lines = lines-same L u ls; covered = inr (omega (arith, ints), tt) }

  free-still : (f : Line → Line) → ((l : Line) → LineFollows L u l (f l)) → (ls : List Line) → AllByRecursion IsFree ls → AllByRecursion IsFree (map f ls)
  free-still f each [] all = tt
  free-still f each (l ∷ ls) all = (by all.0, free-still f each ls all.1)
    where
      by : IsFree l → IsFree (f l)
      by (inl deposit) = inl (ap (λ (k : LineKind). is_kind k kinds.Deposit) (each l).charge.kind ∙ deposit)
      by (inr none) = inr ((each l).charge.cents ∙ none)

  -- a charge, or a deposit: it is nothing or more, or the balance covers it
  pub follows-charge : (x : Line) (found after : List Line) → x.refunded ≡ None → ((pos 0 ≤ℤ amount x) ⊎ (pos 0 ≤ℤ (amount x +ℤ balance after))) → Follows found after → Follows found (add in_order x after)
  follows-charge x found after none paid h = record {
    change = h.change;
    added = (x ∷ []) ++ map (λ (l : Line). l) h.added;
    lines = lines-one x none found after h.change h.added h.lines;
    covered = by paid h.covered;
  }
    where
      by : ((pos 0 ≤ℤ amount x) ⊎ (pos 0 ≤ℤ (amount x +ℤ balance after))) → IsCovered found after h.added → IsCovered found (add in_order x after) ((x ∷ []) ++ map (λ (l : Line). l) h.added)
      by (inr paid) covered = inl (omega (arith, ints, paid, balance-add x after))
      by (inl free) (inl above) = inl (omega (arith, ints, free, above, balance-add x after))
      by (inl free) (inr risen) = inr (omega (arith, ints, free, risen.0, balance-add x after), (free-charge x none free, free-still (λ (l : Line). l) (line-itself L u) h.added risen.1))

  pub follows-changed : (f : Line → Line) → ((l : Line) → LineFollows L u l (f l)) → (found after : List Line) → Follows found after → Follows found (remade in_order f after)
  follows-changed f each found after h = record {
    change = λ (l : Line). f (h.change l);
    added = map f h.added;
    lines = lines-changed f each found after h.change h.added h.lines;
    covered = by h.covered;
  }
    where
      by : IsCovered found after h.added → IsCovered found (remade in_order f after) (map f h.added)
      by (inl above) = inl (omega (arith, ints, above, balance-remade L u f after each))
      by (inr risen) = inr (omega (arith, ints, risen.0, balance-remade L u f after each), free-still f each h.added risen.1)

-- ---- what time makes of the lines of an account

module _ (u : ℕ) where
  pub ages-itself : (ls : List Line) → AccountAges u ls ls
  ages-itself ls = record { change = λ (l : Line). l; added = []; lines = lines-same NoRefund u ls; renewals = tt }

  renewal-still : (l m : Line) → LineFollows NoRefund u l m → IsRenewal l → IsRenewal m
  renewal-still l m h is = record { kind = ap (λ (k : LineKind). is_kind k kinds.AutoRenew) h.charge.kind ∙ is.kind; refunded = by m.refunded refl }
    where
      by : (o : Option ℕ) → m.refunded ≡ o → m.refunded ≡ None
      by None e = e
      by (Some t) e = absurd (h.lawful t is.refunded e)

  renewals-still : (f : Line → Line) → ((l : Line) → LineFollows NoRefund u l (f l)) → (ls : List Line) → AllByRecursion IsRenewal ls → AllByRecursion IsRenewal (map f ls)
  renewals-still f each [] all = tt
  renewals-still f each (l ∷ ls) all = (renewal-still l (f l) (each l) all.0, renewals-still f each ls all.1)

  pub ages-renewal : (r : AutoRenewal) (before found : List Line) → AccountAges u before found → AccountAges u before (add in_order (renewal_line r) found)
  ages-renewal r before found h = record {
    change = h.change;
    added = (renewal_line r ∷ []) ++ map (λ (l : Line). l) h.added;
    lines = lines-one NoRefund u (renewal_line r) refl before found h.change h.added h.lines;
    renewals = (record { kind = refl; refunded = refl }, renewals-still (λ (l : Line). l) (line-itself NoRefund u) h.added h.renewals);
  }

  pub ages-changed : (f : Line → Line) → ((l : Line) → LineFollows NoRefund u l (f l)) → (before found : List Line) → AccountAges u before found → AccountAges u before (remade in_order f found)
  ages-changed f each before found h = record {
    change = λ (l : Line). f (h.change l);
    added = map f h.added;
    lines = lines-changed NoRefund u f each before found h.change h.added h.lines;
    renewals = renewals-still f each h.added h.renewals;
  }

-- ---- what is lawful

pub in-grace : (p : PolicyRules) (r : ℕ) (s : Registry) (d : Domain) (t : ℕ) (l : Line) → d.sponsor ≡ r → runs p s.clock d.roid d.transferred l ≡ true → IsInGrace p r s d (record l { refunded = Some t })
in-grace p r s d t l sponsor e =
    let run = and_parts (is_on d.roid l) (not (is_some l.refunded) && runs_from p s.clock d.transferred l.started (period_of l.kind)) e in
    record { sponsor = sponsor; roid = run.0; runs = (and_parts (not (is_some l.refunded)) (runs_from p s.clock d.transferred l.started (period_of l.kind)) run.1).1 }

pub turned-down : (r t : ℕ) (d : Domain) (x : Transfer) (l : Line) → d.transfer ≡ Some x → x.requester ≡ r → ((x.state ≡ ClientRejected) ⊎ (x.state ≡ ClientCancelled)) → x.ac_date ≡ t → waits d.roid l ≡ true
    → IsTurnedDown r t d x (record l { refunded = Some t })
turned-down r t d x l transfer requester state at e =
    let wait = and_parts (is_for_transfer d.roid l) (not (is_some l.started)) e in
    let for = and_parts (is_kind l.kind kinds.Transfer) (is_on d.roid l && not (is_some l.refunded)) wait.0 in
    record {
      kind = for.0;
      roid = (and_parts (is_on d.roid l) (not (is_some l.refunded)) for.1).0;
      started = not-some l.started wait.1;
      transfer = transfer;
      requester = requester;
      state = state;
      at = at;
    }
