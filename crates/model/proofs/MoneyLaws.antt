-- What becomes of money over many calls.
use Rattle.std.proofs.{Common.{◌≡◌, inl, inr, ℕ, ◌≤◌, List, [], ◌∷◌, ◌++◌, ◌+◌, map, sym, subst, arith}, lemmas.Int.ints}
use Rattle.std.specs.List.{sum_by}
use Rattle.accounts.specs.declared.line.Line.{Line}
use Rattle.policy.specs.Rules.{PolicyRules}
use Rattle.model.specs.{Lapse.lapsed, Money.{AccountAges, AccountChanges, AccountFollows, IsCovered, IsRefundable, NoRefund}}
use Rattle.model.specs.MoneyLaws.{IsRefundableIn, LinesFollowOver, MoneyFollowsOver, OwesRenewalsAtMost, renewal_cents}
use Rattle.model.specs.Registry.{Registry, account_of}
use Rattle.model.proofs.MoneyLemmas.{ages-owe, cents-then, lines-same, lines-then}

-- what follows first, and what follows then
module _ (K L M : ℕ → Line → Type 0) (first : (t : ℕ) (l : Line) → K t l → M t l) (second : (t : ℕ) (l : Line) → L t l → M t l) (u v : ℕ) (le : u ≤ v) (a b c : List Line) where
  pub over-then : LinesFollowOver K u a b → LinesFollowOver L v b c → LinesFollowOver M v a c
  over-then h j = record {
    change = λ (l : Line). j.change (h.change l);
    added = j.added ++ map j.change h.added;
    lines = lines-then K L M first second u v le a b c h.change j.change h.added j.added h.lines j.lines;
    owed = by h.owed j.owed (cents-then L v j.change j.lines.each j.added h.added);
  }
    where
      by : OwesRenewalsAtMost a b h.added → OwesRenewalsAtMost b c j.added → sum_by renewal_cents (j.added ++ map j.change h.added) ≡ sum_by renewal_cents j.added + sum_by renewal_cents h.added
          → OwesRenewalsAtMost a c (j.added ++ map j.change h.added)
      by owed (inl above) more = inl (omega (arith, ints, above, more))
      by (inl above) (inr risen) more = inl (omega (arith, ints, above, risen, more))
      by (inr before) (inr risen) more = inr (omega (arith, ints, before, risen, more))

-- ---- a call

ages-over : (u : ℕ) (before found : List Line) → AccountAges u before found → LinesFollowOver NoRefund u before found
ages-over u before found h = record { change = h.change; added = h.added; lines = h.lines; owed = inr (ages-owe u before found h) }

changes-over : (L : ℕ → Line → Type 0) (u : ℕ) (found after : List Line) → AccountChanges L u found after → LinesFollowOver L u found after
changes-over L u found after h = record { change = h.change; added = h.added; lines = h.lines; owed = by h.covered }
  where
    by : IsCovered found after h.added → OwesRenewalsAtMost found after h.added
    by (inl above) = inl (omega (arith, ints, above))
    by (inr risen) = inr (let kept = risen.0 in omega (arith, ints, kept))

call-over : (p : PolicyRules) (r : ℕ) (found before after : Registry) → AccountFollows p r found before after
    → LinesFollowOver (IsRefundable p r found after) found.clock (account_of r before).lines (account_of r after).lines
call-over p r found before after h =
    let L : ℕ → Line → Type 0 = IsRefundable p r found after in
    over-then NoRefund L L (λ t l never. absurd never) (λ t l it. it) found.clock found.clock (omega arith) (account_of r before).lines (account_of r found).lines (account_of r after).lines
    (ages-over found.clock (account_of r before).lines (account_of r found).lines h.aged) (changes-over L found.clock (account_of r found).lines (account_of r after).lines h.called)

-- ---- calls

pub money-follows-over : MoneyFollowsOver
money-follows-over p last [] before after same r =
    let L : ℕ → Line → Type 0 = IsRefundableIn p r [] before in
    let ls : List Line = (account_of r before).lines in
    let stays : LinesFollowOver L last ls ls = record { change = λ (l : Line). l; added = []; lines = lines-same L last ls; owed = inr (omega (arith, ints)) } in
    subst (λ (s : Registry). LinesFollowOver L last ls (account_of r s).lines) (sym same) stays
money-follows-over p last (call ∷ calls) before after are r =
    over-then (IsRefundable p r (lapsed p call.0 before) call.1) (IsRefundableIn p r calls call.1) (IsRefundableIn p r (call ∷ calls) before)
    (λ t l lawful. inl lawful) (λ t l lawful. inr lawful) (lapsed p call.0 before).clock last are.0
    (account_of r before).lines (account_of r call.1).lines (account_of r after).lines
    (call-over p r (lapsed p call.0 before) before call.1 (are.1 r)) (money-follows-over p last calls call.1 after are.2 r)
