-- A domain that is handed over by a pending transfer begins with the grace of the transfer alone (RFC
-- 3915, 3.1; RFC 5730, 2.9.3.4).
use Rattle.std.proofs.Common.{◌≡◌, ◌≢◌, ℕ, ◌≤◌, ◌<◌, ◌==◌, Bool, true, false, cond, not, ◌&&◌, List, Option, Some, None, is_some, refl, ap, subst, ◌∙◌, arith, eqb-true}
use Rattle.std.proofs.{Common.⊎_elim, lemmas.Bool.{and_cases, and_left, and_parts, and_right}}
use Rattle.decisions.proofs.Words.{account_of, and-false, any-of-one, begins_after, begins_by, day-count, Domain, get, gives, Graces, graces, IfSome}
use Rattle.decisions.proofs.Words.{in_order, is_begun_after, is_for_transfer, is_kind, is_on, is_pending_state, IsLater, IsSound, IsStandardRequest}
use Rattle.decisions.proofs.Words.{IsTransferRecord, kind_rank, Line, LineKind, list_any, MeetsStandards, nat_tests, none-remade, period_of, PolicyRules}
use Rattle.decisions.proofs.Words.{Registry, remade, Roid, runs, runs_from, Transfer, transfer_started, TransferStart, waits}
use Rattle.accounts.specs.declared.line.LineKind.TheVariants as kinds
use Rattle.policy.specs.declared.days.Period.{Period}
use Rattle.policy.specs.declared.days.Period.TheVariants as periods

-- ---- one line

-- the transfer's grace alone
abbrev pub transfer_alone : Graces
transfer_alone = record { add = false; auto_renew = false; renew = false; transfer = true }

-- at t, for the domain with this identifier, which was last transferred before
module _ (p : PolicyRules) (t : ℕ) (roid : Roid) (last : Option ℕ) (past : IsLater t last) where
  earlier-ended : (start : ℕ) (period : Option Period) → start < t → runs_from p t (Some t) (Some start) period ≡ false
  earlier-ended start None lt = refl
  earlier-ended start (Some period) lt = grind (arith, nat_tests, lt)

  begun-ended : (since started : Option ℕ) (period : Option Period) → IsLater t since → is_begun_after since started ≡ false → runs_from p t (Some t) started period ≡ false
  begun-ended since None period late none = refl
  begun-ended None (Some start) period late none = absurd cc
  begun-ended (Some moment) (Some start) period late none =
      let by : start ≤ moment = grind (arith, nat_tests, none) in
      earlier-ended start period (omega (arith, by, late))

  -- a grace that didn't begin after that has ended
  over : (l : Line) → begins_after roid last l ≡ false → runs p t roid (Some t) l ≡ false
  over l none = ⊎_elim (and_left (is_on roid l) _)
      (λ n. and_right (is_on roid l) _ (and_right (not (is_some l.refunded)) _
      (begun-ended last l.started (period_of l.kind) past n)))
      (and_cases (is_on roid l) _ none)

  over-by : (kind : LineKind) (l : Line) → begins_after roid last l ≡ false → gives kind p t roid (Some t) l ≡ false
  over-by kind l none = and-false (is_kind l.kind kind) _ (over l none)

  module _ (years : ℕ) where
    abbrev start : TransferStart
    start = record { roid = roid; moment = t; years = years }

    -- other graces than that of a transfer end
    over-after : (kind : LineKind) → is_kind kinds.Transfer kind ≡ false → (l : Line) → begins_after roid last l ≡ false → gives kind p t roid (Some t) (transfer_started start l) ≡ false
    over-after kind other l none = by (is_for_transfer roid l) (not (begins_by l.started l.years t years)) refl
      where
        by : (b c : Bool) → is_for_transfer roid l ≡ b → gives kind p t roid (Some t) (cond (b && c) (record l { started = Some t; years = years }) l) ≡ false
        by true true e =
            let rank : kind_rank l.kind ≡ 4 = eqb-true (kind_rank l.kind) 4 (and_parts (is_kind l.kind kinds.Transfer) _ e).0 in
            let off : is_kind l.kind kind ≡ false = ap (λ (n : ℕ). n == kind_rank kind) rank ∙ other in
            ap (λ (b : Bool). b && runs p t roid (Some t) (let m : Line = record l { started = Some t; years = years } in m)) off
        by b c e = over-by kind l none

    -- that of the one that waits begins
    begins : (sound : IsSound p) (l : Line) → waits roid l ≡ true → gives kinds.Transfer p t roid (Some t) (transfer_started start l) ≡ true
    begins sound l waiting =
        let whole = and_parts (is_for_transfer roid l) (not (is_some l.started)) waiting in
        let kinds_are = and_parts (is_kind l.kind kinds.Transfer) (is_on roid l && not (is_some l.refunded)) whole.0 in
        let rest = and_parts (is_on roid l) (not (is_some l.refunded)) kinds_are.1 in
        by l.started l.kind whole.1 kinds_are.0 rest.0 rest.1
      where
        run : runs_from p t (Some t) (Some t) (Some periods.Transfer) ≡ true
        run = grind (arith, nat_tests, (day-count periods.Transfer t p.days sound.days_in_range).0)

        runs-by : (kind : LineKind) → is_kind kind kinds.Transfer ≡ true → runs_from p t (Some t) (Some t) (period_of kind) ≡ true
        runs-by kinds.Transfer e = run
        runs-by _ e = absurd cc

        by : (started : Option ℕ) (kind : LineKind) → not (is_some started) ≡ true → is_kind kind kinds.Transfer ≡ true → is_on roid l ≡ true → not (is_some l.refunded) ≡ true
            → (let m : Line = record l { started = started; kind = kind } in gives kinds.Transfer p t roid (Some t) (transfer_started start m)) ≡ true
        by (Some began) kind none is on unrefunded = absurd cc
        by None kind none is on unrefunded =
            (λ i. gives kinds.Transfer p t roid (Some t) (let m : Line = record l { started = None; kind = kind } in cond ((is i && (on i && unrefunded i)) && true) (record m { started = Some t; years = years }) m))
            ∙ (λ i. is i && (on i && (unrefunded i && runs-by kind is i)))

-- ---- the lines of the registrar that a domain is handed over to

module _ (p : PolicyRules) (s : Registry) (d : Domain) (x : Transfer) (elsewhere : (r : ℕ) → r ≢ d.sponsor → list_any (begins_after d.roid d.transferred) (account_of r s).lines ≡ false)
    (awaited : IsStandardRequest s d x) (requested : x.requested ≤ s.clock) (other : x.requester ≢ d.sponsor) where
  abbrev gained : List Line
  gained = (account_of x.requester s).lines

  past : IsLater s.clock d.transferred
  past = by d.transferred awaited.transferred
    where
      by : (last : Option ℕ) → IsLater x.requested last → IsLater s.clock last
      by None late = tt
      by (Some moment) late = omega (arith, late, requested)

  none-later : list_any (begins_after d.roid d.transferred) gained ≡ false
  none-later = elsewhere x.requester other

  module _ (sound : IsSound p) (years : ℕ) where
    abbrev begun : List Line
    begun = remade in_order (transfer_started (start p s.clock d.roid d.transferred past years)) gained

    none-after : (kind : LineKind) → is_kind kinds.Transfer kind ≡ false → list_any (gives kind p s.clock d.roid (Some s.clock)) begun ≡ false
    none-after kind other = none-remade in_order (begins_after d.roid d.transferred) (gives kind p s.clock d.roid (Some s.clock)) (transfer_started (start p s.clock d.roid d.transferred past years))
        (over-after p s.clock d.roid d.transferred past years kind other) gained none-later

    -- once the transfer is completed now, whatever years it adds, its grace runs and no other
    pub graces-after : graces p s.clock d.roid (Some s.clock) (remade in_order (transfer_started (record { roid = d.roid; moment = s.clock; years = years })) (account_of x.requester s).lines) ≡ transfer_alone
    unfolding graces
    graces-after = λ i. record {
      add = none-after kinds.Create refl i;
      auto_renew = none-after kinds.AutoRenew refl i;
      renew = none-after kinds.Renew refl i;
      transfer = any-of-one in_order (waits d.roid) (gives kinds.Transfer p s.clock d.roid (Some s.clock)) (transfer_started (start p s.clock d.roid d.transferred past years))
          (begins p s.clock d.roid d.transferred past years sound) gained awaited.charge i;
    }

-- The domain at a name, of which a transfer is pending that its sponsor didn't ask for.
module _ (p : PolicyRules) (s : Registry) (well : MeetsStandards p s) (name : List ℕ) (d : Domain) (x : Transfer)
    (at : get s.domains name ≡ Some d) (is : d.transfer ≡ Some x) (pending : is_pending_state x.state ≡ true) (other : x.requester ≢ d.sponsor) where
  last : IsTransferRecord p s x
  last = subst (λ (o : Option Transfer). IfSome o (IsTransferRecord p s)) is (well.domains name d at).transfer

  asked : IsStandardRequest s d x
  asked = subst (λ (o : Option Transfer). IfSome o (λ (t : Transfer). is_pending_state t.state ≡ true → IsStandardRequest s d t)) is (well.domains name d at).awaited pending

  pub graces-handed-over : (sound : IsSound p) (years : ℕ) → graces p s.clock d.roid (Some s.clock) (remade in_order (transfer_started (record { roid = d.roid; moment = s.clock; years = years })) (account_of x.requester s).lines) ≡ transfer_alone
  graces-handed-over sound years = graces-after p s d x (well.domains name d at).elsewhere asked last.requested other sound years
