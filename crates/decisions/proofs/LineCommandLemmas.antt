-- Each command and each order keeps what a well-formed registry says of lines.
use Rattle.std.proofs.Common.{◌≡◌, ◌⊎◌, inl, inr, ⊎_elim, ℕ, ◌≤◌, ◌<◌, ◌+◌, Bool, true, false, cond, not, ◌&&◌, min, List, [], ◌∷◌, Option, Some, None, is_some, refl, sym, ap, subst, ◌∙◌, arith}
use Rattle.decisions.proofs.Lemmas.{AsksFor, been-grown, begins-asks, CommandCases, Grows, IsItsOwn, known, one-or-apart, order-cases, own-put}
use Rattle.decisions.proofs.Lemmas.{OrderCases, put-cases, put-is, request-cases, roid-grown, waits-asks}
use Rattle.decisions.proofs.Words.{account_of, and-false, Asked, Bad, Change, changed, changed_all, changes_after, Charge, charge, charge_line}
use Rattle.decisions.proofs.Words.{ClientApproved, Command, count-none, deleted_domain, Deletion, Domain, domain_roid, effect, expiry, Facts, facts}
use Rattle.decisions.proofs.Words.{false_from_ne_true, gained, get, HasBeen, HasLines, HasLinesOn, HasObjects, HasRoid, is_kind, is_of, is_on, is_pending}
use Rattle.decisions.proofs.Words.{is_pending_state, is_same_roid, IsDeletion, IsLineOf, IsRegistrar, IsRegistry, IsSettled, IsSound, last_clock, Line}
use Rattle.decisions.proofs.Words.{list_any, name_of, new_domain, NewDomain, none-by, Order, order_decision, order_effect, PolicyRules, Post, Status}
use Rattle.decisions.proofs.Words.{PutDomain, recursion_from_All, Registry, renewed_domain, Request, restored_domain, restoring_domain, Roid, same-roids}
use Rattle.decisions.proofs.Words.{TakeSerial, Transfer, updated_domain, WasGiven, with_account, with_command}
use Rattle.decisions.proofs.WellFormedLemmas.{has-given, kept-counted, ungiven}
use Rattle.decisions.proofs.LineKeepingLemmas.{AllFitLines, in_place, IsChargeIn, IsCharged, begun-by, lines-changed_all, lines-counted, lines-stay, on-again, on-same, rises}
use Rattle.decisions.proofs.LineTransferLemmas.{asked-kept, lines-ended, lines-handed-over, post}
use Rattle.accounts.specs.declared.line.LineKind.TheVariants as lines
use Rattle.lifecycle.specs.Lapse.{completes_at, due_at, due_of, earlier}
use Rattle.objects.specs.declared.roid.ObjectKind.TheVariants as kinds
use Rattle.protocol.specs.declared.command.Request.TheVariants as requests

-- ---- a charge for a domain that is the registrar's own

-- no transfer is due by the clock
awaited-ahead : (p : PolicyRules) (s : Registry) (d : Domain) → IsDeletion p s d d.deletion → s.clock < due_at p d → (x : Transfer) → d.transfer ≡ Some x → is_pending_state x.state ≡ true → s.clock < x.ac_date
awaited-ahead p s d deletion ahead x is pending = by d.deletion deletion ahead
  where
    completes : completes_at d.transfer ≡ Some x.ac_date
    completes = ap completes_at is ∙ ap (λ (b : Bool). let o : Option ℕ = cond b (Some x.ac_date) None in o) pending

    by : (o : Option Deletion) → IsDeletion p s d o → s.clock < due_of p o d → s.clock < x.ac_date
    by None k lt = let sooner : s.clock < min (expiry d) x.ac_date = subst (λ (o : Option ℕ). s.clock < earlier (expiry d) o) completes lt in omega (arith, sooner)
    by (Some y) k lt = let never : true ≡ false = sym (ap is_pending is ∙ pending) ∙ k.transfer in absurd cc

own-charge : (p : PolicyRules) (t : Registry) (r : ℕ) (name : List ℕ) (d : Domain) (line : Line) → get t.domains name ≡ Some d → IsItsOwn domain_roid t.domains name d.roid → HasRoid p t kinds.Domain d.roid
    → r ≡ d.sponsor → ((x : Transfer) → d.transfer ≡ Some x → is_pending_state x.state ≡ true → t.clock < x.ac_date)
    → line.roid ≡ Some d.roid → is_kind line.kind lines.Transfer ≡ false → line.recorded ≤ t.clock → HasBeen t line.started → HasBeen t line.refunded → IsChargeIn p t r line
own-charge p t r name d line at own has sponsor ahead of kind recorded started refunded = record {
  fits = record { roid = subst (WasGiven p t) (sym of) has; recorded = recorded; started = started; refunded = refunded };
  domains = λ n e there. ⊎_elim (λ is. inr (subst (IsCharged r line) is charged)) (λ other. inl (ap (is_of e.roid) of ∙ other)) (one-or-apart domain_roid t.domains name d at own n e there);
}
  where
    charged : IsCharged r line d
    charged = record {
      sponsor = sponsor;
      waits = ap (λ (b : Bool). (b && (is_on d.roid line && not (is_some line.refunded))) && not (is_some line.started)) kind;
      awaited = λ x is pending. and-false (is_on d.roid line) _ (begun-by t x.ac_date line.started (omega (arith, ahead x is pending)) started);
    }

-- ---- commands

module _ (p : PolicyRules) (r : ℕ) (cl_trid : Option (List ℕ)) (s : Registry) (place : IsRegistrar p r) (is : HasObjects p s) (has : HasLines p s) (settled : IsSettled p s) (sound : IsSound p) (early : s.clock ≤ last_clock) where
  -- the registry once the command is counted
  abbrev counted : Registry
  counted = with_account r with_command s

  objects : HasObjects p counted
  objects = kept-counted p r s place is

  has-counted : HasLines p counted
  has-counted = lines-counted p s r with_command (λ a. refl) (λ a. omega arith) has

  -- a domain stands where it stood, with the same sponsor, ROID and transfers
  put-again : (name : List ℕ) (d e : Domain) → get s.domains name ≡ Some d → HasLinesOn counted (in_place d e)
  put-again name d e at = on-again counted d e (has-counted.domains name d at)

  -- and is charged for
  put-charged : (name : List ℕ) (d e : Domain) (line : Line) → get s.domains name ≡ Some d → r ≡ d.sponsor → line.roid ≡ Some d.roid → is_kind line.kind lines.Transfer ≡ false → line.recorded ≤ s.clock → HasBeen s line.started → HasBeen s line.refunded
      → AllFitLines p (PutDomain (in_place d e) ∷ Post r (Charge line) ∷ []) counted
  put-charged name d e line at sponsor of kind recorded started refunded =
      let k = is.domains name d at in
      let t : Registry = changed p (PutDomain (in_place d e)) counted in
      let rise = rises s r with_command (λ a. omega arith) in
      let grown : Grows p p s t = record { zone = refl; place = λ q is. is; clock = omega arith; serial = rise } in
      let own = own-put domain_roid s.domains is.identities.domain_roids d.name (in_place d e) name d at refl (sym k.is_at.named) in
      let charged = own-charge p t r d.name (in_place d e) line (put-is counted.domains d.name (in_place d e)) own (roid-grown p p s t grown kinds.Domain d.roid k.is_at.roid) sponsor
      (awaited-ahead p s d k.is_at.deletion (settled.domains name d at)) of kind recorded (been-grown p p s t grown line.started started) (been-grown p p s t grown line.refunded refunded) in
      (put-again name d e at, (charged, tt))

  -- ---- a new domain

  module _ (small : (account_of r s).serial < 4_611_686_018_427_387_904) (new : NewDomain) where
    abbrev request : Request
    request = requests.CreateDomain new

    abbrev f : Facts
    f = facts p r (Asked cl_trid request) s

    abbrev made : Domain
    made = new_domain r s.clock f new

    -- no line is of a domain with its ROID
    unlisted : (l : Line) → IsLineOf p s l → is_on made.roid l ≡ false
    unlisted l k = by l.roid k.roid
      where
        by : (of : Option Roid) → WasGiven p s of → is_of made.roid of ≡ false
        by None k = refl
        by (Some other) k = false_from_ne_true (is_same_roid other made.roid) (λ e.
            ungiven p r s place is cl_trid small kinds.Domain request kinds.Domain other k (same-roids other made.roid e))

    none-listed : (test : Line → Bool) → AsksFor made.roid test → (q : ℕ) → list_any test (account_of q s).lines ≡ false
    none-listed test asks q = none-by (IsLineOf p s) test (λ l k. asks l (unlisted l k)) (account_of q s).lines (recursion_from_All (IsLineOf p s) (account_of q s).lines (has.each q))

    made-on : HasLinesOn counted made
    made-on = on-same s counted (lines-stay s r with_command (λ a. refl)) made (search (none-listed, begins-asks, waits-asks, count-none))

    created : AllFitLines p (PutDomain made ∷ Post r TakeSerial ∷ charge lines.Create p r s.clock made.roid request f ∷ []) counted
    created =
        let t : Registry = changed_all p (PutDomain made ∷ Post r TakeSerial ∷ []) counted in
        let given = has-given p r s place is cl_trid small kinds.Domain request in
        let charged = own-charge p t r made.name made (charge_line lines.Create p s.clock made.roid request f) (put-is s.domains made.name made)
        (λ n x there alike. ⊎_elim (λ put. put.0) (λ before. absurd (ungiven p r s place is cl_trid small kinds.Domain request kinds.Domain x.roid (is.domains n x before).is_at.roid alike)) (put-cases s.domains made.name made n x there))
        (search (arith, given)) refl (λ x e pending. absurd cc) refl refl (omega arith) (omega arith) tt in
        (made-on, (tt, (charged, tt)))

  -- ---- each command

  -- what a command changes fits the lines at each step, or together
  abbrev Kept : List Change → Type 0
  Kept changes = AllFitLines p changes counted ⊎ HasLines p (changed_all p changes counted)

  commands-keep-lines : (account_of r s).serial < 4_611_686_018_427_387_904 → CommandCases p r cl_trid s (λ q. Kept)
  commands-keep-lines small = record {
    contacts = search inl;
    hosts = search inl;
    none = λ q. inl tt;
    acknowledged = λ id. inl (tt, tt);
    domain_created = λ new kept fit linked paid. inl (created small new);
    domain_dropped = λ name d it. inl (tt, (omega arith, tt));
    domain_deleted = λ name d years it. inl (put-again (name_of name) d (deleted_domain s.clock years d) it.at, (omega arith, tt));
    domain_updated = λ u d it linked. inl (put-again (name_of u.name) d (updated_domain s.clock u d) it.at, tt);
    renewed = λ name expires years d it fits. inl (put-charged (name_of name) d (renewed_domain s.clock years d) _ it.at it.own refl refl (omega arith) (omega arith) tt);
    restoring = λ name d at. inl (put-again (name_of name) d (restoring_domain s.clock d) at, tt);
    restored = λ name del_time res_time d it. inl (put-charged (name_of name) d (restored_domain s.clock d) _ it.at it.own refl refl (omega arith) tt tt);
    domain_asked = λ q n d at askable paid. inr (post p d.sponsor _ _ (asked-kept p counted objects has-counted n d at sound early r q (known p r cl_trid s q) askable));
    domain_approved = λ q n d at y last pending own.
        inr (post p y.requester _ _ (lines-handed-over p counted objects has-counted n d at ClientApproved y last pending refl (d.years + gained d s.clock) (gained d s.clock)));
    domain_turned_down = λ q n d at y last pending state to notice over down side.
        inr (post p to _ _ (lines-ended p counted objects has-counted n d at state y last pending over));
  }

  -- together with the count of the command
  kept-lines : (changes : List Change) → Kept changes → HasLines p (changed_all p changes counted)
  kept-lines changes kept = ⊎_elim (λ fit. lines-changed_all p changes counted fit has-counted) (λ together. together) kept

-- A registrar's command keeps what is so of lines, where nothing is due.
pub lines-effect : (p : PolicyRules) → IsSound p → (r : ℕ) (c : Command) (s : Registry) → IsRegistrar p r → IsRegistry p s → IsSettled p s → (account_of r s).serial < 4_611_686_018_427_387_904 → HasLines p (effect p r c s)
unfolding changes_after
lines-effect p sound r (Bad cl_trid fault) s place is settled small = has-counted p r cl_trid s place is.objects is.lines settled sound is.clock
lines-effect p sound r (Asked cl_trid q) s place is settled small =
    kept-lines p r cl_trid s place is.objects is.lines settled sound is.clock _
    (request-cases p r cl_trid s _ (commands-keep-lines p r cl_trid s place is.objects is.lines settled sound is.clock small) q)

-- ---- orders

orders-fit-lines : (p : PolicyRules) (s : Registry) → HasLines p s → OrderCases p s (λ changes. AllFitLines p changes s)
orders-fit-lines p s has =
    let again : (d : Domain) (statuses : List Status) → HasLinesOn s d → HasLinesOn s (record d { statuses = statuses }) = λ d statuses. on-again s d (record d { statuses = statuses }) in
    search (arith, has.domains, again, inl)

-- what an order of the operator changes fits the lines
pub fits-order : (p : PolicyRules) (order : Order) (s : Registry) → HasLines p s → AllFitLines p (order_decision p order s).changes s
fits-order p order s has = order-cases p s _ (orders-fit-lines p s has) order

-- and keeps what is so of them
pub lines-order : (p : PolicyRules) (order : Order) (s : Registry) → HasLines p s → HasLines p (order_effect p order s)
lines-order p order s has = lines-changed_all p (order_decision p order s).changes s (fits-order p order s has) has
