-- What is asked for, approved, rejected or withdrawn of a domain's transfer keeps what a well-formed
-- registry says of lines (RFC 5730, 2.9.3.4).
use Rattle.std.proofs.Common.{◌≡◌, ◌≢◌, ⊎_elim, ℕ, ◌≤◌, ◌<◌, ◌==◌, Bool, true, false, cond, ◌&&◌, List, Option, Some, None, refl, sym, ap, subst, ◌∙◌, arith, max, nat_lt}
use Rattle.decisions.proofs.Words.{Account, account_of, add, AllByRecursion, and_left, and_right, begins_after, changed, charges_waiting, cond_both, day-count}
use Rattle.decisions.proofs.Words.{Domain, domain_with_transfer, end, Facts, get, HasLines, HasLinesOn, HasObjects, HasRoid, in_order}
use Rattle.decisions.proofs.Words.{is_kind, is_on, is_pending, is_pending_state, is_same_roid, IsLater, IsLineOf, IsSound, itself-roid, last_clock}
use Rattle.decisions.proofs.Words.{ended as ended_now, TransferState}
use Rattle.decisions.proofs.Words.{Line, list_any, locked_since, nat_tests, Notification, notified, PolicyRules, PutDomain, recursion_from_All}
use Rattle.decisions.proofs.Words.{refund-elsewhere, refund-stays, Registry, remade, Request, requested, Roid, same-roids, Start, start-elsewhere}
use Rattle.decisions.proofs.Words.{start-stays, Transfer, transfer_line, transfer_refunded, transfer_started, TransferRefund, TransferStart, waits}
use Rattle.decisions.proofs.{Words.{false_from_ne_true, with_account, with_lines}, Lemmas.{Grows, own-account, put-either}}
use Rattle.decisions.proofs.LineEntryLemmas.{AsksFor, begins-asks, lines-kept, started-waits-not, test-elsewhere, waits-asks}
use Rattle.decisions.proofs.LineKeepingLemmas.{account-grows, begun-by, each-kept, lines-counted, lines-keep, on-relined, on-same}
use Rattle.model.proofs.LineLemmas.{and-false, all-add, all-remade, count, count-add, count-add-none, count-none-remade, count-remade, itself, none-add, none-by, none-remade, not-itself, one-or-other, one_if}
use Rattle.decisions.proofs.{LineKeepingLemmas.refund-begins, LineKeepingLemmas.refund-line, CommandCases.IsAskable}
use Rattle.accounts.specs.declared.line.LineKind.TheVariants as lines
use Rattle.objects.specs.declared.roid.ObjectKind.TheVariants as kinds
use Rattle.policy.specs.declared.days.Period.TheVariants as periods

-- ---- accounts, and charges that wait

none-awaited : (r : ℕ) (o : Option Transfer) → is_pending o ≡ false → charges_waiting r o ≡ 0
none-awaited r None over = refl
none-awaited r (Some x) over = ap (λ (b : Bool). cond (b && (x.requester == r)) 1 0) over

-- ---- one domain is put, and the lines on it in one account change

-- what is done to lines is done to those on the domain alone
pub record IsOnDomain (roid : Roid) (g : List Line → List Line) : Type 0 where
  pub none : (other : Roid) (test : Line → Bool) → AsksFor other test → is_same_roid roid other ≡ false → (ls : List Line) → list_any test ls ≡ false → list_any test (g ls) ≡ false
  pub as_many : (other : Roid) (test : Line → Bool) → AsksFor other test → is_same_roid roid other ≡ false → (ls : List Line) → count test (g ls) ≡ count test ls

module _ (p : PolicyRules) (s : Registry) (objects : HasObjects p s) (has : HasLines p s) (name : List ℕ) (d : Domain) (at : get s.domains name ≡ Some d) where
  module _ (e : Domain) (called : e.name ≡ d.name) (r : ℕ) (g : List Line → List Line) where
    -- the domain in place of what stood there, and the account
    abbrev put : Registry
    put = changed p (PutDomain e) s

    abbrev left : Registry
    left = with_account r (with_lines g) put

    grows : Grows p p s left
    grows =
        let given : Grows p p put left = account-grows put r (with_lines g) p (λ a. omega arith) in
        record { zone = refl; place = λ q place. place; clock = omega arith; serial = λ q. given.serial q }

    none-changed : (test : Line → Bool) (q : ℕ) → (r ≡ q → list_any test (account_of q s).lines ≡ false → list_any test (g (account_of q s).lines) ≡ false) → list_any test (account_of q s).lines ≡ false → list_any test (account_of q left).lines ≡ false
    none-changed test q keeps none = lines-keep put r (with_lines g) (λ ls. list_any test ls ≡ false) q keeps none

    count-changed : (test : Line → Bool) (q n : ℕ) → (r ≡ q → count test (account_of q s).lines ≡ n → count test (g (account_of q s).lines) ≡ n) → count test (account_of q s).lines ≡ n → count test (account_of q left).lines ≡ n
    count-changed test q n keeps h = lines-keep put r (with_lines g) (λ ls. count test ls ≡ n) q keeps h

    pub lines-left : IsOnDomain d.roid g → ((ls : List Line) → AllByRecursion (IsLineOf p left) ls → AllByRecursion (IsLineOf p left) (g ls)) → HasLinesOn left e → HasLines p left
    lines-left only fits on = record {
      each = each-kept p p s left grows has (λ q. lines-keep put r (with_lines g) (AllByRecursion (IsLineOf p left)) q (λ own. fits (account_of q s).lines));
      -- other domains see nothing of it
      domains = λ n x there. ⊎_elim (λ new. subst (HasLinesOn left) new.1 on)
          (λ before. let apart = other n x before.0 before.1 in on-relined put r g x
          (λ last. only.none x.roid (begins_after x.roid last) (begins-asks x.roid last) apart) (only.as_many x.roid (waits x.roid) (waits-asks x.roid) apart)
          (on-same s put (λ q. refl) x (has.domains n x before.1))) (put-either s.domains e.name e n x there);
    }
      where
        other : (n : List ℕ) (x : Domain) → n ≢ e.name → get s.domains n ≡ Some x → is_same_roid d.roid x.roid ≡ false
        other n x elsewhere before = false_from_ne_true (is_same_roid d.roid x.roid) (λ same.
            elsewhere (objects.identities.domain_roids n name x d before at (sym (same-roids d.roid x.roid same)) ∙ sym (objects.domains name d at).is_at.named ∙ sym called))

  -- no grace has begun ahead of the clock
  none-ahead : (roid : Roid) (last q : ℕ) → s.clock ≤ last → list_any (begins_after roid (Some last)) (account_of q s).lines ≡ false
  none-ahead roid last q le = none-by (IsLineOf p s) (begins_after roid (Some last)) (λ l k. and-false (is_on roid l) _ (begun-by s last l.started le k.started)) (account_of q s).lines (recursion_from_All (IsLineOf p s) (account_of q s).lines (has.each q))

  -- ---- a transfer is asked for: its charge waits

  module _ (sound : IsSound p) (early : s.clock ≤ last_clock) (r : ℕ) (q : Request) (f : Facts) (askable : IsAskable p r s.clock d) where
    abbrev asking : Transfer
    asking = requested p r d.sponsor s.clock

    abbrev asked : Domain
    asked = domain_with_transfer asking d

    abbrev line : Line
    line = transfer_line p s.clock d.roid q f

    abbrev charged : List Line → List Line
    charged ls = add in_order line ls

    charged-only : IsOnDomain d.roid charged
    charged-only = record {
      none = λ other test asks apart ls none. none-add in_order test line ls (asks line apart) none;
      as_many = λ other test asks apart ls. count-add-none in_order test line ls (asks line apart);
    }

    -- a lock of at least a day is over
    unlocked : (o : Option ℕ) → nat_lt s.clock (end periods.Lock (locked_since o d.created) p) ≡ false → (d.created < s.clock) × IsLater s.clock o
    unlocked None e = let over : end periods.Lock d.created p ≤ s.clock = grind (arith, nat_tests, e) in (omega (arith, over, (day-count periods.Lock d.created p.days sound.days_in_range).0), tt)
    unlocked (Some transferred) e =
        let over : end periods.Lock (max d.created transferred) p ≤ s.clock = grind (arith, nat_tests, e) in
        let least = day-count periods.Lock (max d.created transferred) p.days sound.days_in_range in
        (omega (arith, over, least.0), omega (arith, over, least.0))

    asked-on : HasLinesOn (left asked refl r charged) asked
    asked-on =
        let begun : (last : Option ℕ) (q : ℕ) → list_any (begins_after d.roid last) (account_of q s).lines ≡ false → list_any (begins_after d.roid last) (account_of q (left asked refl r charged)).lines ≡ false =
        λ last q. none-changed asked refl r charged (begins_after d.roid last) q (λ own none. none-add in_order (begins_after d.roid last) line (account_of q s).lines (and-false (is_on d.roid line) false refl) none) in
        let past = unlocked d.transferred askable.unlocked in
        let created : d.created < s.clock = past.0 in
        let later : IsLater s.clock d.transferred = past.1 in
        let due : s.clock ≤ asking.ac_date = omega (arith, early) in
        search (one, begun, (has.domains name d at).elsewhere, none-ahead d.roid asking.ac_date d.sponsor due)
      where
        none-before : (q : ℕ) → count (waits d.roid) (account_of q s).lines ≡ 0
        none-before q = (has.domains name d at).waiting q ∙ none-awaited q d.transfer askable.over

        here : count (waits d.roid) (account_of r (left asked refl r charged)).lines ≡ charges_waiting r (Some asking)
        here =
            ap (λ (a : Account). count (waits d.roid) a.lines) (own-account r (with_lines charged) (put asked refl r charged))
            ∙ count-add in_order (waits d.roid) line (account_of r s).lines
            ∙ (λ i. one_if ((itself-roid d.roid i && true) && true) (none-before r i))
            ∙ sym (λ i. cond (itself r i) 1 0)

        one : (q : ℕ) → count (waits d.roid) (account_of q (left asked refl r charged)).lines ≡ charges_waiting q (Some asking)
        one q = one-or-other r q
            (λ own. subst (λ (n : ℕ). count (waits d.roid) (account_of n (left asked refl r charged)).lines ≡ charges_waiting n (Some asking)) own here)
            (λ elsewhere. count-changed asked refl r charged (waits d.roid) q 0 (λ own. absurd (elsewhere own)) (none-before q) ∙ sym (λ i. cond (not-itself r q elsewhere i) 1 0))

    pub asked-kept : HasLines p (with_account r (with_lines (add in_order (transfer_line p s.clock d.roid q f))) (changed p (PutDomain (domain_with_transfer (requested p r d.sponsor s.clock) d)) s))
    asked-kept =
        let t : Registry = left asked refl r charged in
        let k = (objects.domains name d at).is_at.roid in
        let given : HasRoid p t kinds.Domain d.roid = search (arith, k.serial, (grows asked refl r charged).serial d.roid.creator) in
        let fits : IsLineOf p t line = record { roid = given; recorded = omega arith; started = tt; refunded = tt } in
        lines-left asked refl r charged charged-only (λ ls all. all-add in_order (IsLineOf p t) line ls fits all) asked-on

  -- ---- a transfer that was pending ends

  module _ (state : TransferState) (y : Transfer) (is : d.transfer ≡ Some y) (pending : is_pending_state y.state ≡ true) (over : is_pending_state state ≡ false) where
    abbrev over_now : Transfer
    over_now = ended_now state s.clock y

    none-of-others : (q : ℕ) → y.requester ≢ q → count (waits d.roid) (account_of q s).lines ≡ 0
    none-of-others q other = (has.domains name d at).waiting q ∙ ap (charges_waiting q) is ∙ (λ i. cond (pending i && not-itself y.requester q other i) 1 0)

    over-of : (q : ℕ) → charges_waiting q (Some over_now) ≡ 0
    over-of q = ap (λ (b : Bool). cond (b && (y.requester == q)) 1 0) over

    -- no charge waits for it any more, where those of its requester don't
    module _ (e : Domain) (called : e.name ≡ d.name) (roid : e.roid ≡ d.roid) (f : Line → Line) (done : (l : Line) → waits d.roid (f l) ≡ false) where
      none-wait : (q : ℕ) → count (waits d.roid) (account_of q (left e called y.requester (remade in_order f))).lines ≡ 0
      none-wait q = one-or-other y.requester q
          (λ own. subst (λ (n : ℕ). count (waits d.roid) (account_of n (left e called y.requester (remade in_order f))).lines ≡ 0) own
          (ap (λ (a : Account). count (waits d.roid) a.lines) (own-account y.requester (with_lines (remade in_order f)) (put e called y.requester (remade in_order f)))
          ∙ count-none-remade in_order (waits d.roid) f done (account_of y.requester s).lines))
          (λ other. count-changed e called y.requester (remade in_order f) (waits d.roid) q 0 (λ own. absurd (other own)) (none-of-others q other))

    -- what is done to each line on the domain is done to none on another
    remade-only : (f : Line → Line) → ((l : Line) → is_on d.roid l ≡ false → f l ≡ l) → ((l : Line) → (f l).roid ≡ l.roid) → IsOnDomain d.roid (remade in_order f)
    remade-only f elsewhere stays = record {
      none = λ other test asks apart ls none. none-remade in_order test test f (λ l k. test-elsewhere other d.roid test asks apart f elsewhere stays l ∙ k) ls none;
      as_many = λ other test asks apart ls. count-remade in_order test f (test-elsewhere other d.roid test asks apart f elsewhere stays) ls;
    }

    -- ---- by its sponsor, or by itself: the grace begins

    module _ (years more : ℕ) where
      abbrev start : TransferStart
      start = record { roid = d.roid; moment = s.clock; years = more }

      abbrev handed : Domain
      handed = record d { sponsor = y.requester; transferred = Some s.clock; years = years; transfer = Some over_now }

      abbrev begun : List Line → List Line
      begun ls = remade in_order (transfer_started start) ls

      handed-on : HasLinesOn (left handed refl y.requester begun) handed
      handed-on = record {
        elsewhere = λ q other. none-changed handed refl y.requester begun (begins_after d.roid (Some s.clock)) q (λ own. absurd (other (sym own))) (none-ahead d.roid s.clock q (omega arith));
        waiting = λ q. none-wait handed refl refl (transfer_started start) (started-waits-not start) q ∙ sym (over-of q);
        awaited = λ never. absurd (cc);
      }

      -- the domain is handed over
      pub lines-handed-over : HasLines p (with_account y.requester (with_lines (remade in_order (transfer_started (record { roid = d.roid; moment = s.clock; years = more }))))
          (changed p (PutDomain (record d { sponsor = y.requester; transferred = Some s.clock; years = years; transfer = Some over_now })) s))
      lines-handed-over = lines-left handed refl y.requester begun (remade-only (transfer_started start) (start-elsewhere start) (start-stays start))
          (lines-kept p (left handed refl y.requester begun) (Start start) (omega arith)) handed-on

    -- ---- it is rejected or withdrawn: the charge is given back

    abbrev back : TransferRefund
    back = record { roid = d.roid; moment = s.clock }

    abbrev ended : Domain
    ended = record d { transfer = Some over_now }

    abbrev refunded : List Line → List Line
    refunded ls = remade in_order (transfer_refunded back) ls

    refund-waits-not : (l : Line) → waits d.roid (transfer_refunded back l) ≡ false
    refund-waits-not l =
        cond_both (waits d.roid l) (record l { refunded = Some s.clock }) l (λ m. waits d.roid m ≡ false)
        (λ e. and_left _ _ (and_right (is_kind l.kind lines.Transfer) _ (and_right (is_on d.roid l) false refl)))
        (λ e. e)

    ended-on : HasLinesOn (left ended refl y.requester refunded) ended
    ended-on = record {
      elsewhere = λ q other. none-changed ended refl y.requester refunded (begins_after d.roid d.transferred) q
          (λ own none. none-remade in_order (begins_after d.roid d.transferred) (begins_after d.roid d.transferred)
          (transfer_refunded back) (λ l k. refund-begins (waits d.roid l) s.clock d.roid d.transferred l ∙ k)
          (account_of q s).lines none)
          ((has.domains name d at).elsewhere q other);
      waiting = λ q. none-wait ended refl refl (transfer_refunded back) refund-waits-not q ∙ sym (over-of q);
      awaited = λ never. absurd (cc);
    }

    pub lines-ended : HasLines p (with_account y.requester (with_lines (remade in_order (transfer_refunded (record { roid = d.roid; moment = s.clock })))) (changed p (PutDomain (record d { transfer = Some over_now })) s))
    lines-ended = lines-left ended refl y.requester refunded (remade-only (transfer_refunded back) (refund-elsewhere back) (refund-stays back))
        (all-remade in_order (IsLineOf p (left ended refl y.requester refunded)) (IsLineOf p (left ended refl y.requester refunded)) (transfer_refunded back)
        (λ l. refund-line (waits d.roid l) p (left ended refl y.requester refunded) s.clock (omega arith) l)) ended-on

-- a message changes no line
pub post : (p : PolicyRules) (q : ℕ) (n : Notification) (s : Registry) → HasLines p s → HasLines p (with_account q (notified n) s)
post p q n s has = lines-counted p s q (notified n) (λ a. refl) (λ a. omega arith) has
