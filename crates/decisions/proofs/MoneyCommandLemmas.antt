-- Changes of a registry, and the money of its accounts: what commands and orders charge and give back.
use Rattle.std.proofs.Common.{⊎_elim, ◌≡◌, ◌⊎◌, inl, inr, ℕ, nat_lt, true, false, ◌&&◌, List, Option, Some, refl, sym, subst, ◌∙◌, arith, ℤ, pos, int_lt, ◌+ℤ◌, ◌-ℤ◌, ◌≤ℤ◌}
use Rattle.std.proofs.{Common.{◌≤◌, None}, lemmas.Int.ints}
use Rattle.decisions.proofs.Words.{Account, account_changed, account_of, AccountChange, amount, and_cases, Asked, Bad, balance, Change, changed, changed_all}
use Rattle.decisions.proofs.Words.{changes_after, Charge, ClientCancelled, ClientRejected, Command, cond_both, decision, Domain, domain_with_transfer, ended}
use Rattle.decisions.proofs.Words.{Facts, facts, get, host_renamed, IsRefundable, Lapse, Line, may_rename, name_of, nat_tests, Notice, Notify, OpenAccount}
use Rattle.decisions.proofs.Words.{Order, order_decision, PolicyRules, Post, refunded_by, RefundRunning, RefundTransfer, Registry, RenameHost, Renewal, runs}
use Rattle.decisions.proofs.Words.{Start, Transfer, transfer_refunded, transfer_started, TransferState, waits, with_account, with_command, with_serial}
use Rattle.decisions.proofs.CommandCases.{CommandCases, IsDeletable, request-cases}
use Rattle.decisions.proofs.Lemmas.{account-keep, all-kept, AllFit, Covers, lines-stay, order-cases, put-is}
use Rattle.model.proofs.MoneyChangeLemmas.{in-grace, turned-down, Follows, follows-changed, follows-charge}
use Rattle.model.proofs.MoneyChangeLemmas.{running-given-back, transfer-begun, transfer-given-back}
use Rattle.decisions.specs.Changes.{itself}

-- a line that is nothing or more, or that these lines cover
abbrev pub IsPaid : Line → List Line → Type 0
IsPaid line ls = (pos 0 ≤ℤ amount line) ⊎ (pos 0 ≤ℤ (amount line +ℤ balance ls))

-- A charge is paid, what is given back is given back lawfully, and nothing begins or is told ahead of the clock;
-- automatic renewals are no part of it.
abbrev pub FitsAccount : (ℕ → ℕ → Line → Type 0) → ℕ → PolicyRules → ℕ → AccountChange → List Line → Type 0
FitsAccount L u p r (Charge line) ls = (line.refunded ≡ None) × IsPaid line ls
FitsAccount L u p r (RefundRunning x) ls = (l : Line) → runs p x.moment x.roid x.transferred l ≡ true → L r x.moment (record l { refunded = Some x.moment })
FitsAccount L u p r (RefundTransfer x) ls = (l : Line) → waits x.roid l ≡ true → L r x.moment (record l { refunded = Some x.moment })
FitsAccount L u p r (Lapse (Renewal x)) ls = ⊥
FitsAccount L u p r (Lapse (Start x)) ls = x.moment ≤ u
FitsAccount L u p r (Lapse (Notice m)) ls = m.moment ≤ u
FitsAccount L u p r (Notify n) ls = n.moment ≤ u
FitsAccount L u p r _ ls = Unit {0}

abbrev pub FitsMoney : (ℕ → ℕ → Line → Type 0) → ℕ → PolicyRules → Change → Registry → Type 0
FitsMoney L u p (Post r what) s = FitsAccount L u p r what (account_of r s).lines
FitsMoney L u p _ s = Unit {0}

-- each when its turn comes
abbrev pub AllFitMoney : (ℕ → ℕ → Line → Type 0) → ℕ → PolicyRules → List Change → Registry → Type 0
AllFitMoney L u p changes s = AllFit p (FitsMoney L u p) changes s

-- what each change keeps of an account that is posted to, the changes keep
module _ (L : ℕ → ℕ → Line → Type 0) (u : ℕ) (p : PolicyRules) (q : ℕ) (K : Account → Type 0)
    (own : (what : AccountChange) (a : Account) → FitsAccount L u p q what a.lines → K a → K (account_changed p what a)) where
  change-keeps : (change : Change) (s : Registry) → FitsMoney L u p change s → K (account_of q s) → K (account_of q (changed p change s))
  change-keeps (Post r what) s fits h = account-keep K s r (account_changed p what) q
      (λ same h. own what (account_of q s) (subst (λ (n : ℕ). FitsAccount L u p n what (account_of n s).lines) same fits) h) h
  change-keeps (OpenAccount r) s fits h = account-keep K s r itself q (λ same h. h) h
  change-keeps (RenameHost old host) s fits h = cond_both (may_rename s.hosts old host.name) (host_renamed old host s) s (λ (t : Registry). K (account_of q t)) (λ may. h) (λ else. h)
  change-keeps _ s fits h = h

  pub changes-keep : (changes : List Change) (s : Registry) → AllFitMoney L u p changes s → K (account_of q s) → K (account_of q (changed_all p changes s))
  changes-keep = all-kept p (FitsMoney L u p) (λ s. K (account_of q s)) change-keeps

module _ (L : ℕ → ℕ → Line → Type 0) (u : ℕ) (p : PolicyRules) (q : ℕ) (begin : List Line) where
  abbrev Follow : Account → Type 0
  Follow a = Follows (L q) u begin a.lines

  own-follows : (what : AccountChange) (a : Account) → FitsAccount L u p q what a.lines → Follow a → Follow (account_changed p what a)
  own-follows (Charge line) a fits h = follows-charge (L q) u line begin a.lines fits.0 fits.1 h
  own-follows (RefundRunning x) a fits h = follows-changed (L q) u (refunded_by p x) (λ l. running-given-back (L q) u p x.moment x.roid x.transferred l (fits l)) begin a.lines h
  own-follows (RefundTransfer x) a fits h = follows-changed (L q) u (transfer_refunded x) (λ l. transfer-given-back (L q) u x l (fits l)) begin a.lines h
  own-follows (Lapse (Renewal x)) a fits h = absurd fits
  own-follows (Lapse (Start x)) a fits h = follows-changed (L q) u (transfer_started x) (transfer-begun (L q) u x fits) begin a.lines h
  own-follows _ a fits h = h

  pub changes-follow : (changes : List Change) (s : Registry) → AllFitMoney L u p changes s → Follow (account_of q s) → Follow (account_of q (changed_all p changes s))
  changes-follow = changes-keep L u p q Follow own-follows

-- what is charged is nothing, or the balance covers it
affordable : (charge : ℕ) (money : ℤ) → (nat_lt 0 charge && int_lt money (pos charge)) ≡ false → (pos 0 ≤ℤ (pos 0 -ℤ pos charge)) ⊎ (pos 0 ≤ℤ ((pos 0 -ℤ pos charge) +ℤ money))
affordable charge money enough =
    ⊎_elim (λ (none : nat_lt 0 charge ≡ false). inl (let zero : charge ≡ 0 = grind (arith, nat_tests, none) in omega (arith, ints, zero)))
    (λ less. inr (omega (arith, ints))) (and_cases (nat_lt 0 charge) (int_lt money (pos charge)) enough)

-- ---- commands

module _ (p : PolicyRules) (r : ℕ) (s : Registry) where
  -- the registry once the command is counted
  abbrev counted : Registry
  counted = with_account r with_command s

  -- the changes are lawful, in the registry that they leave
  abbrev pub AreLawful : List Change → Type 0
  AreLawful changes = AllFitMoney (λ q. IsRefundable p q s (changed_all p changes counted)) s.clock p changes counted

  -- a charge that is covered can be paid from lines that are still the caller's
  abbrev IsAffordable : ℕ → List Line → Type 0
  IsAffordable charge ls = (pos 0 ≤ℤ (pos 0 -ℤ pos charge)) ⊎ (pos 0 ≤ℤ ((pos 0 -ℤ pos charge) +ℤ balance ls))

  payable-from : (charge : ℕ) → Covers r s charge → (ls : List Line) → ls ≡ (account_of r s).lines → IsAffordable charge ls
  payable-from charge enough ls same = subst (IsAffordable charge) (sym same) (affordable charge (balance (account_of r s).lines) enough)

  same-counted : (account_of r counted).lines ≡ (account_of r s).lines
  same-counted = lines-stay s r with_command (λ a. refl) r

  payable : (charge : ℕ) → Covers r s charge → IsAffordable charge (account_of r counted).lines
  payable charge enough = payable-from charge enough (account_of r counted).lines same-counted

  -- a deletion gives back what the sponsor was charged in a grace that runs
  given-back : (name : List ℕ) (d : Domain) → IsDeletable r s name d → (after : Registry) (l : Line) → runs p s.clock d.roid d.transferred l ≡ true → IsRefundable p r s after s.clock (record l { refunded = Some s.clock })
  given-back name d it after l running = record { moment = refl; cause = inl (name, d, it.at, in-grace p r s d s.clock l (sym it.own) running) }

  -- a transfer that is rejected or withdrawn gives its charge back
  turned : (state : TransferState) (d : Domain) (y : Transfer) → ((state ≡ ClientRejected) ⊎ (state ≡ ClientCancelled)) → (after : Registry) (l : Line)
      → get after.domains d.name ≡ Some (domain_with_transfer (ended state s.clock y) d) → waits d.roid l ≡ true → IsRefundable p y.requester s after s.clock (record l { refunded = Some s.clock })
  turned state d y over after l at e = record {
    moment = refl;
    cause = inr (d.name, domain_with_transfer (ended state s.clock y) d, at, ended state s.clock y, turned-down y.requester s.clock (domain_with_transfer (ended state s.clock y) d) (ended state s.clock y) l refl refl over refl e);
  }

  commands-lawful : (cl_trid : Option (List ℕ)) → CommandCases p r cl_trid s (λ q. AreLawful)
  commands-lawful cl_trid = record {
    contacts = search arith;
    hosts = search;
    none = λ q. tt;
    acknowledged = λ id. (tt, tt);
    domain_created = λ new kept fit linked paid. (tt, (tt, ((refl, payable-from _ paid _ (lines-stay counted r with_serial (λ a. refl) r ∙ same-counted)), tt)));
    domain_dropped = λ name d it. (tt, (given-back (name_of name) d it _, tt));
    domain_deleted = λ name d years it. (tt, (given-back (name_of name) d it _, tt));
    domain_updated = λ u d it linked. (tt, tt);
    renewed = λ name expires years d it fits. (tt, ((refl, payable _ it.paid), tt));
    restoring = λ name d at. (tt, tt);
    restored = λ name del_time res_time d it. (tt, ((refl, payable _ it.paid), tt));
    domain_asked = λ q n d at askable paid. (tt, ((refl, payable _ paid), (omega arith, tt)));
    domain_approved = λ q n d at y last pending own. (omega arith, (tt, (omega arith, tt)));
    domain_turned_down = λ q n d at y last pending state to notice over down side.
        (tt, (λ l e. turned state d y down _ l (put-is s.domains d.name (domain_with_transfer (ended state s.clock y) d)) e, (omega arith, tt)));
  }

-- what a command changes is lawful in the registry that it leaves
pub command-lawful : (p : PolicyRules) (r : ℕ) (c : Command) (s : Registry) → (let f : Facts = facts p r c s in let changes : List Change = changes_after p r s.clock c f (decision p r c s).verdict.code in
    AllFitMoney (λ q. IsRefundable p q s (changed_all p changes (with_account r with_command s))) s.clock p changes (with_account r with_command s))
unfolding changes_after
command-lawful p r (Bad cl_trid fault) s = tt
command-lawful p r (Asked cl_trid q) s = request-cases p r cl_trid s (λ q. AreLawful p r s) (commands-lawful p r s cl_trid) q

-- ---- orders

-- the changes of an order are lawful, in the registry that they leave
abbrev pub AreOrdered : PolicyRules → Registry → List Change → Type 0
AreOrdered p s changes = AllFitMoney (λ q. IsRefundable p q s (changed_all p changes s)) s.clock p changes s

pub order-lawful : (p : PolicyRules) (order : Order) (s : Registry) → AreOrdered p s (order_decision p order s).changes
order-lawful p order s = order-cases p s (AreOrdered p s) (search (arith, ints, inl)) order
