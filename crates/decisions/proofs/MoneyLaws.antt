-- What becomes of the money of every account in a step of the rules, and as time passes: time alone charges an account
-- for automatic renewals, and begins the graces of its transfers.
use Rattle.std.proofs.Common.{◌≡◌, ℕ, ◌≤◌, max, sym, subst, arith, List}
use Rattle.decisions.proofs.Words.{account_of, AccountAges, AccountFollows, accounts_at, Command, decision, Domain, effect, gained, IsRefundable, IsRegistry}
use Rattle.decisions.proofs.Words.{IsSound, lapse, lapse_contact, lapse_registry, lapsed, lapsed-is-settled, lapses-on, last_clock, Line, MoneyFollows, moved}
use Rattle.decisions.proofs.Words.{NoRefund, now, Order, order_decision, order_effect, PolicyRules, Posting, postings, raised, Registry, settled-is-now}
use Rattle.decisions.proofs.Words.{transfer-begun, transfer_started, TransferStart, turn, turns}
use Rattle.decisions.proofs.MoneyCommandLemmas.{command-lawful, order-lawful, changes-follow}
use Rattle.decisions.proofs.Lemmas.{AllPosted, contact-posted, domain-posted, due-is, keep-posted, Keeps, postings-posted}
use Rattle.model.proofs.MoneyChangeLemmas.{Follows, follows-itself, ages-changed, ages-itself, ages-renewal}
use Rattle.decisions.proofs.{RegistryLemmas.registry-lapsed, SettledLemmas.settled-effect, SettledLemmas.settled-order, LineTimeLemmas.renewal_at}

-- ---- as time passes

module _ (p : PolicyRules) (t r : ℕ) (begin : List Line) where
  abbrev Ages : Posting → Type 0
  Ages e = Keeps (AccountAges t begin) r e

  turned-ages : (d : Domain) (k : ℕ) → AllPosted Ages (turn p d k)
  turned-ages d k = ((λ own ls h. ages-renewal t (renewal_at p d k) begin ls h), ((λ own ls h. h), tt))

  domain-ages : (d : Domain) → AllPosted Ages (lapse p t d).postings
  domain-ages d = domain-posted p t Ages d (λ k come. turned-ages d k) (λ x due.
      let before : Domain = raised (turns d x.ac_date) d in
      let start : TransferStart = record { roid = d.roid; moment = x.ac_date; years = gained before x.ac_date } in (
        ((λ own ls h. ages-changed t (transfer_started start) (transfer-begun NoRefund t start (due-is t d.transfer x due).1) begin ls h), ((λ own ls h. h), ((λ own ls h. h), tt))),
        λ k come. turned-ages (moved x before) k,
      ))
      (λ x past own ls h. h)

-- what time alone makes of a registrar's lines
pub lapse-ages : (p : PolicyRules) (t r : ℕ) (s : Registry) → AccountAges t (account_of r s).lines (account_of r (lapse_registry p t s)).lines
unfolding accounts_at
lapse-ages p t r s =
    let begin : List Line = (account_of r s).lines in
    keep-posted (AccountAges t begin) r (postings (λ name. lapse_contact t) (λ name. lapse p t) s)
    (postings-posted p t (Ages p t r begin) s (λ name c there. contact-posted p t (Ages p t r begin) c (λ x due. ((λ own ls h. h), ((λ own ls h. h), tt)))) (λ name d there. domain-ages p t r begin d)) s
    (ages-itself t begin)

-- ---- every account, in a step of the rules

module _ (p : PolicyRules) (moment : ℕ) (before : Registry) where
  -- the registry as a call finds it
  abbrev found : Registry
  found = lapsed p moment before

  found-now : lapsed p moment (now p before) ≡ found
  found-now = lapses-on p before.clock (max moment before.clock) (omega arith) before

  aged : (r : ℕ) → AccountAges found.clock (account_of r (now p before)).lines (account_of r found).lines
  aged r = subst (λ (s : Registry). AccountAges found.clock (account_of r (now p before)).lines (account_of r s).lines) found-now (lapse-ages p found.clock r (now p before))

  -- what follows in the lines of each account, from the registry as it is found
  abbrev Leaves : Registry → Type 0
  Leaves after = (r : ℕ) → Follows (IsRefundable p r found after) found.clock (account_of r found).lines (account_of r after).lines

  money-of : (after : Registry) → Leaves after → MoneyFollows p moment (now p before) after
  money-of after leaves r = subst (λ (s : Registry). AccountFollows p r s (now p before) after) (sym found-now) (record { aged = aged r; called = leaves r })

  -- time passes
  pub money-lapsed : MoneyFollows p moment (now p before) found
  money-lapsed = money-of found (λ r. follows-itself (IsRefundable p r found found) found.clock (account_of r found).lines)

  -- a registrar's command
  pub money-effect : (r : ℕ) (c : Command) → MoneyFollows p moment (now p before) (effect p r c found)
  money-effect r c = money-of (effect p r c found) (λ q.
      changes-follow (λ k. IsRefundable p k found (effect p r c found)) found.clock p q (account_of q found).lines (decision p r c found).changes found
      (tt, command-lawful p r c found) (follows-itself (IsRefundable p q found (effect p r c found)) found.clock (account_of q found).lines))

  -- an order of the operator
  pub money-order : (order : Order) → MoneyFollows p moment (now p before) (order_effect p order found)
  money-order order = money-of (order_effect p order found) (λ q.
      changes-follow (λ k. IsRefundable p k found (order_effect p order found)) found.clock p q (account_of q found).lines (order_decision p order found).changes found
      (order-lawful p order found) (follows-itself (IsRefundable p q found (order_effect p order found)) found.clock (account_of q found).lines))

  -- what they leave has nothing due
  pub money-lapsed-now : MoneyFollows p moment (now p before) (now p found)
  money-lapsed-now = subst (λ (s : Registry). MoneyFollows p moment (now p before) s) (sym (settled-is-now p found (lapsed-is-settled p found.clock before))) money-lapsed

  pub money-order-now : (order : Order) → MoneyFollows p moment (now p before) (now p (order_effect p order found))
  money-order-now order = subst (λ (s : Registry). MoneyFollows p moment (now p before) s)
      (sym (settled-is-now p (order_effect p order found) (settled-order p order found (lapsed-is-settled p found.clock before)))) (money-order order)

  pub money-effect-now : IsSound p → moment ≤ last_clock → IsRegistry p (now p before) → (r : ℕ) (c : Command) → MoneyFollows p moment (now p before) (now p (effect p r c found))
  money-effect-now sound early is r c =
      let well : IsRegistry p found = registry-lapsed p moment before early is in
      subst (λ (s : Registry). MoneyFollows p moment (now p before) s)
      (sym (settled-is-now p (effect p r c found) (settled-effect p sound r c found well.clock (λ name d at. (well.objects.domains name d at).is_at.deletion) (lapsed-is-settled p found.clock before)))) (money-effect r c)
