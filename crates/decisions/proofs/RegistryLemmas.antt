-- Each step of the rules, and time alone, keep a registry well formed, with its clock, its objects, its lines, its messages and its shapes.
use Rattle.std.proofs.Common.{[], arith, List, max, subst, sym, ℕ, ◌<◌, ◌∷◌, ◌≡◌, ◌≤◌}
use Rattle.decisions.proofs.Words.{Account, account_changed, account_of, AccountChange, accounts_at, Ack, All, All-from_recursion, All-insert_key, All-tail}
use Rattle.decisions.proofs.Words.{all-weaker, bytes_eq, CanBeAsked, Change, changed_all, Command, cond_both, decision, effect, entered, fold}
use Rattle.decisions.proofs.Words.{HasCome, HasLines, HasMessages, IsRefundable, IsRegistrar, IsRegistry, IsSettled, IsSound, Lapse, lapse}
use Rattle.decisions.proofs.Words.{lapse_contact, lapse_registry, lapsed, LapseEntry, lapses-on, last_clock, Line, nat_tests, Notice}
use Rattle.decisions.proofs.Words.{Notify, now, numbered, Order, order_decision, order_effect, PolicyRules, posted, Posting, postings}
use Rattle.decisions.proofs.Words.{recursion_from_All, registries-meet-standards, Registry, Renewal, saturating_next, with_account}
use Rattle.decisions.proofs.Lemmas.{account-keep, clock-kept, FitsLines, kept-lapse, Meets}
use Rattle.decisions.proofs.LineCommandLemmas.{lines-effect, lines-order, fits-order}
use Rattle.decisions.proofs.MoneyCommandLemmas.{command-lawful, order-lawful, AllFitMoney, changes-keep, FitsAccount}
use Rattle.decisions.proofs.ShapeCommandLemmas.{shapes-effect, shapes-order, shapes-lapse}
use Rattle.decisions.proofs.PostingLemmas.{AllPosted, contact-posted, domain-posted, due-is, postings-posted}
use Rattle.decisions.proofs.{LineTimeLemmas.lines-lapse, WellFormedLemmas.kept-effect, WellFormedLemmas.kept-order, TransferLemmas.meets-decided}
use Rattle.accounts.specs.declared.message.Message.{Message}
use Rattle.accounts.specs.{Messages.message_cmp, Messages.message_id, Queue.acked}

-- ---- commands and orders leave the clock where it stands

pub clock-effect : (p : PolicyRules) → IsSound p → (r : ℕ) (c : Command) (s : Registry) → IsRegistry p s → (effect p r c s).clock ≡ s.clock
clock-effect p sound r c s is =
    clock-kept p (Meets p r) (λ u t never. never) (decision p r c s).changes s (meets-decided p sound r c s (registries-meet-standards p s is))

pub clock-order : (p : PolicyRules) (order : Order) (s : Registry) → HasLines p s → (order_effect p order s).clock ≡ s.clock
clock-order p order s has = clock-kept p (FitsLines p) (λ u t never. never) (order_decision p order s).changes s (fits-order p order s has)

-- ---- no message is of a moment that hasn't come: none is told ahead of the clock, by a command or by time

-- ---- changes that tell of what has come

acked-told : (t : ℕ) (id : List ℕ) (queue : List Message) → All (HasCome t) queue → All (HasCome t) (acked id queue)
acked-told t id [] h = h
acked-told t id (m ∷ ms) h = cond_both (bytes_eq (message_id m) id) ms (m ∷ ms) (All (HasCome t))
    (λ e. All-tail (HasCome t) m ms h) (λ e. h)

module _ (L : ℕ → ℕ → Line → Type 0) (u : ℕ) (p : PolicyRules) (q : ℕ) where
  abbrev Told : Account → Type 0
  Told a = All (HasCome u) a.queue

  own-told : (what : AccountChange) (a : Account) → FitsAccount L u p q what a.lines → Told a → Told (account_changed p what a)
  own-told (Lapse (Renewal x)) a fits h = absurd fits
  own-told (Lapse (Notice m)) a fits h = All-insert_key message_cmp m (HasCome u) a.queue h fits
  own-told (Notify n) a fits h = All-insert_key message_cmp (numbered (saturating_next a.messages) n) (HasCome u) a.queue h fits
  own-told (Ack id) a fits h = acked-told u id a.queue h
  own-told _ a fits h = h

  pub changes-told : (changes : List Change) (s : Registry) → AllFitMoney L u p changes s → Told (account_of q s) → Told (account_of q (changed_all p changes s))
  changes-told = changes-keep L u p q Told own-told

-- ---- what time posts

-- what is told has come
abbrev HasComeIn : ℕ → LapseEntry → Type 0
HasComeIn t (Notice m) = HasCome t m
HasComeIn t _ = Unit {0}

abbrev HasTold : ℕ → Posting → Type 0
HasTold t e = HasComeIn t e.what

postings-come : (p : PolicyRules) (t : ℕ) (s : Registry) → AllPosted (HasTold t) (postings (λ name. lapse_contact t) (λ name. lapse p t) s)
postings-come p t s = postings-posted p t (HasTold t) s
    (λ name c at. contact-posted p t (HasTold t) c (λ x due. let come = (due-is t c.transfer x due).1 in (come, (come, tt))))
    (λ name d at. domain-posted p t (HasTold t) d (λ k come. (tt, (come, tt)))
    (λ x due. let come = (due-is t d.transfer x due).1 in ((tt, (come, (come, tt))), λ k come. (tt, (come, tt))))
    (λ x past. grind (arith, nat_tests, past)))

entered-told : (t : ℕ) (what : LapseEntry) (a : Account) → HasComeIn t what → All (HasCome t) a.queue → All (HasCome t) (entered what a).queue
entered-told t (Notice m) a come h = All-insert_key message_cmp m (HasCome t) a.queue h come
entered-told t _ a come h = h

posted-told : (t r : ℕ) (es : List Posting) → AllPosted (HasTold t) es → (s : Registry) → All (HasCome t) (account_of r s).queue → All (HasCome t) (account_of r (record s { accounts = fold posted s.accounts es })).queue
posted-told t r [] come s h = h
posted-told t r (e ∷ es) come s h = posted-told t r es come.1 (with_account e.registrar (entered e.what) s)
    (account-keep (λ (a : Account). All (HasCome t) a.queue) s e.registrar (entered e.what) r (λ own h. entered-told t e.what (account_of r s) come.0 h) h)

-- time alone
pub messages-lapse : (p : PolicyRules) (t : ℕ) (s : Registry) → s.clock ≤ t → HasMessages s → HasMessages (lapse_registry p t s)
unfolding accounts_at
messages-lapse p t s le has r = posted-told t r (postings (λ name. lapse_contact t) (λ name. lapse p t) s) (postings-come p t s) s
    (All-from_recursion (HasCome t) (account_of r s).queue (all-weaker (HasCome s.clock) (HasCome t) (λ m come. omega (arith, come, le)) (account_of r s).queue (recursion_from_All (HasCome s.clock) (account_of r s).queue (has r))))

-- ---- the whole registry, as time passes and in each step

pub registry-lapse : (p : PolicyRules) (t : ℕ) (s : Registry) → s.clock ≤ t → t ≤ last_clock → IsRegistry p s
    → IsRegistry p (lapse_registry p t s)
registry-lapse p t s le early is = record { clock = early; objects = kept-lapse p t s le is.objects; lines = lines-lapse p t s le is.objects is.lines; messages = messages-lapse p t s le is.messages; shapes = shapes-lapse p t s early is.shapes }

-- what is due by its own clock is done
pub registry-now : (p : PolicyRules) (s : Registry) → IsRegistry p s → IsRegistry p (now p s)
registry-now p s is = registry-lapse p s.clock s (omega arith) is.clock is

-- time passes; it is enough that what is kept is well formed by its own clock
pub registry-lapsed : (p : PolicyRules) (moment : ℕ) (s : Registry) → moment ≤ last_clock → IsRegistry p (now p s) → IsRegistry p (lapsed p moment s)
registry-lapsed p moment s early is =
    let t : ℕ = max moment s.clock in
    subst (IsRegistry p) (lapses-on p s.clock t (omega arith) s) (registry-lapse p t (now p s) (omega arith) (omega (arith, early, is.clock)) is)

-- what is told is told at the clock, which no command and no order moves
messages-effect : (p : PolicyRules) → IsSound p → (r : ℕ) (c : Command) (s : Registry) → IsRegistry p s → HasMessages (effect p r c s)
messages-effect p sound r c s is q = subst (λ (t : ℕ). All (HasCome t) (account_of q (effect p r c s)).queue) (sym (clock-effect p sound r c s is))
    (changes-told (λ k. IsRefundable p k s (effect p r c s)) s.clock p q (decision p r c s).changes s (tt, command-lawful p r c s) (is.messages q))

messages-order : (p : PolicyRules) (order : Order) (s : Registry) → IsRegistry p s → HasMessages (order_effect p order s)
messages-order p order s is q = subst (λ (t : ℕ). All (HasCome t) (account_of q (order_effect p order s)).queue) (sym (clock-order p order s is.lines))
    (changes-told (λ k. IsRefundable p k s (order_effect p order s)) s.clock p q (order_decision p order s).changes s (order-lawful p order s) (is.messages q))

-- A registrar's command, where nothing is due, but that a serial at its greatest would be given twice. It
-- asks for ten years at most, as its type keeps it.
pub registry-effect : (p : PolicyRules) → IsSound p → (r : ℕ) (c : Command) (s : Registry) → IsRegistrar p r → IsRegistry p s → IsSettled p s → (account_of r s).serial < 4_611_686_018_427_387_904 → CanBeAsked c → IsRegistry p (effect p r c s)
registry-effect p sound r c s place is settled small few =
    search (arith, clock-effect p sound r c s is, kept-effect, lines-effect, messages-effect, shapes-effect)

-- an order of the operator
pub registry-order : (p : PolicyRules) (order : Order) (s : Registry) → IsRegistry p s → IsRegistry p (order_effect p order s)
registry-order p order s is = search (arith, clock-order p order s is.lines, kept-order, lines-order, messages-order, shapes-order)
