-- A row that holds breaks the law of its cause.
use Rattle.std.specs.List.{AllByRecursion}
use Rattle.std.proofs.Common.{◌≡◌, ℕ, Bool, true, false, inl, inr, List, [], ◌∷◌, Option, refl, ◌<◌, not, ◌&&◌, ◌||◌, nat_lt, ℤ, pos, int_lt, ◌≤ℤ◌, is_none, is_some, subst, arith}
use Rattle.std.proofs.lemmas.Bool.{not_from_true}
use Rattle.policy.specs.Rules.{PolicyRules}
use Rattle.facts.specs.declared.facts.Facts.{Facts}
use Rattle.protocol.specs.declared.command.Request.TheVariants.{InfoContact, InfoDomain, InfoHost, CreateContact, CreateDomain, CreateHost, DeleteContact, DeleteDomain, DeleteHost, UpdateContact, UpdateDomain, UpdateHost, RenewDomain, RequestRestore, ReportRestore, TransferContact, TransferDomain, PollAck}
use Rattle.protocol.specs.declared.command.Request.{Request}
use Rattle.protocol.specs.declared.transfer.TransferOp.TheVariants as ops
use Rattle.rules.specs.{Causes.cause_of, Conditions.holds, Laws.KeepsLaw, Rules.table_of, declared.rules.Condition.Condition}
use Rattle.rules.proofs.RowLemmas.{StandsIn, not-none}

-- a charge that isn't beyond the balance
payable : (charge : ℕ) (balance : ℤ) → (0 < charge → pos charge ≤ℤ balance) → (nat_lt 0 charge && int_lt balance (pos charge)) ≡ false
payable charge balance enough = grind arith

-- who has a part in an object, or presents a secret, is no stranger
no-stranger : (involved : Bool) (secret : Option (List ℕ)) → (involved || is_some secret) ≡ true → (not involved && is_none secret) ≡ false
no-stranger involved secret e = grind arith

pub not-wrong : (involved right : Bool) (secret : Option (List ℕ)) → (is_some secret ≡ true → (involved || right) ≡ true) → (not involved && (is_some secret && not right)) ≡ false
not-wrong involved right secret entitled = grind arith

row-at : {C : Type 0} (Passes : C → Type 0) (table : List C) → AllByRecursion Passes table → (condition : C) → StandsIn table condition → Passes condition
row-at Passes [] each condition stands = absurd stands
row-at Passes (first ∷ rest) each condition (inl same) = subst Passes same each.0
row-at Passes (first ∷ rest) each condition (inr further) = row-at Passes rest each.1 condition further

module _ (p : PolicyRules) (r t : ℕ) (f : Facts) where
  -- where the law of its cause is kept, the row doesn't hold
  abbrev IsBreach : Request → Condition → Type 0
  IsBreach q condition = KeepsLaw p r t q f (cause_of condition) → holds p r t q f condition ≡ false

  each : (q : Request) → AllByRecursion (IsBreach q) (table_of q)
  each (InfoContact name secret) = (λ l. not_from_true _ (l.there tt), (λ l. l.shows refl, tt))
  each (InfoDomain name secret) = (λ l. l.kept (λ e. cc), (λ l. not_from_true _ (l.there tt), (λ l. l.shows refl, tt)))
  each (InfoHost name) = (λ l. l.kept (λ e. cc), (λ l. not_from_true _ (l.there tt), tt))
  each (CreateContact new) = (λ l. l.new refl, tt)
  each (CreateDomain new) = (λ l. l.kept (λ e. cc), (λ l. l.once, (λ l. l.new refl, (λ l. l.creates_linked new refl, (λ l. l.creates_within refl, (λ l. l.creates new refl, (λ l. payable _ _ l.paid, tt)))))))
  each (CreateHost new) = (λ l. l.kept (λ e. cc), (λ l. l.once, (λ l. l.new refl, (λ l. l.creates_based new refl, (λ l. l.creates_below_own new refl, (λ l. l.creates_below new refl, (λ l. l.creates_within refl, (λ l. l.creates_inside refl, tt))))))))
  each (DeleteContact name) = (λ l. not_from_true _ (l.there tt), (λ l. l.sponsor tt, (λ l. l.deletes refl, (λ l. l.client_delete refl, (λ l. l.server_delete refl, (λ l. l.linked refl, tt))))))
  each (DeleteDomain name) = (λ l. l.kept (λ e. cc), (λ l. not_from_true _ (l.there tt), (λ l. l.sponsor tt, (λ l. l.deletes_once name refl, (λ l. l.deletes refl, (λ l. l.client_delete refl, (λ l. l.server_delete refl, (λ l. l.subordinates refl, tt))))))))
  each (DeleteHost name) = (λ l. l.kept (λ e. cc), (λ l. not_from_true _ (l.there tt), (λ l. l.sponsor tt, (λ l. l.deletes refl, (λ l. l.client_delete refl, (λ l. l.server_delete refl, (λ l. l.linked refl, tt)))))))
  each (UpdateContact update) = (λ l. l.once, (λ l. not_from_true _ (l.there tt), (λ l. l.sponsor tt, (λ l. (l.updates_contact update refl).no_deletion, (λ l. (l.updates_contact update refl).no_transfer, (λ l. l.server_update refl, (λ l. l.client_update refl, (λ l. l.adds refl, (λ l. l.removes refl, tt)))))))))
  each (UpdateDomain update) = (λ l. l.kept (λ e. cc), (λ l. l.once, (λ l. not_from_true _ (l.there tt), (λ l. l.updates_linked update refl, (λ l. l.sponsor tt, (λ l. (l.updates_domain update refl).no_deletion, (λ l. (l.updates_domain update refl).no_transfer, (λ l. l.server_update refl, (λ l. l.client_update refl, (λ l. l.adds refl, (λ l. l.removes refl, (λ l. l.updates_within refl, tt))))))))))))
  each (UpdateHost update) = (λ l. l.kept (λ e. cc), (λ l. l.once, (λ l. l.untaken update refl, (λ l. not_from_true _ (l.there tt), (λ l. l.updates_based update refl, (λ l. l.sponsor tt, (λ l. l.updates_below_own update refl, (λ l. l.server_update refl, (λ l. l.client_update refl, (λ l. l.updates_below update refl, (λ l. l.adds refl, (λ l. l.removes refl, (λ l. l.updates_within refl, (λ l. l.updates_inside refl, tt))))))))))))))
  each (RenewDomain name expires years) = (λ l. l.kept (λ e. cc), (λ l. not_from_true _ (l.there tt), (λ l. l.sponsor tt, (λ l. (l.renews refl).no_deletion, (λ l. (l.renews refl).no_transfer, (λ l. l.client_renew refl, (λ l. l.server_renew refl, (λ l. l.ten_years refl, (λ l. l.expires refl, (λ l. payable _ _ l.paid, tt))))))))))
  each (RequestRestore name) = (λ l. l.kept (λ e. cc), (λ l. not_from_true _ (l.there tt), (λ l. l.sponsor tt, (λ l. not_from_true _ (l.redeemable refl), tt))))
  each (ReportRestore name del_time res_time) = (λ l. l.kept (λ e. cc), (λ l. not_from_true _ (l.there tt), (λ l. l.sponsor tt, (λ l. not_from_true _ (l.restoring refl), (λ l. l.reported refl, (λ l. payable _ _ l.paid, tt))))))
  each (TransferContact name ops.Request secret) = (λ l. not_from_true _ (l.there tt), (λ l. not_from_true _ (l.authorized refl), (λ l. l.not_twice refl, (λ l. l.client_transfer refl, (λ l. l.server_transfer refl, (λ l. l.not_own refl, tt))))))
  each (TransferContact name ops.Query secret) = (λ l. not_from_true _ (l.there tt), (λ l. no-stranger _ secret (l.involved refl), (λ l. not-wrong _ _ secret (l.queries refl), (λ l. not-none _ (l.known refl), tt))))
  each (TransferContact name ops.Approve secret) = (λ l. not_from_true _ (l.there tt), (λ l. l.sponsor tt, (λ l. not_from_true _ (l.pending tt), tt)))
  each (TransferContact name ops.Reject secret) = (λ l. not_from_true _ (l.there tt), (λ l. l.sponsor tt, (λ l. not_from_true _ (l.pending tt), tt)))
  each (TransferContact name ops.Cancel secret) = (λ l. not_from_true _ (l.there tt), (λ l. not_from_true _ (l.requester refl), (λ l. not_from_true _ (l.pending tt), tt)))
  each (TransferDomain name ops.Request secret) = (λ l. l.kept (λ e. cc), (λ l. not_from_true _ (l.there tt), (λ l. not_from_true _ (l.authorized refl), (λ l. l.not_twice refl, (λ l. l.not_deleted name secret refl, (λ l. l.client_transfer refl, (λ l. l.server_transfer refl, (λ l. l.not_own refl, (λ l. l.unlocked refl, (λ l. l.takes name secret refl, (λ l. payable _ _ l.paid, tt)))))))))))
  each (TransferDomain name ops.Query secret) = (λ l. l.kept (λ e. cc), (λ l. not_from_true _ (l.there tt), (λ l. no-stranger _ secret (l.involved refl), (λ l. not-wrong _ _ secret (l.queries refl), (λ l. not-none _ (l.known refl), tt)))))
  each (TransferDomain name ops.Approve secret) = (λ l. l.kept (λ e. cc), (λ l. not_from_true _ (l.there tt), (λ l. l.sponsor tt, (λ l. not_from_true _ (l.pending tt), tt))))
  each (TransferDomain name ops.Reject secret) = (λ l. l.kept (λ e. cc), (λ l. not_from_true _ (l.there tt), (λ l. l.sponsor tt, (λ l. not_from_true _ (l.pending tt), tt))))
  each (TransferDomain name ops.Cancel secret) = (λ l. l.kept (λ e. cc), (λ l. not_from_true _ (l.there tt), (λ l. not_from_true _ (l.requester refl), (λ l. not_from_true _ (l.pending tt), tt))))
  each (PollAck id) = (λ l. not_from_true _ (l.oldest refl), tt)
  each _ = tt

  -- what holds and stands in the table of a request breaks the law of its cause
  pub breaks : (q : Request) (condition : Condition) → StandsIn (table_of q) condition → KeepsLaw p r t q f (cause_of condition) → holds p r t q f condition ≡ false
  breaks q condition stands = row-at (IsBreach q) (table_of q) (each q) condition stands
