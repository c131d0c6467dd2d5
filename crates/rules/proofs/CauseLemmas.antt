-- The law of each cause, from the rows that stand for it in the tables.
use Rattle.std.proofs.Common.{◌≡◌, ℕ, Bool, true, false, ◌⊎◌, inl, inr, List, Option, refl, sym, ◌<◌, not, ◌&&◌, ◌||◌, is_none, is_some, ◌≢◌, nat_lt, ℤ, pos, int_lt, ◌≤ℤ◌, subst, arith}
use Rattle.std.proofs.lemmas.Bool.{not-false}
use Rattle.policy.specs.Rules.{PolicyRules}
use Rattle.facts.specs.declared.facts.Facts.{Facts}
use Rattle.objects.specs.declared.grace.Phase.TheVariants.{Redemption, Restoring}
use Rattle.objects.specs.declared.status.Status.TheVariants.{ClientDeleteProhibited, ClientRenewProhibited, ClientTransferProhibited, ClientUpdateProhibited, PendingDelete, PendingTransfer, ServerDeleteProhibited, ServerRenewProhibited, ServerTransferProhibited, ServerUpdateProhibited}
use Rattle.protocol.specs.{Requests.asks_of, declared.command.Action.Action}
use Rattle.protocol.specs.declared.command.Request.TheVariants.{CreateDomain, CreateHost, DeleteDomain, UpdateContact, UpdateDomain, UpdateHost, RenewDomain, ReportRestore, TransferContact, TransferDomain}
use Rattle.protocol.specs.declared.command.Request.{Request}
use Rattle.protocol.specs.declared.command.Action.TheVariants as actions
use Rattle.protocol.specs.declared.transfer.TransferOp.TheVariants as ops
use Rattle.rules.specs.{Causes.cause_of, Charges.charge_of, Conditions.{holds, is_involved, presents_secret}}
use Rattle.rules.specs.Laws.{ActsOnObject, AltersObject, EndsTransfer, KeepsLaw}
use Rattle.rules.specs.Rules.{table_of}
use Rattle.rules.specs.declared.refusal.Cause.{Cause}
use Rattle.rules.specs.declared.refusal.Cause.TheVariants.{NamesRefused, Exists, Missing, NotSponsor, WrongSecret, TransferPends, NoTransferPends, StatusProhibits, AssociationProhibits, NotRenewable, NotTransferable, ParametersRefused, LimitReached, BillingFailure}
use Rattle.rules.specs.declared.rules.Condition.{Condition}
use Rattle.rules.specs.declared.rules.Condition.TheVariants.{NameIsRefused, ListRepeats, IsThere, IsMissing, ReferenceIsMissing, NewNameIsTaken, SuperordinateIsMissing, IsAnothers, SuperordinateIsAnothers, SecretIsWrong, Shows, StillShows, SuperordinateIsDeleted, IsLinked, HasSubordinates, AddsWhatIsThere, RemovesWhatIsNot, LeavesTooMany, LeavesAddressesOutside, IsAtHoldingLimit, PassesTenYears, ExpiresOtherwise, IsNotIn, ReportDiffers, IsNotOldest, LacksMoney, SecretIsNotRight, IsStranger, StrangersSecretIsWrong, IsNotRequester, HasNoTransfer, IsPending, IsNotPending, IsOwn, IsLocked}
use Rattle.rules.proofs.{ActionLemmas.{OfEach, of-action, of-each}, RowLemmas.{Clear, StandsIn, some-is}}

-- who isn't a stranger has a part in the object, or presents a secret
no-stranger : (involved : Bool) (secret : Option (List ℕ)) → (not involved && is_none secret) ≡ false → (involved || is_some secret) ≡ true
no-stranger involved secret e = grind arith

-- a secret that isn't a stranger's wrong one is right, or presented by who has a part in the object
rightly : (involved right : Bool) (secret : Option (List ℕ)) → is_some secret ≡ true → (not involved && (is_some secret && not right)) ≡ false → (involved || right) ≡ true
rightly involved right secret some e = grind arith

-- what is charged and isn't more than the balance can be paid
affordable : (charge : ℕ) (balance : ℤ) → 0 < charge → (nat_lt 0 charge && int_lt balance (pos charge)) ≡ false → pos charge ≤ℤ balance
affordable charge balance some enough = grind arith

module _ (p : PolicyRules) (r t : ℕ) (f : Facts) where
  -- the request's table has the row, or nothing of what is asked can meet the condition
  abbrev IsAnswered : Condition → Request → Type 0
  IsAnswered condition q = StandsIn (table_of q) condition ⊎ (holds p r t q f condition ≡ false)

  -- where no row of its cause holds, the condition doesn't
  by-row : (condition : Condition) (q : Request) → Clear p r t q f (cause_of condition) → IsAnswered condition q → holds p r t q f condition ≡ false
  by-row condition q clear (inl stands) = clear condition stands refl
  by-row condition q clear (inr free) = free

  -- of a request that does the action, each of whose forms has the row
  in-each : (condition : Condition) (a : Action) → OfEach (IsAnswered condition) a
      → (q : Request) → Clear p r t q f (cause_of condition) → (asks_of q).action ≡ a → holds p r t q f condition ≡ false
  in-each condition a each q clear is = by-row condition q clear (of-action (IsAnswered condition) a each q is)

  -- of a request of one form, which has the row
  in-form : (condition : Condition) (form : Request) → StandsIn (table_of form) condition
      → (q : Request) → Clear p r t q f (cause_of condition) → q ≡ form → holds p r t q f condition ≡ false
  in-form condition form stands q clear is = clear condition (subst (λ (it : Request). StandsIn (table_of it) condition) (sym is) stands) refl

  names-given : (a : Action) → a ≢ actions.Check → OfEach (IsAnswered NameIsRefused) a
  names-given actions.Check other = absurd (other refl)
  names-given _ other = search (inl, inr) depth 20

  lists-given : (a : Action) → OfEach (IsAnswered ListRepeats) a
  lists-given actions.Check = search (inl, inr) depth 20
  lists-given _ = search (inl, inr) depth 20

  acting : (a : Action) → ActsOnObject a → OfEach (IsAnswered IsMissing) a
  acting actions.Logout is = absurd is
  acting _ is = search (inl, inr) depth 20

  altering : (a : Action) → AltersObject a → OfEach (IsAnswered IsAnothers) a
  altering actions.Logout is = absurd is
  altering _ is = search (inl, inr) depth 20

  ending : (a : Action) → EndsTransfer a → OfEach (IsAnswered IsNotPending) a
  ending actions.Logout is = absurd is
  ending _ is = search (inl, inr) depth 20

  charged : (q : Request) → 0 < charge_of p t q f → StandsIn (table_of q) LacksMoney
  charged (CreateDomain new) some = search (inl, inr) depth 20
  charged (RenewDomain name expires years) some = search (inl, inr) depth 20
  charged (ReportRestore name del_time res_time) some = search (inl, inr) depth 20
  charged (TransferDomain name ops.Request secret) some = search (inl, inr) depth 20
  charged (TransferContact name ops.Request secret) some = absurd (omega arith)
  charged _ some = absurd (omega arith)

  -- what no row of its cause stands against is kept
  pub keeps : (q : Request) (cause : Cause) → Clear p r t q f cause → KeepsLaw p r t q f cause
  keeps q NamesRefused clear = record {
    kept = λ other. by-row NameIsRefused q clear (of-each (IsAnswered NameIsRefused) q (names-given (asks_of q).action other));
    once = by-row ListRepeats q clear (of-each (IsAnswered ListRepeats) q (lists-given (asks_of q).action));
  }
  keeps q Exists clear = record {
    new = in-each IsThere actions.Create (search (inl, inr) depth 20) q clear;
    untaken = λ u is. in-form NewNameIsTaken (UpdateHost u) (search (inl, inr) depth 20) q clear is;
  }
  keeps q Missing clear = record {
    there = λ acts. not-false _ (by-row IsMissing q clear (of-each (IsAnswered IsMissing) q (acting (asks_of q).action acts)));
    creates_linked = λ new is. in-form ReferenceIsMissing (CreateDomain new) (search (inl, inr) depth 20) q clear is;
    updates_linked = λ u is. in-form ReferenceIsMissing (UpdateDomain u) (search (inl, inr) depth 20) q clear is;
    creates_based = λ new is. in-form SuperordinateIsMissing (CreateHost new) (search (inl, inr) depth 20) q clear is;
    updates_based = λ u is. in-form SuperordinateIsMissing (UpdateHost u) (search (inl, inr) depth 20) q clear is;
    oldest = λ is. not-false _ (in-each IsNotOldest actions.PollAck (search (inl, inr) depth 20) q clear is);
  }
  keeps q NotSponsor clear = record {
    sponsor = λ alters. by-row IsAnothers q clear (of-each (IsAnswered IsAnothers) q (altering (asks_of q).action alters));
    creates_below_own = λ new is. in-form SuperordinateIsAnothers (CreateHost new) (search (inl, inr) depth 20) q clear is;
    updates_below_own = λ u is. in-form SuperordinateIsAnothers (UpdateHost u) (search (inl, inr) depth 20) q clear is;
    involved = λ is. no-stranger (is_involved r q f) (asks_of q).secret (in-each IsStranger actions.QueryTransfer (search (inl, inr) depth 20) q clear is);
    requester = λ is. not-false _ (in-each IsNotRequester actions.CancelTransfer (search (inl, inr) depth 20) q clear is);
  }
  keeps q WrongSecret clear = record {
    shows = in-each SecretIsWrong actions.Info (search (inl, inr) depth 20) q clear;
    authorized = λ is. not-false _ (in-each SecretIsNotRight actions.RequestTransfer (search (inl, inr) depth 20) q clear is);
    queries = λ is some. rightly (is_involved r q f) (presents_secret q f) (asks_of q).secret some (in-each StrangersSecretIsWrong actions.QueryTransfer (search (inl, inr) depth 20) q clear is);
  }
  keeps q TransferPends clear = record { not_twice = in-each IsPending actions.RequestTransfer (search (inl, inr) depth 20) q clear }
  keeps q NoTransferPends clear = record {
    known = λ is. some-is _ (in-each HasNoTransfer actions.QueryTransfer (search (inl, inr) depth 20) q clear is);
    pending = λ ends. not-false _ (by-row IsNotPending q clear (of-each (IsAnswered IsNotPending) q (ending (asks_of q).action ends)));
  }
  keeps q StatusProhibits clear = record {
    client_delete = in-each (Shows ClientDeleteProhibited) actions.Delete (search (inl, inr) depth 20) q clear;
    server_delete = in-each (Shows ServerDeleteProhibited) actions.Delete (search (inl, inr) depth 20) q clear;
    client_update = in-each (StillShows ClientUpdateProhibited) actions.Update (search (inl, inr) depth 20) q clear;
    server_update = in-each (Shows ServerUpdateProhibited) actions.Update (search (inl, inr) depth 20) q clear;
    client_renew = in-each (Shows ClientRenewProhibited) actions.Renew (search (inl, inr) depth 20) q clear;
    server_renew = in-each (Shows ServerRenewProhibited) actions.Renew (search (inl, inr) depth 20) q clear;
    client_transfer = in-each (Shows ClientTransferProhibited) actions.RequestTransfer (search (inl, inr) depth 20) q clear;
    server_transfer = in-each (Shows ServerTransferProhibited) actions.RequestTransfer (search (inl, inr) depth 20) q clear;
    updates_contact = λ u is. record {
      no_transfer = in-form (Shows PendingTransfer) (UpdateContact u) (search (inl, inr) depth 20) q clear is;
      no_deletion = in-form (Shows PendingDelete) (UpdateContact u) (search (inl, inr) depth 20) q clear is;
    };
    updates_domain = λ u is. record {
      no_transfer = in-form (Shows PendingTransfer) (UpdateDomain u) (search (inl, inr) depth 20) q clear is;
      no_deletion = in-form (Shows PendingDelete) (UpdateDomain u) (search (inl, inr) depth 20) q clear is;
    };
    renews = λ is. record {
      no_transfer = in-each (Shows PendingTransfer) actions.Renew (search (inl, inr) depth 20) q clear is;
      no_deletion = in-each (Shows PendingDelete) actions.Renew (search (inl, inr) depth 20) q clear is;
    };
    deletes = in-each (Shows PendingTransfer) actions.Delete (search (inl, inr) depth 20) q clear;
    deletes_once = λ name is. in-form (Shows PendingDelete) (DeleteDomain name) (search (inl, inr) depth 20) q clear is;
    not_deleted = λ name secret is. in-form (Shows PendingDelete) (TransferDomain name ops.Request secret) (search (inl, inr) depth 20) q clear is;
    creates_below = λ new is. in-form SuperordinateIsDeleted (CreateHost new) (search (inl, inr) depth 20) q clear is;
    updates_below = λ u is. in-form SuperordinateIsDeleted (UpdateHost u) (search (inl, inr) depth 20) q clear is;
    redeemable = λ is. not-false _ (in-each (IsNotIn Redemption) actions.RequestRestore (search (inl, inr) depth 20) q clear is);
    restoring = λ is. not-false _ (in-each (IsNotIn Restoring) actions.ReportRestore (search (inl, inr) depth 20) q clear is);
  }
  keeps q AssociationProhibits clear = record {
    linked = in-each IsLinked actions.Delete (search (inl, inr) depth 20) q clear;
    subordinates = in-each HasSubordinates actions.Delete (search (inl, inr) depth 20) q clear;
  }
  keeps q NotRenewable clear = record { ten_years = in-each PassesTenYears actions.Renew (search (inl, inr) depth 20) q clear }
  keeps q NotTransferable clear = record {
    not_own = in-each IsOwn actions.RequestTransfer (search (inl, inr) depth 20) q clear;
    unlocked = in-each IsLocked actions.RequestTransfer (search (inl, inr) depth 20) q clear;
  }
  keeps q ParametersRefused clear = record {
    adds = in-each AddsWhatIsThere actions.Update (search (inl, inr) depth 20) q clear;
    removes = in-each RemovesWhatIsNot actions.Update (search (inl, inr) depth 20) q clear;
    creates_within = in-each LeavesTooMany actions.Create (search (inl, inr) depth 20) q clear;
    updates_within = in-each LeavesTooMany actions.Update (search (inl, inr) depth 20) q clear;
    creates_inside = in-each LeavesAddressesOutside actions.Create (search (inl, inr) depth 20) q clear;
    updates_inside = in-each LeavesAddressesOutside actions.Update (search (inl, inr) depth 20) q clear;
    expires = in-each ExpiresOtherwise actions.Renew (search (inl, inr) depth 20) q clear;
    reported = in-each ReportDiffers actions.ReportRestore (search (inl, inr) depth 20) q clear;
  }
  keeps q LimitReached clear = record {
    creates = λ new is. in-form IsAtHoldingLimit (CreateDomain new) (search (inl, inr) depth 20) q clear is;
    takes = λ name secret is. in-form IsAtHoldingLimit (TransferDomain name ops.Request secret) (search (inl, inr) depth 20) q clear is;
  }
  keeps q BillingFailure clear = record { paid = λ some. affordable _ _ some (clear LacksMoney (charged q some) refl) }
