-- What the tables keep, in the words of the standards (RFC 5730 to 5733).
use Rattle.std.specs.Prelude.{◌≡◌, ◌≢◌, ℕ, ◌<◌, ◌≤◌, pos, ◌≤ℤ◌, ◌||◌, true, false, List, Option, Some, None, is_some}
use Rattle.facts.specs.declared.facts.Facts.{Facts}
use Rattle.facts.specs.Facts.{new_name_seen}
use Rattle.names.specs.RequestedName.{RequestedName}
use Rattle.objects.specs.declared.domain.Domain.{Domain}
use Rattle.objects.specs.declared.grace.Phase.TheVariants.{Redemption, Restoring}
use Rattle.objects.specs.declared.status.Status.TheVariants.{ClientDeleteProhibited, ClientRenewProhibited, ClientTransferProhibited, ClientUpdateProhibited, PendingDelete, PendingTransfer, ServerDeleteProhibited, ServerRenewProhibited, ServerTransferProhibited, ServerUpdateProhibited}
use Rattle.policy.specs.Rules.{PolicyRules}
use Rattle.protocol.specs.declared.command.Action.{Action}
use Rattle.protocol.specs.declared.command.Action.TheVariants.{Balance, Check, Info, Create, Delete, Update, Renew, RequestRestore, ReportRestore, RequestTransfer, QueryTransfer, ApproveTransfer, RejectTransfer, CancelTransfer, PollRequest, PollAck, Logout}
use Rattle.protocol.specs.declared.command.Command.{Command}
use Rattle.protocol.specs.declared.command.Command.TheVariants.{Bad, Asked}
use Rattle.protocol.specs.declared.command.ContactUpdate.{ContactUpdate}
use Rattle.protocol.specs.declared.command.DomainUpdate.{DomainUpdate}
use Rattle.protocol.specs.declared.command.HostUpdate.{HostUpdate}
use Rattle.protocol.specs.declared.command.NewDomain.{NewDomain}
use Rattle.protocol.specs.declared.command.NewHost.{NewHost}
use Rattle.protocol.specs.declared.command.Request.{Request}
use Rattle.protocol.specs.declared.command.Request.TheVariants.{CreateDomain, CreateHost, DeleteDomain, TransferDomain, UpdateContact, UpdateDomain, UpdateHost}
use Rattle.protocol.specs.declared.transfer.TransferOp.TheVariants as ops
use Rattle.protocol.specs.Requests.{asks_of, holds_of}
use Rattle.rules.specs.declared.refusal.Cause.{Cause}
use Rattle.rules.specs.declared.refusal.Cause.TheVariants.{NamesRefused, Exists, Missing, NotSponsor, WrongSecret, TransferPends, NoTransferPends, StatusProhibits, AssociationProhibits, NotRenewable, NotTransferable, ParametersRefused, LimitReached, BillingFailure}
use Rattle.rules.specs.declared.verdict.Verdict.{Verdict}
use Rattle.rules.specs.Charges.{charge_of, years_charged}
use Rattle.rules.specs.Conditions.{adds_known, domain_is_locked, expires_otherwise, full_domain, has_no_superordinate, has_subordinates, host_to_be, is_in, is_involved, is_linked, is_of_another, is_oldest, is_requester, is_there, leaves_addresses_outside, leaves_too_many, list_repeats, name_is_refused, passes_ten_years, presents_secret, removes_unknown, renewed_expiry, report_differs, secret_is_wrong, shows_status, sponsors, still_shows, strangers_secret_is_wrong, superordinate_is_anothers, superordinate_is_deleted, the_transfer, transfer_is_pending}
use Rattle.rules.specs.Refusals.{AnswersByLaws}

-- it changes, renews, deletes or restores an object, or answers who asks for one
abbrev pub AltersObject : Action → Type 0
AltersObject Logout = ⊥
AltersObject Balance = ⊥
AltersObject Check = ⊥
AltersObject Info = ⊥
AltersObject Create = ⊥
AltersObject Delete = Unit {0}
AltersObject Update = Unit {0}
AltersObject Renew = Unit {0}
AltersObject RequestRestore = Unit {0}
AltersObject ReportRestore = Unit {0}
AltersObject RequestTransfer = ⊥
AltersObject QueryTransfer = ⊥
AltersObject ApproveTransfer = Unit {0}
AltersObject RejectTransfer = Unit {0}
AltersObject CancelTransfer = ⊥
AltersObject PollRequest = ⊥
AltersObject PollAck = ⊥

-- it acts on an object that has to be there
abbrev pub ActsOnObject : Action → Type 0
ActsOnObject Logout = ⊥
ActsOnObject Balance = ⊥
ActsOnObject Check = ⊥
ActsOnObject Info = Unit {0}
ActsOnObject Create = ⊥
ActsOnObject Delete = Unit {0}
ActsOnObject Update = Unit {0}
ActsOnObject Renew = Unit {0}
ActsOnObject RequestRestore = Unit {0}
ActsOnObject ReportRestore = Unit {0}
ActsOnObject RequestTransfer = Unit {0}
ActsOnObject QueryTransfer = Unit {0}
ActsOnObject ApproveTransfer = Unit {0}
ActsOnObject RejectTransfer = Unit {0}
ActsOnObject CancelTransfer = Unit {0}
ActsOnObject PollRequest = ⊥
ActsOnObject PollAck = ⊥

-- it ends a pending transfer
abbrev pub EndsTransfer : Action → Type 0
EndsTransfer Logout = ⊥
EndsTransfer Balance = ⊥
EndsTransfer Check = ⊥
EndsTransfer Info = ⊥
EndsTransfer Create = ⊥
EndsTransfer Delete = ⊥
EndsTransfer Update = ⊥
EndsTransfer Renew = ⊥
EndsTransfer RequestRestore = ⊥
EndsTransfer ReportRestore = ⊥
EndsTransfer RequestTransfer = ⊥
EndsTransfer QueryTransfer = ⊥
EndsTransfer ApproveTransfer = Unit {0}
EndsTransfer RejectTransfer = Unit {0}
EndsTransfer CancelTransfer = Unit {0}
EndsTransfer PollRequest = ⊥
EndsTransfer PollAck = ⊥

-- ---- what a request keeps to be carried out, cause by cause

-- The zone keeps each name that is given, but for those that are only checked, and no list names one
-- thing twice.
pub record NamesAreKept (p : PolicyRules) (q : Request) : Type 0 where
  pub kept : (asks_of q).action ≢ Check → name_is_refused p.zone q ≡ false
  pub once : (list_repeats (asks_of q).adds || list_repeats (asks_of q).removes) ≡ false

-- What is created isn't there, and a host's new name is free (RFC 5730, 3, code 2302).
pub record NothingExists (q : Request) (f : Facts) : Type 0 where
  pub new : (asks_of q).action ≡ Create → is_there q f ≡ false
  pub untaken : (u : HostUpdate) → q ≡ UpdateHost u → is_some (new_name_seen f) ≡ false

-- The object that is acted on is there (RFC 5730, 3, code 2303), and so is what a domain is to name (RFC 5731,
-- 3.2.1 and 3.2.5). The name that a host is to have is outside the zone, or lies below a domain that is
-- there (RFC 5732, 3.2.1 and 3.2.5). A message that is acknowledged is the oldest (RFC 5730, 2.9.2.3).
pub record NothingIsMissing (p : PolicyRules) (q : Request) (f : Facts) : Type 0 where
  pub there : ActsOnObject (asks_of q).action → is_there q f ≡ true
  pub creates_linked : (new : NewDomain) → q ≡ CreateDomain new → f.reference_missing ≡ false
  pub updates_linked : (u : DomainUpdate) → q ≡ UpdateDomain u → f.reference_missing ≡ false
  pub creates_based : (new : NewHost) → q ≡ CreateHost new
      → holds_of (has_no_superordinate p.zone) (host_to_be q f) ≡ false
  pub updates_based : (u : HostUpdate) → q ≡ UpdateHost u
      → holds_of (has_no_superordinate p.zone) (host_to_be q f) ≡ false
  pub oldest : (asks_of q).action ≡ PollAck → is_oldest q f ≡ true

-- The sponsor alone changes, renews, deletes, restores or lets go an object (RFC 5731 to 5733, 3.2), and
-- who sponsors the domain above a host gives the host its name (RFC 5732, 3.2.1 and 3.2.5). A query of a
-- transfer is answered to the sponsor, to whom the last transfer names, and to who presents a secret
-- (RFC 5730, 2.9.2.4). Its requester alone cancels a transfer (RFC 5730, 2.9.3.4).
pub record IsEntitled (p : PolicyRules) (r : ℕ) (q : Request) (f : Facts) : Type 0 where
  pub sponsor : AltersObject (asks_of q).action → is_of_another p.zone r q f ≡ false
  pub creates_below_own : (new : NewHost) → q ≡ CreateHost new
      → holds_of (superordinate_is_anothers p.zone r) (host_to_be q f) ≡ false
  pub updates_below_own : (u : HostUpdate) → q ≡ UpdateHost u
      → holds_of (superordinate_is_anothers p.zone r) (host_to_be q f) ≡ false
  pub involved : (asks_of q).action ≡ QueryTransfer
      → (is_involved r q f || is_some (asks_of q).secret) ≡ true
  pub requester : (asks_of q).action ≡ CancelTransfer → is_requester r q f ≡ true

-- An object is asked for with its own secret (RFC 5731, 3.2.4; RFC 5733, 3.2.4). A secret with which
-- another than the sponsor asks for information is the object's (RFC 5731, 3.1.2; RFC 5733, 3.1.2), and so
-- is one with which who has no part in an object asks for its transfer's state (RFC 5731, 3.1.3; RFC
-- 5733, 3.1.3).
pub record SecretIsRight (r : ℕ) (q : Request) (f : Facts) : Type 0 where
  pub shows : (asks_of q).action ≡ Info → secret_is_wrong r q f ≡ false
  pub authorized : (asks_of q).action ≡ RequestTransfer → presents_secret q f ≡ true
  pub queries : (asks_of q).action ≡ QueryTransfer → is_some (asks_of q).secret ≡ true
      → (is_involved r q f || presents_secret q f) ≡ true

-- No object is asked for while a transfer of it is pending (RFC 5730, 3, code 2300).
pub record NoTransferIsPending (q : Request) (f : Facts) : Type 0 where
  pub not_twice : (asks_of q).action ≡ RequestTransfer → shows_status PendingTransfer q f ≡ false

-- What isn't pending isn't ended, and a query is answered where there was a transfer (RFC 5730, 3, code
-- 2301).
pub record TransferIsThere (q : Request) (f : Facts) : Type 0 where
  pub known : (asks_of q).action ≡ QueryTransfer → is_some (the_transfer q f) ≡ true
  pub pending : EndsTransfer (asks_of q).action → transfer_is_pending q f ≡ true

-- No transfer of the object pends, nor its deletion (RFC 5731, 2.3; RFC 5733, 2.2).
pub record NothingPends (q : Request) (f : Facts) : Type 0 where
  pub no_transfer : shows_status PendingTransfer q f ≡ false
  pub no_deletion : shows_status PendingDelete q f ≡ false

-- No status of the object prohibits what is asked (RFC 5731, 2.3; RFC 5732, 2.3; RFC 5733, 2.2). A
-- prohibition of the sponsor's own may be taken away by the update that it prohibits. What pends is
-- neither updated nor renewed, no object is deleted while its transfer pends, and no domain is deleted
-- twice, nor asked for while it is deleted, nor given a host below it then. A restoration is asked for in the
-- redemption period, and reported on while it is pending (RFC 3915, 3.1).
pub record NoStatusProhibits (p : PolicyRules) (q : Request) (f : Facts) : Type 0 where
  pub client_delete : (asks_of q).action ≡ Delete → shows_status ClientDeleteProhibited q f ≡ false
  pub server_delete : (asks_of q).action ≡ Delete → shows_status ServerDeleteProhibited q f ≡ false
  pub client_update : (asks_of q).action ≡ Update → still_shows ClientUpdateProhibited q f ≡ false
  pub server_update : (asks_of q).action ≡ Update → shows_status ServerUpdateProhibited q f ≡ false
  pub client_renew : (asks_of q).action ≡ Renew → shows_status ClientRenewProhibited q f ≡ false
  pub server_renew : (asks_of q).action ≡ Renew → shows_status ServerRenewProhibited q f ≡ false
  pub client_transfer : (asks_of q).action ≡ RequestTransfer
      → shows_status ClientTransferProhibited q f ≡ false
  pub server_transfer : (asks_of q).action ≡ RequestTransfer
      → shows_status ServerTransferProhibited q f ≡ false
  pub updates_contact : (u : ContactUpdate) → q ≡ UpdateContact u → NothingPends q f
  pub updates_domain : (u : DomainUpdate) → q ≡ UpdateDomain u → NothingPends q f
  pub renews : (asks_of q).action ≡ Renew → NothingPends q f
  pub deletes : (asks_of q).action ≡ Delete → shows_status PendingTransfer q f ≡ false
  pub deletes_once : (name : RequestedName) → q ≡ DeleteDomain name
      → shows_status PendingDelete q f ≡ false
  pub not_deleted : (name : RequestedName) (secret : Option (List ℕ))
      → q ≡ TransferDomain name ops.Request secret → shows_status PendingDelete q f ≡ false
  pub creates_below : (new : NewHost) → q ≡ CreateHost new
      → holds_of (superordinate_is_deleted p.zone) (host_to_be q f) ≡ false
  pub updates_below : (u : HostUpdate) → q ≡ UpdateHost u
      → holds_of (superordinate_is_deleted p.zone) (host_to_be q f) ≡ false
  pub redeemable : (asks_of q).action ≡ RequestRestore → is_in Redemption q f ≡ true
  pub restoring : (asks_of q).action ≡ ReportRestore → is_in Restoring q f ≡ true

-- Nothing is deleted that a domain names (RFC 5732, 3.2.2; RFC 5733, 3.2.2), nor a domain while hosts lie
-- below it (RFC 5731, 3.2.2).
pub record NoAssociationProhibits (q : Request) (f : Facts) : Type 0 where
  pub linked : (asks_of q).action ≡ Delete → is_linked q f ≡ false
  pub subordinates : (asks_of q).action ≡ Delete → has_subordinates q f ≡ false

-- A domain isn't renewed beyond ten years from now (RFC 5730, 3, code 2105).
pub record IsRenewable (t : ℕ) (q : Request) (f : Facts) : Type 0 where
  pub ten_years : (asks_of q).action ≡ Renew → passes_ten_years t q f ≡ false

-- Who sponsors an object doesn't ask for it, and no domain is asked for while it is locked (RFC 5730, 3,
-- code 2106).
pub record IsTransferable (p : PolicyRules) (r t : ℕ) (q : Request) (f : Facts) : Type 0 where
  pub not_own : (asks_of q).action ≡ RequestTransfer → sponsors r q f ≡ false
  pub unlocked : (asks_of q).action ≡ RequestTransfer → domain_is_locked p t q f ≡ false

-- An update adds only what isn't there and removes only what is. No list is longer afterwards than it
-- may be, and a host outside the zone has no addresses (RFC 5732, 2.5). A domain is renewed from the date
-- on which it is shown to expire (RFC 5731, 3.2.3), and a report is on its own deletion and restoration (RFC
-- 3915, 4.2.5).
pub record ParametersFit (p : PolicyRules) (q : Request) (f : Facts) : Type 0 where
  pub adds : (asks_of q).action ≡ Update → adds_known q f ≡ false
  pub removes : (asks_of q).action ≡ Update → removes_unknown q f ≡ false
  pub creates_within : (asks_of q).action ≡ Create → leaves_too_many q f ≡ false
  pub updates_within : (asks_of q).action ≡ Update → leaves_too_many q f ≡ false
  pub creates_inside : (asks_of q).action ≡ Create → leaves_addresses_outside p.zone q f ≡ false
  pub updates_inside : (asks_of q).action ≡ Update → leaves_addresses_outside p.zone q f ≡ false
  pub expires : (asks_of q).action ≡ Renew → expires_otherwise q f ≡ false
  pub reported : (asks_of q).action ≡ ReportRestore → report_differs q f ≡ false

-- Who holds as many domains as a registrar may gets no other (RFC 5730, 3, code 2308).
pub record HoldsNoMore (q : Request) (f : Facts) : Type 0 where
  pub creates : (new : NewDomain) → q ≡ CreateDomain new → f.holding_limit_reached ≡ false
  pub takes : (name : RequestedName) (secret : Option (List ℕ))
      → q ≡ TransferDomain name ops.Request secret → f.holding_limit_reached ≡ false

-- The account has what is charged (RFC 5730, 3, code 2104).
pub record IsPaid (p : PolicyRules) (t : ℕ) (q : Request) (f : Facts) : Type 0 where
  pub paid : 0 < charge_of p t q f → pos (charge_of p t q f) ≤ℤ f.account.balance

-- the law whose breach is the cause
abbrev pub KeepsLaw : PolicyRules → ℕ → ℕ → Request → Facts → Cause → Type 0
KeepsLaw p r t q f NamesRefused = NamesAreKept p q
KeepsLaw p r t q f Exists = NothingExists q f
KeepsLaw p r t q f Missing = NothingIsMissing p q f
KeepsLaw p r t q f NotSponsor = IsEntitled p r q f
KeepsLaw p r t q f WrongSecret = SecretIsRight r q f
KeepsLaw p r t q f TransferPends = NoTransferIsPending q f
KeepsLaw p r t q f NoTransferPends = TransferIsThere q f
KeepsLaw p r t q f StatusProhibits = NoStatusProhibits p q f
KeepsLaw p r t q f AssociationProhibits = NoAssociationProhibits q f
KeepsLaw p r t q f NotRenewable = IsRenewable t q f
KeepsLaw p r t q f NotTransferable = IsTransferable p r t q f
KeepsLaw p r t q f ParametersRefused = ParametersFit p q f
KeepsLaw p r t q f LimitReached = HoldsNoMore q f
KeepsLaw p r t q f BillingFailure = IsPaid p t q f

-- A verdict on a request is by the laws. The years for which a report on a restoration charges
-- put the expiry after the moment, and fewer don't. A wrong secret is never answered with data (RFC
-- 5731, 2.6; RFC 5733, 2.8), whoever presents it with the request of a transfer, and unless the sponsor
-- does so with another command, or whom the last transfer names with a query of it.
pub record KeepsLaws (p : PolicyRules) (r t : ℕ) (q : Request) (f : Facts) (v : Verdict) : Type 0 where
  pub lawful : AnswersByLaws (KeepsLaw p r t q f) v.code
  pub outlasts : (asks_of q).action ≡ ReportRestore → (d : Domain) → full_domain q f ≡ Some d
      → t < renewed_expiry (years_charged t q f) d
  pub no_more : (asks_of q).action ≡ ReportRestore → (d : Domain) → full_domain q f ≡ Some d
      → (years : ℕ) → years < years_charged t q f → renewed_expiry years d ≤ t
  pub secret : (asks_of q).action ≡ Info → secret_is_wrong r q f ≡ true → v.content ≡ None
  pub requesters_secret : (asks_of q).action ≡ RequestTransfer → presents_secret q f ≡ false
      → v.content ≡ None
  pub strangers_secret : (asks_of q).action ≡ QueryTransfer → strangers_secret_is_wrong r q f ≡ true
      → v.content ≡ None

unfoldable pub AnswersLawfully : PolicyRules → ℕ → ℕ → Command → Facts → Verdict → Type 0
AnswersLawfully p r t (Bad cl_trid code) f v = v.content ≡ None
AnswersLawfully p r t (Asked cl_trid request) f v = KeepsLaws p r t request f v
