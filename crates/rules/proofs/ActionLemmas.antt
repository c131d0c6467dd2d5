-- The forms of the requests that do one action: what each form has, each such request has.
use Rattle.std.proofs.Common.{◌≡◌, ℕ, List, Option, sym, subst}
use Rattle.names.specs.RequestedName.{RequestedName}
use Rattle.protocol.specs.declared.command.{Action.Action, ContactUpdate.ContactUpdate, DomainUpdate.DomainUpdate, HostUpdate.HostUpdate}
use Rattle.protocol.specs.declared.command.{NewContact.NewContact, NewDomain.NewDomain, NewHost.NewHost, Request.Request}
use Rattle.protocol.specs.declared.command.Request.TheVariants.{Logout, Balance, CheckContact, CheckDomain, CheckHost, InfoContact, InfoDomain, InfoHost, CreateContact, CreateDomain, CreateHost, DeleteContact, DeleteDomain, DeleteHost, UpdateContact, UpdateDomain, UpdateHost, RenewDomain, RequestRestore, ReportRestore, TransferContact, TransferDomain, PollRequest, PollAck}
use Rattle.protocol.specs.{declared.transfer.TransferOp.TransferOp, Requests.{asks_of, transfer_action}}
use Rattle.protocol.specs.declared.command.Action.TheVariants as actions
use Rattle.protocol.specs.declared.transfer.TransferOp.TheVariants as ops

abbrev OfTransfers : (Request → Type 0) → TransferOp → Type 0
OfTransfers P op =
    ((name : List ℕ) (secret : Option (List ℕ)) → P (TransferContact name op secret))
    × ((name : RequestedName) (secret : Option (List ℕ)) → P (TransferDomain name op secret))

abbrev pub OfEach : (Request → Type 0) → Action → Type 0
OfEach P actions.Logout = P Logout
OfEach P actions.Balance = P Balance
OfEach P actions.Check =
    ((names : List (List ℕ)) → P (CheckContact names))
    × (((names : List RequestedName) → P (CheckDomain names))
    × ((names : List RequestedName) → P (CheckHost names)))
OfEach P actions.Info =
    ((name : List ℕ) (secret : Option (List ℕ)) → P (InfoContact name secret))
    × (((name : RequestedName) (secret : Option (List ℕ)) → P (InfoDomain name secret))
    × ((name : RequestedName) → P (InfoHost name)))
OfEach P actions.Create =
    ((new : NewContact) → P (CreateContact new))
    × (((new : NewDomain) → P (CreateDomain new)) × ((new : NewHost) → P (CreateHost new)))
OfEach P actions.Delete =
    ((name : List ℕ) → P (DeleteContact name))
    × (((name : RequestedName) → P (DeleteDomain name))
    × ((name : RequestedName) → P (DeleteHost name)))
OfEach P actions.Update =
    ((update : ContactUpdate) → P (UpdateContact update))
    × (((update : DomainUpdate) → P (UpdateDomain update))
    × ((update : HostUpdate) → P (UpdateHost update)))
OfEach P actions.Renew =
    (name : RequestedName) (expires : List ℕ) (years : ℕ) → P (RenewDomain name expires years)
OfEach P actions.RequestRestore = (name : RequestedName) → P (RequestRestore name)
OfEach P actions.ReportRestore =
    (name : RequestedName) (del_time res_time : ℕ) → P (ReportRestore name del_time res_time)
OfEach P actions.RequestTransfer = OfTransfers P ops.Request
OfEach P actions.QueryTransfer = OfTransfers P ops.Query
OfEach P actions.ApproveTransfer = OfTransfers P ops.Approve
OfEach P actions.RejectTransfer = OfTransfers P ops.Reject
OfEach P actions.CancelTransfer = OfTransfers P ops.Cancel
OfEach P actions.PollRequest = P PollRequest
OfEach P actions.PollAck = (id : List ℕ) → P (PollAck id)

of-transfers : (P : Request → Type 0) (op : TransferOp) → OfEach P (transfer_action op) → OfTransfers P op
of-transfers P ops.Request each = each
of-transfers P ops.Query each = each
of-transfers P ops.Approve each = each
of-transfers P ops.Reject each = each
of-transfers P ops.Cancel each = each

pub of-each : (P : Request → Type 0) (q : Request) → OfEach P (asks_of q).action → P q
of-each P Logout each = each
of-each P Balance each = each
of-each P (CheckContact names) each = each.0 names
of-each P (CheckDomain names) each = each.1.0 names
of-each P (CheckHost names) each = each.1.1 names
of-each P (InfoContact name secret) each = each.0 name secret
of-each P (InfoDomain name secret) each = each.1.0 name secret
of-each P (InfoHost name) each = each.1.1 name
of-each P (CreateContact new) each = each.0 new
of-each P (CreateDomain new) each = each.1.0 new
of-each P (CreateHost new) each = each.1.1 new
of-each P (DeleteContact name) each = each.0 name
of-each P (DeleteDomain name) each = each.1.0 name
of-each P (DeleteHost name) each = each.1.1 name
of-each P (UpdateContact update) each = each.0 update
of-each P (UpdateDomain update) each = each.1.0 update
of-each P (UpdateHost update) each = each.1.1 update
of-each P (RenewDomain name expires years) each = each name expires years
of-each P (RequestRestore name) each = each name
of-each P (ReportRestore name del_time res_time) each = each name del_time res_time
of-each P (TransferContact name op secret) each = (of-transfers P op each).0 name secret
of-each P (TransferDomain name op secret) each = (of-transfers P op each).1 name secret
of-each P PollRequest each = each
of-each P (PollAck id) each = each id

pub of-action : (P : Request → Type 0) (a : Action) → OfEach P a → (q : Request) → (asks_of q).action ≡ a → P q
of-action P a each q is = of-each P q (subst (OfEach P) (sym is) each)
