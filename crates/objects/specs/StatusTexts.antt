-- The texts of statuses (RFC 5731, 2.3; RFC 5732, 2.3; RFC 5733, 2.2) and of the states of grace (RFC 3915, 3.1).
use Rattle.std.specs.Prelude.{ℕ, List, codes, find, Option}
use Rattle.std.specs.Str.{bytes_eq}
use Rattle.objects.specs.declared.status.Status.{Status}
use Rattle.objects.specs.declared.status.Status.TheVariants as statuses
use Rattle.objects.specs.declared.status.Rgp.{Rgp}
use Rattle.objects.specs.declared.status.Rgp.TheVariants as states
use Rattle.objects.specs.Statuses.{all_statuses}

abbrev pub status_text : Status → List ℕ
status_text statuses.ClientDeleteProhibited = codes "clientDeleteProhibited"
status_text statuses.ClientHold = codes "clientHold"
status_text statuses.ClientRenewProhibited = codes "clientRenewProhibited"
status_text statuses.ClientTransferProhibited = codes "clientTransferProhibited"
status_text statuses.ClientUpdateProhibited = codes "clientUpdateProhibited"
status_text statuses.Inactive = codes "inactive"
status_text statuses.Linked = codes "linked"
status_text statuses.Fine = codes "ok"
status_text statuses.PendingDelete = codes "pendingDelete"
status_text statuses.PendingTransfer = codes "pendingTransfer"
status_text statuses.ServerDeleteProhibited = codes "serverDeleteProhibited"
status_text statuses.ServerHold = codes "serverHold"
status_text statuses.ServerRenewProhibited = codes "serverRenewProhibited"
status_text statuses.ServerTransferProhibited = codes "serverTransferProhibited"
status_text statuses.ServerUpdateProhibited = codes "serverUpdateProhibited"

-- the status that a text names
abbrev pub status_named : List ℕ → Option Status
status_named text = find (λ status. bytes_eq (status_text status) text) all_statuses

abbrev pub rgp_text : Rgp → List ℕ
rgp_text states.AddPeriod = codes "addPeriod"
rgp_text states.AutoRenewPeriod = codes "autoRenewPeriod"
rgp_text states.PendingDelete = codes "pendingDelete"
rgp_text states.PendingRestore = codes "pendingRestore"
rgp_text states.RedemptionPeriod = codes "redemptionPeriod"
rgp_text states.RenewPeriod = codes "renewPeriod"
rgp_text states.TransferPeriod = codes "transferPeriod"
