-- The words by which RDAP shows statuses (RFC 9083, 10.2.2; RFC 8056): ok is active, linked is
-- associated, and each other is its words in lower case.
use Rattle.std.specs.Prelude.{ℕ, List, ◌++◌, codes, map}
use Rattle.std.specs.List.{dedup}
use Rattle.std.specs.Str.{bytes_eq}
use Rattle.objects.specs.declared.status.Rgp.{Rgp}
use Rattle.objects.specs.declared.status.Rgp.TheVariants as states
use Rattle.objects.specs.declared.status.Status.{Status}
use Rattle.objects.specs.declared.status.Status.TheVariants as statuses
use Rattle.objects.specs.Links.{in_order}

abbrev pub status_word : Status → List ℕ
status_word statuses.ClientDeleteProhibited = codes "client delete prohibited"
status_word statuses.ClientHold = codes "client hold"
status_word statuses.ClientRenewProhibited = codes "client renew prohibited"
status_word statuses.ClientTransferProhibited = codes "client transfer prohibited"
status_word statuses.ClientUpdateProhibited = codes "client update prohibited"
status_word statuses.Inactive = codes "inactive"
status_word statuses.Linked = codes "associated"
status_word statuses.Fine = codes "active"
status_word statuses.PendingDelete = codes "pending delete"
status_word statuses.PendingTransfer = codes "pending transfer"
status_word statuses.ServerDeleteProhibited = codes "server delete prohibited"
status_word statuses.ServerHold = codes "server hold"
status_word statuses.ServerRenewProhibited = codes "server renew prohibited"
status_word statuses.ServerTransferProhibited = codes "server transfer prohibited"
status_word statuses.ServerUpdateProhibited = codes "server update prohibited"

abbrev pub grace_word : Rgp → List ℕ
grace_word states.AddPeriod = codes "add period"
grace_word states.AutoRenewPeriod = codes "auto renew period"
grace_word states.PendingDelete = codes "pending delete"
grace_word states.PendingRestore = codes "pending restore"
grace_word states.RedemptionPeriod = codes "redemption period"
grace_word states.RenewPeriod = codes "renew period"
grace_word states.TransferPeriod = codes "transfer period"

-- the words of an object's statuses and states of grace, sorted, each once
abbrev pub status_words : List Status → List Rgp → List (List ℕ)
status_words shown graces =
    dedup bytes_eq (in_order (map status_word shown ++ map grace_word graces))
