-- The table of each command.
use Rattle.std.specs.Prelude.{ℕ, List, [], Option}
use Rattle.policy.specs.Rules.{PolicyRules}
use Rattle.protocol.specs.declared.code.Code.{Code}
use Rattle.protocol.specs.declared.command.Request.{Request}
use Rattle.protocol.specs.declared.command.Request.TheVariants.{Balance, CheckContact, CheckDomain, CheckHost, InfoContact, InfoDomain, InfoHost, CreateContact, CreateDomain, CreateHost, DeleteContact, DeleteDomain, DeleteHost, UpdateContact, UpdateDomain, UpdateHost, RenewDomain, RequestRestore, ReportRestore, TransferContact, TransferDomain, PollRequest, PollAck, Logout}
use Rattle.protocol.specs.declared.transfer.TransferOp.{TransferOp}
use Rattle.protocol.specs.declared.transfer.TransferOp.TheVariants as ops
use Rattle.facts.specs.declared.facts.Facts.{Facts}
use Rattle.rules.specs.declared.rules.Condition.{Condition}
use Rattle.rules.specs.declared.rules.TheConstants.{CONTACT_INFO, DOMAIN_INFO, HOST_INFO, CONTACT_CREATION, DOMAIN_CREATION, HOST_CREATION, CONTACT_DELETION, DOMAIN_DELETION, HOST_DELETION, CONTACT_UPDATE, DOMAIN_UPDATE, HOST_UPDATE, DOMAIN_RENEWAL, RESTORE_REQUEST, RESTORE_REPORT, CONTACT_TRANSFER_REQUEST, DOMAIN_TRANSFER_REQUEST, CONTACT_TRANSFER_QUERY, DOMAIN_TRANSFER_QUERY, CONTACT_TRANSFER_ANSWER, DOMAIN_TRANSFER_ANSWER, CONTACT_TRANSFER_CANCEL, DOMAIN_TRANSFER_CANCEL, MESSAGE_ACKNOWLEDGEMENT}
use Rattle.rules.specs.Causes.{cause_of}
use Rattle.rules.specs.Conditions.{holds}
use Rattle.rules.specs.Refusals.{first_refusal}

abbrev pub contact_transfer_table : TransferOp → List Condition
contact_transfer_table ops.Request = CONTACT_TRANSFER_REQUEST.now
contact_transfer_table ops.Query = CONTACT_TRANSFER_QUERY.now
contact_transfer_table ops.Approve = CONTACT_TRANSFER_ANSWER.now
contact_transfer_table ops.Reject = CONTACT_TRANSFER_ANSWER.now
contact_transfer_table ops.Cancel = CONTACT_TRANSFER_CANCEL.now

abbrev pub domain_transfer_table : TransferOp → List Condition
domain_transfer_table ops.Request = DOMAIN_TRANSFER_REQUEST.now
domain_transfer_table ops.Query = DOMAIN_TRANSFER_QUERY.now
domain_transfer_table ops.Approve = DOMAIN_TRANSFER_ANSWER.now
domain_transfer_table ops.Reject = DOMAIN_TRANSFER_ANSWER.now
domain_transfer_table ops.Cancel = DOMAIN_TRANSFER_CANCEL.now

abbrev pub table_of : Request → List Condition
table_of Logout = []
table_of Balance = []
table_of (CheckContact names) = []
table_of (CheckDomain names) = []
table_of (CheckHost names) = []
table_of (InfoContact name secret) = CONTACT_INFO.now
table_of (InfoDomain name secret) = DOMAIN_INFO.now
table_of (InfoHost name) = HOST_INFO.now
table_of (CreateContact new) = CONTACT_CREATION.now
table_of (CreateDomain new) = DOMAIN_CREATION.now
table_of (CreateHost new) = HOST_CREATION.now
table_of (DeleteContact name) = CONTACT_DELETION.now
table_of (DeleteDomain name) = DOMAIN_DELETION.now
table_of (DeleteHost name) = HOST_DELETION.now
table_of (UpdateContact update) = CONTACT_UPDATE.now
table_of (UpdateDomain update) = DOMAIN_UPDATE.now
table_of (UpdateHost update) = HOST_UPDATE.now
table_of (RenewDomain name expires years) = DOMAIN_RENEWAL.now
table_of (RequestRestore name) = RESTORE_REQUEST.now
table_of (ReportRestore name del_time res_time) = RESTORE_REPORT.now
table_of (TransferContact name op secret) = contact_transfer_table op
table_of (TransferDomain name op secret) = domain_transfer_table op
table_of PollRequest = []
table_of (PollAck id) = MESSAGE_ACKNOWLEDGEMENT.now

-- the code with which a command is refused
abbrev pub refusal_of : PolicyRules → ℕ → ℕ → Request → Facts → Option Code
refusal_of p r t request f = first_refusal cause_of (holds p r t request f) (table_of request)
