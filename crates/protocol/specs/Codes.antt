-- The result codes (RFC 5730, 3).
use Rattle.std.specs.Prelude.{ℕ, Bool, nat_lt, List, codes}
use Rattle.protocol.specs.declared.form.FormFault.{FormFault}
use Rattle.protocol.specs.declared.form.FormFault.TheVariants as faults
use Rattle.protocol.specs.declared.code.Code.{Code}
use Rattle.protocol.specs.declared.code.Code.TheVariants.{Completed, CompletedActionPending, CompletedNoMessages, CompletedAckToDequeue, CompletedEndingSession, UnknownCommand, SyntaxError, UseError, ParameterMissing, ParameterRange, ParameterSyntax, UnimplementedVersion, BillingFailure, NotEligibleForRenewal, NotEligibleForTransfer, AuthenticationError, AuthorizationError, InvalidAuthorization, PendingTransfer, NotPendingTransfer, ObjectExists, ObjectMissing, StatusProhibits, AssociationProhibits, ParameterPolicy, DataManagementPolicy, CommandFailed, CommandFailedClosing}

abbrev pub number_of : Code → ℕ
number_of Completed = 1000
number_of CompletedActionPending = 1001
number_of CompletedNoMessages = 1300
number_of CompletedAckToDequeue = 1301
number_of CompletedEndingSession = 1500
number_of UnknownCommand = 2000
number_of SyntaxError = 2001
number_of UseError = 2002
number_of ParameterMissing = 2003
number_of ParameterRange = 2004
number_of ParameterSyntax = 2005
number_of UnimplementedVersion = 2100
number_of BillingFailure = 2104
number_of NotEligibleForRenewal = 2105
number_of NotEligibleForTransfer = 2106
number_of AuthenticationError = 2200
number_of AuthorizationError = 2201
number_of InvalidAuthorization = 2202
number_of PendingTransfer = 2300
number_of NotPendingTransfer = 2301
number_of ObjectExists = 2302
number_of ObjectMissing = 2303
number_of StatusProhibits = 2304
number_of AssociationProhibits = 2305
number_of ParameterPolicy = 2306
number_of DataManagementPolicy = 2308
number_of CommandFailed = 2400
number_of CommandFailedClosing = 2500

abbrev pub message_of : Code → List ℕ
message_of Completed = codes "Command completed successfully"
message_of CompletedActionPending = codes "Command completed successfully; action pending"
message_of CompletedNoMessages = codes "Command completed successfully; no messages"
message_of CompletedAckToDequeue = codes "Command completed successfully; ack to dequeue"
message_of CompletedEndingSession = codes "Command completed successfully; ending session"
message_of UnknownCommand = codes "Unknown command"
message_of SyntaxError = codes "Command syntax error"
message_of UseError = codes "Command use error"
message_of ParameterMissing = codes "Required parameter missing"
message_of ParameterRange = codes "Parameter value range error"
message_of ParameterSyntax = codes "Parameter value syntax error"
message_of UnimplementedVersion = codes "Unimplemented protocol version"
message_of BillingFailure = codes "Billing failure"
message_of NotEligibleForRenewal = codes "Object is not eligible for renewal"
message_of NotEligibleForTransfer = codes "Object is not eligible for transfer"
message_of AuthenticationError = codes "Authentication error"
message_of AuthorizationError = codes "Authorization error"
message_of InvalidAuthorization = codes "Invalid authorization information"
message_of PendingTransfer = codes "Object pending transfer"
message_of NotPendingTransfer = codes "Object not pending transfer"
message_of ObjectExists = codes "Object exists"
message_of ObjectMissing = codes "Object does not exist"
message_of StatusProhibits = codes "Object status prohibits operation"
message_of AssociationProhibits = codes "Object association prohibits operation"
message_of ParameterPolicy = codes "Parameter value policy error"
message_of DataManagementPolicy = codes "Data management policy violation"
message_of CommandFailed = codes "Command failed"
message_of CommandFailedClosing = codes "Command failed; server closing connection"

-- codes below 2000 say that a command was carried out (RFC 5730, 3)
abbrev pub is_accepted : Code → Bool
is_accepted code = nat_lt (number_of code) 2000

-- the code of a refused form
abbrev pub code_of_form : FormFault → Code
code_of_form faults.UnknownCommand = UnknownCommand
code_of_form faults.SyntaxError = SyntaxError
code_of_form faults.UseError = UseError
code_of_form faults.ParameterMissing = ParameterMissing
code_of_form faults.ParameterRange = ParameterRange
code_of_form faults.ParameterSyntax = ParameterSyntax
