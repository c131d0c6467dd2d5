-- What a command is answered.
use Rattle.std.specs.Prelude.{ℕ, Option, Some, None}
use Rattle.policy.specs.Rules.{PolicyRules}
use Rattle.protocol.specs.declared.code.Code.{Code}
use Rattle.protocol.specs.declared.code.Code.TheVariants.{Completed, CompletedActionPending, CompletedEndingSession}
use Rattle.protocol.specs.declared.command.Command.{Command}
use Rattle.protocol.specs.Codes.{code_of_form}
use Rattle.protocol.specs.declared.command.Command.TheVariants.{Bad, Asked}
use Rattle.facts.specs.declared.facts.Facts.{Facts}
use Rattle.protocol.specs.declared.command.Request.{Request}
use Rattle.protocol.specs.declared.command.Request.TheVariants as requests
use Rattle.rules.specs.declared.verdict.Verdict.{Verdict}
use Rattle.facts.specs.Facts.{domain_seen}
use Rattle.names.specs.RequestedName.{name_of}
use Rattle.rules.specs.Deletion.{code_of_deletion}
use Rattle.rules.specs.Poll.{code_of_poll}
use Rattle.rules.specs.Rules.{refusal_of}
use Rattle.rules.specs.ResponseData.{response_data}
use Rattle.rules.specs.Transfers.{code_of_transfer}

abbrev pub refused : Code → Verdict
refused code = record { code = code; content = None }

-- the code of a request that isn't refused: the restoration that is asked for awaits its report
-- (RFC 3915, 4.2.5)
abbrev pub code_granted : Request → Facts → Code
code_granted requests.Logout f = CompletedEndingSession
code_granted requests.Balance f = Completed
code_granted (requests.CheckContact names) f = Completed
code_granted (requests.CheckDomain names) f = Completed
code_granted (requests.CheckHost names) f = Completed
code_granted (requests.InfoContact name secret) f = Completed
code_granted (requests.InfoDomain name secret) f = Completed
code_granted (requests.InfoHost name) f = Completed
code_granted (requests.CreateContact new) f = Completed
code_granted (requests.CreateDomain new) f = Completed
code_granted (requests.CreateHost new) f = Completed
code_granted (requests.DeleteContact name) f = Completed
code_granted (requests.DeleteDomain name) f = code_of_deletion (domain_seen f (name_of name))
code_granted (requests.DeleteHost name) f = Completed
code_granted (requests.UpdateContact update) f = Completed
code_granted (requests.UpdateDomain update) f = Completed
code_granted (requests.UpdateHost update) f = Completed
code_granted (requests.RenewDomain name expires years) f = Completed
code_granted (requests.RequestRestore name) f = CompletedActionPending
code_granted (requests.ReportRestore name del_time res_time) f = Completed
code_granted (requests.TransferContact name op secret) f = code_of_transfer op
code_granted (requests.TransferDomain name op secret) f = code_of_transfer op
code_granted requests.PollRequest f = code_of_poll f.queue.oldest
code_granted (requests.PollAck id) f = Completed

-- what a request is answered that isn't refused
abbrev pub granted : PolicyRules → ℕ → ℕ → Request → Facts → Verdict
granted p r t request f =
    record { code = code_granted request f; content = response_data p r t request f }

-- the code of the first refusal, or what is granted
abbrev pub unless_refused : Option Code → Verdict → Verdict
unless_refused (Some code) verdict = refused code
unless_refused None verdict = verdict

-- what a registrar's command at a moment is answered
unfoldable pub judged : PolicyRules → ℕ → ℕ → Command → Facts → Verdict
judged p r t (Bad cl_trid fault) f = refused (code_of_form fault)
judged p r t (Asked cl_trid request) f =
    unless_refused (refusal_of p r t request f) (granted p r t request f)
