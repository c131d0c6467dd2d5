-- How the program ends, by what its calls answered.
use Rattle.std.specs.Prelude.{◌≡◌, ℕ, Bool, true, not, nat_eq, bit_and, List, Option, Some, None, Result, Ok, Err, OnOk, IfOk, IfErr, IfSome, ⊤, codes, string_bytes}
use Rattle.std.specs.Io.KnownBytes.{Appends}
use Rattle.books.specs.Book.{BookState, Follows}
use Rattle.operator.specs.declared.token.TokenFault.{TokenFault}
use Rattle.operator.specs.declared.token.TokenFault.TheVariants as faults
use Rattle.policy.specs.Rules.{PolicyRules}
use Rattle.protocol.specs.declared.code.Code.{Code}
use Rattle.protocol.specs.declared.code.Code.TheVariants.{Completed}
use Rattle.protocol.specs.declared.order.OperatorRequest.{OperatorRequest}
use Rattle.protocol.specs.declared.order.OperatorRequest.TheVariants as requests
use Rattle.protocol.specs.declared.order.Order.TheVariants as orders
use Rattle.script.specs.Deposits.{EndsUnprinted}
use Rattle.script.specs.Exits.{status_of_exit}
use Rattle.script.specs.Orders.{EndsUnanswered, IsOrdered, PrintsAnswer}
use Rattle.script.specs.declared.exit.Exit.{Exit}
use Rattle.script.specs.declared.exit.Exit.TheVariants as exits
use Rattle.server.specs.Http.{Passes}
use Rattle.server.specs.ZoneExport.{StopsAs, zone_at}
use Rattle.server.specs.declared.zone.ZoneExportFault.{ZoneExportFault}
use Rattle.server.specs.declared.zone.ZoneExportFault.TheVariants as exports
use Rattle.zonefile.specs.declared.fault.ZoneFault.TheVariants as zones
use Rattle.tldreg.specs.declared.command_line.Job.{Job}
use Rattle.tldreg.specs.declared.command_line.Job.TheVariants as jobs
use Rattle.tldreg.specs.declared.token.End.{End}
use Rattle.tldreg.specs.declared.token.End.TheVariants as ends
use Rattle.tldreg.specs.declared.token.Unfit.{Unfit}
use Rattle.tldreg.specs.declared.token.Unfit.TheVariants as unfit
use Rattle.tldreg.specs.inner.Nearness.{IsNear}
use Rattle.tldreg.specs.inner.Words.{moment_of_job}

-- an order that was answered another code than 1000 was refused
abbrev pub order_end : Code → Result ⊤ Exit
order_end Completed = Ok tt
order_end _ = Err exits.Refused

-- and one that wasn't answered ends by its fault
abbrev pub request_end : Result Code Exit → Result ⊤ Exit
request_end (Ok code) = order_end code
request_end (Err exit) = Err exit

-- What the operator sends is carried out in a book, and the program ends as that was answered.
abbrev pub EndsRequest : PolicyRules → OperatorRequest → ℕ → (old new : BookState)
    → (before after : Option (List ℕ)) → Result ⊤ Exit → Type 0
EndsRequest p request moment old new before after result =
    (answered : Result Code Exit) × (result ≡ request_end answered)
    × IfOk answered (λ code. PrintsAnswer p request moment code old new before after)
    × IfErr answered (EndsUnprinted p request moment old new before after)

-- the same of a payload
abbrev pub EndsOrder : PolicyRules → List ℕ → ℕ → (old new : BookState)
    → (before after : Option (List ℕ)) → Result ⊤ Exit → Type 0
EndsOrder p payload moment old new before after result =
    (answered : Result Code Exit) × (result ≡ request_end answered)
    × IfOk answered (λ code. IsOrdered payload (λ request.
    PrintsAnswer p request moment code old new before after))
    × IfErr answered (EndsUnanswered p payload moment old new before after)

-- a zone that broke off, or wasn't begun, is never an end without a fault
abbrev pub zone_end : Result ⊤ ZoneExportFault → Result ⊤ Exit
zone_end (Ok done) = Ok tt
zone_end (Err (exports.Registry fault)) = Err (exits.Registry fault)
zone_end (Err (exports.Zone zones.Memory)) = Err exits.Memory
zone_end (Err (exports.Zone zones.Write)) = Err exits.File

-- The zone of a book is written, and the program ends as that ended.
abbrev pub EndsZone : PolicyRules → ℕ → (old new : BookState) → (before after : Option (List ℕ))
    → Result ⊤ Exit → Type 0
EndsZone p moment old new before after result =
    (written : Result ⊤ ZoneExportFault) × (result ≡ zone_end written)
    × OnOk written (new.is_clean ≡ true
    → Appends before after (zone_at p moment old.content.registry))
    × IfErr written (λ fault. new.is_clean ≡ true
    → StopsAs fault before after (zone_at p moment old.content.registry))
    × Passes p moment old new

-- ---- jobs

-- A job is done with the registry of a book, and the program ends so, if it doesn't go on to serve.
abbrev pub EndsJob : PolicyRules → Job → (old new : BookState) → Result ⊤ Exit → Type 0
EndsJob p (jobs.Serve port) old new result = (new ≡ old) × (result ≡ Ok tt)
EndsJob p (jobs.ServeBoth port operator_port token_file) old new result = (new ≡ old) × (result ≡ Ok tt)
EndsJob p (jobs.Zone moment) old new result = EndsZone p moment old new None None result
EndsJob p (jobs.Deposit moment registrar cents) old new result =
    EndsRequest p (requests.Order (orders.Deposit (string_bytes registrar) cents)) moment old new None None result
EndsJob p (jobs.Order moment json) old new result =
    EndsOrder p (string_bytes json) moment old new None None result

-- the same behind what may end the program before
abbrev pub EndsJobAfter : Result ⊤ Exit → PolicyRules → Job → (old new : BookState) → Result ⊤ Exit → Type 0
EndsJobAfter (Ok done) p job old new result = EndsJob p job old new result
EndsJobAfter (Err exit) p job old new result = (new ≡ old) × (result ≡ Err exit)

-- the same, if its moment must be within so many days of the registry's clock
abbrev pub EndsWithin : Option ℕ → PolicyRules → Job → (old new : BookState) → Result ⊤ Exit → Type 0
EndsWithin None p job old new result = EndsJob p job old new result
EndsWithin (Some days) p job old new result =
    (moment : ℕ) × IfSome (moment_of_job job) (λ given. moment ≡ given)
    × (near : Result ⊤ Exit) × (between : BookState) × IsNear p moment days old between near
    × Follows between new × EndsJobAfter near p job between new result

-- what serves ends where it can't any more
abbrev pub served : Job → Result ⊤ Exit
served (jobs.Serve port) = Err exits.Network
served (jobs.ServeBoth port operator_port token_file) = Err exits.Network
served _ = Ok tt

-- the exit status
abbrev pub status_of_end : Result ⊤ End → ℕ
status_of_end (Ok done) = 0
status_of_end (Err (ends.Exit exit)) = status_of_exit exit
status_of_end (Err (ends.Token fault)) = 1

-- ---- the operator's token

-- the line of standard error, where a file isn't fit to hold the token
abbrev pub text_of : Unfit → List ℕ
text_of unfit.Open = codes "token: others may read it"
text_of unfit.Short = codes "token: short"
text_of unfit.Form = codes "token: form"

-- the same end, of what can't end by the token
abbrev pub end_by_exit : Result ⊤ Exit → Result ⊤ End
end_by_exit (Ok done) = Ok done
end_by_exit (Err exit) = Err (ends.Exit exit)

-- a file that isn't fit to hold the token
abbrev pub token_end : TokenFault → End
token_end faults.Short = ends.Token unfit.Short
token_end faults.Byte = ends.Token unfit.Form
token_end faults.Memory = ends.Exit exits.Memory

-- a file's mode (stat(2)) gives some right to its group or to others: its last six bits
abbrev pub is_open : ℕ → Bool
is_open mode = not (nat_eq (bit_and mode 63) 0)
