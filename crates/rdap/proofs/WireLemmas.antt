-- Status lines.
use Rattle.std.proofs.Common.{◌≡◌, rules}
use Rattle.std.specs.Fmt.{digits}
use Rattle.http.specs.StatusCode.{status_text}
use Rattle.rdap.specs.{Answers.{code_and_reason, status_code}, declared.wire.Outcome.Outcome}

-- what is written of a code is the code and its reason
pub code_written : (outcome : Outcome) → status_text (status_code outcome) ≡ code_and_reason outcome
unfolding digits
code_written outcome = search rules
