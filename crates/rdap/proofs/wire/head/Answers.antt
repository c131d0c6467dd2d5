use Rattle.std.proofs.Common.{◌≡◌, ◌∙◌, ℕ, ap, sym}
use Rattle.http.specs.StatusCode.{status_text}
use Rattle.rdap.specs.Answers.{code_and_reason}
use Rattle.rdap.proofs.WireLemmas.{code_written}
use Rattle.rdap.proofs.wire.head.Goals as goal

pub returns : goal.returns
returns c =
    let status : status_text c.status-status.result ≡ code_and_reason c.args.outcome = ap (λ (code : ℕ). status_text code) c.status-status.ensures ∙ code_written c.args.outcome in
    rw (sym status, sym c.allow_field-allow.ensures) c.format.ensures.ok
