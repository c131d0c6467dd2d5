use Rattle.names.proofs.UnicodeLemmas.{unicode_of-stable}
use Rattle.names.proofs.canonical.unicode_text.Goals as goal

pub returns-in_err-outcome-clause-known : goal.returns-in_err-outcome-clause-known
returns-in_err-outcome-clause-known c =
    let shows = rw c.in_err-outcome.was at c.in_ok-text.ensures.value in
    let none = rw (c.as_bytes.ensures.value, c.as_str.ensures) at shows.1 in
    absurd (unicode_of-stable c.args.name.now c.requires none)
