use Rattle.names.proofs.UnicodeLemmas.{IsStable-ascii_of}
use Rattle.names.proofs.canonical.canonical_text.Goals as goal

pub returns-clause-stable : goal.returns-clause-stable
returns-clause-stable c =
    let stable = IsStable-ascii_of c.args.text.now _ (rw c.as_bytes.ensures.value at c.in_ok-name.ensures.value) in
    rw (c.from_string.ensures, c.in_ok-into_owned.ensures.ok) stable
