use Rattle.std.proofs.Common.{ap, map, Ok}
use Rattle.toml.specs.View.{view}
use Rattle.policy.proofs.TextLemmas.{values_of-items_of}
use Rattle.policy.proofs.document.as_values.Goals as goal

pub returns-in-Some : goal.returns-in-Some
returns-in-Some c =
    let read = c.in-Some.ensures in
    rw (← read, c.as_slice.ensures.value) (ap (λ ds. Ok ds) (values_of-items_of (map view c.in-Some.values.now.items)))
