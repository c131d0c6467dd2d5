use Rattle.std.proofs.Common.{◌≡◌, length, map, drop}
use Rattle.toml.specs.View.{view}
use Rattle.policy.specs.Reading.{texts_in}
use Rattle.policy.proofs.TextLemmas.{with_front}
use Rattle.policy.proofs.texts.texts_in.Given as goal

-- the texts so far and those of the entries that are left are those of all
abbrev pub invariant-loop-entry : goal.invariant-loop-entry
invariant-loop-entry l = (with_front l.texts.items (texts_in l.key (map view (drop l.entry-index l.entries))) ≡ texts_in l.key (map view l.entries)) × (length l.texts.items ≡ l.entry-index)
