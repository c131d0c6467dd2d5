use Rattle.std.proofs.Common.{◌≡◌, map, take}
use Rattle.rdap.specs.StatusWords.{status_word}
use Rattle.rdap.proofs.status.words_of.Given as goal

abbrev pub invariant-loop-status : goal.invariant-loop-status
invariant-loop-status l = l.words.items ≡ map status_word (take l.status-index l.statuses)
