use Rattle.std.proofs.Common.{◌≡◌, map, take}
use Rattle.serde_json.specs.View.{view}
use Rattle.eppreplies.specs.Reply.{checked_value}
use Rattle.eppreplies.proofs.reply.checks_value.Given as goal

abbrev pub invariant-loop-result : goal.invariant-loop-result
invariant-loop-result l = map view l.list.items ≡ map checked_value (take l.result-index l.results)
