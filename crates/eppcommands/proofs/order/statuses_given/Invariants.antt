use Rattle.std.proofs.Common.{◌≡◌, ◌++◌, map, drop}
use Rattle.serde_json.specs.View.{view}
use Rattle.eppcommands.specs.Order.{statuses_given}
use Rattle.eppcommands.proofs.order.statuses_given.Given as goal

abbrev pub invariant-loop-item : goal.invariant-loop-item
invariant-loop-item l = statuses_given (map view l.items) ≡ l.statuses ++ statuses_given (map view (drop l.item-index l.items))
