use Rattle.std.proofs.Common.{◌≡◌, ◌++◌, drop, filter}
use Rattle.sqltables.specs.Transfer.{transfer_with_domain}
use Rattle.sqldomains.proofs.zone_rows.transfers_with.Given as goal

-- its own so far and those that are left
abbrev pub invariant-loop-transfer : goal.invariant-loop-transfer
invariant-loop-transfer l = l.own ++ filter (transfer_with_domain l.domain.id) (drop l.transfer-index l.transfers) ≡ filter (transfer_with_domain l.domain.id) l.transfers
