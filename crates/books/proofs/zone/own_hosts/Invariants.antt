use Rattle.std.proofs.Common.{◌≡◌, drop}
use Rattle.std.specs.{Prelude.fold, List.flat_map}
use Rattle.model.specs.Zone.{hosts_in_zone, own_hosts, with_name}
use Rattle.books.proofs.zone.own_hosts.Given as goal

-- the hosts of the domains that are left lead to where all of them do
abbrev pub invariant-loop-delegation : goal.invariant-loop-delegation
invariant-loop-delegation l = fold with_name l.names (flat_map (hosts_in_zone l.zone) (drop l.delegation-index l.delegations)) ≡ own_hosts l.zone l.delegations
