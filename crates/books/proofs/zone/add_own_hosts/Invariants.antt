use Rattle.std.proofs.Common.{◌≡◌, filter, drop}
use Rattle.std.specs.Prelude.{fold}
use Rattle.model.specs.Zone.{is_in_zone, with_name}
use Rattle.books.proofs.zone.add_own_hosts.Given as goal

-- the hosts that are left lead to where all of them do
abbrev pub invariant-loop-host : goal.invariant-loop-host
invariant-loop-host l = fold with_name l.names (filter (is_in_zone l.zone) (drop l.host-index l.hosts)) ≡ fold with_name l.fn.names (filter (is_in_zone l.zone) l.hosts)
