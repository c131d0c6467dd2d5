use Rattle.std.proofs.Common.{◌≡◌, ◌++◌, drop, filter}
use Rattle.sqltables.specs.Link.{link_with_domain}
use Rattle.sqldomains.proofs.zone_rows.links_with.Given as goal

-- its own so far and those that are left
abbrev pub invariant-loop-link : goal.invariant-loop-link
invariant-loop-link l = l.own ++ filter (link_with_domain l.domain.id) (drop l.link-index l.links) ≡ filter (link_with_domain l.domain.id) l.links
