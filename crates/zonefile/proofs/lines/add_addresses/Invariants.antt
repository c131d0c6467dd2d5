use Rattle.std.proofs.Common.{◌≡◌, ◌++◌, filter, drop}
use Rattle.std.specs.List.{flat_map}
use Rattle.zonefile.specs.{Lines.{address_line, is_type_of}, ZoneText.address_lines}
use Rattle.zonefile.proofs.lines.add_addresses.Given as goal

-- the records so far and those of the addresses that are left
abbrev pub invariant-loop-address : goal.invariant-loop-address
invariant-loop-address l =
    l.text.items ++ flat_map (address_line l.host l.ttl l.kind) (filter (is_type_of l.kind) (drop l.address-index l.addresses))
    ≡ l.fn.text.items ++ address_lines l.ttl l.kind l.host l.addresses
