use Rattle.std.proofs.Common.{◌≡◌, take}
use Rattle.rdap.specs.Bodies.{of_version_4}
use Rattle.rdap.proofs.nameserver.of_version_4.Given as goal

abbrev pub invariant-loop-address : goal.invariant-loop-address
invariant-loop-address l = l.list.items ≡ of_version_4 (take l.address-index l.addresses)
