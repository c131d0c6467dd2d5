use Rattle.std.proofs.Common.{◌≡◌, take}
use Rattle.rdap.specs.Bodies.{of_version_6}
use Rattle.rdap.proofs.nameserver.of_version_6.Given as goal

abbrev pub invariant-loop-address : goal.invariant-loop-address
invariant-loop-address l = l.list.items ≡ of_version_6 (take l.address-index l.addresses)
