use Rattle.std.proofs.Common.{take}
use Rattle.sqlobjects.proofs.Words.{AreAddressesAdded, HasChanged}
use Rattle.sqlobjects.proofs.addresses.add_addresses.Given as goal

-- those so far were added
abbrev pub invariant-loop-address : goal.invariant-loop-address
invariant-loop-address g l = HasChanged (AreAddressesAdded l.host.id (take l.address-index l.addresses)) l.fn.store l.store
