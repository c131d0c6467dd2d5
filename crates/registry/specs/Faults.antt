-- Why a call of the registry gave up, or an opening.
use Rattle.registry.specs.declared.fault.Fault.{Fault}
use Rattle.registry.specs.declared.fault.Fault.TheVariants as faults
use Rattle.registry.specs.declared.fault.OpenFault.{OpenFault}
use Rattle.registry.specs.declared.fault.OpenFault.TheVariants as refusals
use Rattle.states.specs.declared.fault.BookFault.{BookFault}
use Rattle.states.specs.declared.fault.BookFault.TheVariants.{Memory, Store}

abbrev pub of_book : BookFault → Fault
of_book Memory = faults.Memory
of_book Store = faults.Store

abbrev pub opening_of_book : BookFault → OpenFault
opening_of_book Memory = refusals.Memory
opening_of_book Store = refusals.Store
