-- How the program ends: its status, and the line of standard error.
use Rattle.std.specs.Prelude.{ℕ, Bool, true, false, List, ◌++◌, Option, Some, None, Result, Ok, Err, codes, decimal, ⊤}
use Rattle.std.specs.declared.io.ErrorKind.{ErrorKind}
use Rattle.std.specs.declared.io.ErrorKind.TheVariants.{OutOfMemory}
use Rattle.policy.specs.declared.fault.PolicyFault.TheVariants as faults
use Rattle.policy.specs.Faults.{fault_text}
use Rattle.registry.specs.declared.fault.OpenFault.TheVariants as opening
use Rattle.script.specs.declared.exit.Exit.{Exit}
use Rattle.script.specs.declared.exit.Exit.TheVariants.{Done, Refused, Usage, Policy, Open, Registry, Network, Script, File, Memory}
use Rattle.states.specs.declared.fault.BookFault.{BookFault}
use Rattle.states.specs.declared.fault.BookFault.TheVariants as books

abbrev pub status_of_exit : Exit → ℕ
status_of_exit Done = 0
status_of_exit Usage = 2
status_of_exit _ = 1

abbrev pub result_of : Exit → Result ⊤ Exit
result_of Done = Ok tt
result_of exit = Err exit

abbrev pub has_line : Exit → Bool
has_line Done = false
has_line Refused = false
has_line _ = true

-- the line, where a fault of opening or of a call doesn't word it
abbrev pub exit_text : Exit → Option (List ℕ)
exit_text Done = Some (codes "")
exit_text Refused = Some (codes "")
exit_text Usage = Some (codes "usage: tldreg run|serve|zone|deposit|migrate POLICY ...")
exit_text (Policy faults.Memory) = Some (codes "out of memory")
exit_text (Policy fault) = Some (codes "policy: " ++ fault_text fault)
exit_text (Open fault) = None
exit_text (Registry fault) = None
exit_text Network = Some (codes "network fault")
exit_text (Script line) = Some (codes "script: line " ++ decimal line)
exit_text File = Some (codes "file fault")
exit_text Memory = Some (codes "out of memory")

-- a fault of reading or writing
abbrev pub exit_of : ErrorKind → Exit
exit_of OutOfMemory = Memory
exit_of _ = File

-- a fault of a book that couldn't be made, or of what is to keep one
abbrev pub exit_of_book : BookFault → Exit
exit_of_book books.Memory = Memory
exit_of_book books.Store = Open opening.Store
