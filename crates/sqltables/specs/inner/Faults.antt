-- What an error of the database is to a book.
use Rattle.sqlite.specs.declared.error.Error.{Error}
use Rattle.sqlite.specs.declared.error.Error.TheVariants.{SqliteFailure}
use Rattle.sqlite.specs.declared.error.ErrorCode.TheVariants.{OutOfMemory}
use Rattle.states.specs.declared.fault.BookFault.{BookFault}
use Rattle.states.specs.declared.fault.BookFault.TheVariants.{Memory, Store}

-- Want of memory is returned as that, and all else is a refusal.
abbrev pub fault_of : Error → BookFault
fault_of (SqliteFailure OutOfMemory) = Memory
fault_of error = Store
