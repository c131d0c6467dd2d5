-- The file that the log of a database lies in.
use Rattle.std.specs.Prelude.{ℕ, List, [], ◌++◌, Option, Some, None, bytes_eq, codes, if◌then◌else◌}

-- beside the database's own; the empty name for one in memory
abbrev pub log_file_of : List ℕ → List ℕ
log_file_of database = if bytes_eq database (codes ":memory:") then [] else database ++ codes "-wal"

-- the file of a name; the empty name is that of none
abbrev pub file_named : List ℕ → Option (List ℕ)
file_named [] = None
file_named name = Some name
