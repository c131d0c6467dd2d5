-- A name as a command gives it: its canonical text.
use Rattle.std.specs.Prelude.{ℕ, List}

abbrev pub RequestedName : Type 0
RequestedName = List ℕ

-- its canonical text
abbrev pub name_of : RequestedName → List ℕ
name_of name = name
