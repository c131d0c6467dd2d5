-- What a line of the log may have of what a client sent.
use Rattle.std.specs.Prelude.{◌&&◌, ◌||◌, ◌++◌, ℕ, List, [], Bool, false, not, cond, bytes_eq, codes, decimal, length, map, nat_le, nat_eq, take, Option, Some, None, if◌then◌else◌}
use Rattle.std.specs.List.{starts_with}
use Rattle.std.specs.Option.{unwrap_or}
use Rattle.wires.specs.declared.log.Entry.{Entry}

-- letters, digits and `-./:_` go into a line as they are, and all else as a question mark
abbrev pub is_plain : ℕ → Bool
is_plain byte =
    (nat_le 45 byte && nat_le byte 58) || ((nat_le 65 byte && nat_le byte 90)
    || (nat_eq byte 95 || (nat_le 97 byte && nat_le byte 122)))

abbrev pub plain_of : ℕ → ℕ
plain_of byte = cond (is_plain byte) byte 63

-- so much of a text that a client sent as a line has: of 255 bytes, and a dash of none
abbrev pub sent_of : List ℕ → List ℕ
sent_of text = if nat_eq (length text) 0 then codes "-" else map plain_of (take 255 text)

-- Codes 2000 to 2005 (RFC 5730, 3) say that a command has another form than it may. A secret may be in the place of a name.
abbrev pub is_fault_of_form : Option ℕ → Bool
is_fault_of_form None = false
is_fault_of_form (Some code) = nat_le 2000 code && nat_le code 2005

abbrev pub is_office_target : List ℕ → Bool
is_office_target target =
    bytes_eq target (codes "/orders") || (bytes_eq target (codes "/zone") || bytes_eq target (codes "/metrics"))

abbrev pub statement_path : List ℕ
statement_path = codes "/statement/"

-- So much of a request's target as a line has. On the operator's port it may be a slip, such as the token.
abbrev pub shown_of : List ℕ → (is_office : Bool) → List ℕ
shown_of target is_office =
    if not is_office || is_office_target target then target
    else (if starts_with nat_eq target statement_path then statement_path else [])

-- a line with the number of a connection and its registrar
abbrev pub with_head : (line : List ℕ) (connection : ℕ) (registrar : List ℕ) → List ℕ
with_head line connection registrar =
    line ++ codes " connection=" ++ decimal connection ++ codes " registrar=" ++ sent_of registrar

-- a line with what it says of a command that took so many microseconds
abbrev pub with_entry : (line : List ℕ) → Entry → (micros : ℕ) → List ℕ
with_entry line entry micros =
    line ++ codes " command=" ++ entry.command.now ++ codes " operation=" ++ entry.operation.now ++ codes " object="
    ++ entry.object.now ++ codes " name=" ++ sent_of entry.name.now ++ codes " code=" ++ decimal (unwrap_or entry.code 0)
    ++ codes " svTRID=" ++ sent_of entry.sv_trid.now ++ codes " us=" ++ decimal micros
