-- Which command a payload is (RFC 5730, 2.5).
use Rattle.std.specs.Prelude.{ℕ, ◌&&◌, List, Option, Some, None, if◌then◌else◌, Result, Ok, Err}
use Rattle.std.specs.Str.{is_utf8}
use Rattle.serde_json.specs.Data.{Data}
use Rattle.serde_json.specs.Read.{read}
use Rattle.protocol.specs.declared.form.FormFault.{FormFault}
use Rattle.protocol.specs.declared.form.FormFault.TheVariants.{SyntaxError}
use Rattle.protocol.specs.declared.command.Request.{Request}
use Rattle.protocol.specs.declared.command.Command.{Command}
use Rattle.protocol.specs.declared.command.Command.TheVariants.{Bad, Asked}
use Rattle.eppforms.specs.declared.member.Member.TheVariants.{ClTrid}
use Rattle.eppforms.specs.Kind.{some_and, in_range, has_shape}
use Rattle.eppforms.specs.declared.table.TheConstants.{CL_TRID}
use Rattle.eppforms.specs.Member.{member_at, word_at}
use Rattle.eppcommands.specs.Request.{request_in}

-- the client's identifier, where it is well formed; the reply repeats it whatever else is wrong
abbrev pub cl_trid_in : Data → Option (List ℕ)
cl_trid_in d = if some_and (λ v. in_range CL_TRID.kind v && has_shape CL_TRID.kind v) (member_at ClTrid d) then word_at ClTrid d else None

abbrev pub command_with : Option (List ℕ) → Result Request FormFault → Command
command_with cl_trid (Ok request) = Asked cl_trid request
command_with cl_trid (Err code) = Bad cl_trid code

abbrev pub command_of_data : Data → Command
command_of_data d = command_with (cl_trid_in d) (request_in d)

abbrev pub command_of_json : Option Data → Command
command_of_json None = Bad None SyntaxError
command_of_json (Some d) = command_of_data d

-- the JSON value that a payload is, if it is one
abbrev pub payload_value : List ℕ → Option Data
payload_value payload = if is_utf8 payload then read payload else None

-- which command a payload is
abbrev pub command_in : List ℕ → Command
command_in payload = command_of_json (payload_value payload)
