-- What a payload says in a session, and before a registrar is logged in (RFC 5730, 2.4, 2.9.1).
use Rattle.std.specs.Prelude.{ℕ, ◌&&◌, ◌||◌, Bool, List, Option, Some, None, if◌then◌else◌, Result, Ok, Err, is_ok, bytes_eq}
use Rattle.serde_json.specs.Data.{Data}
use Rattle.protocol.specs.declared.form.FormFault.{FormFault}
use Rattle.protocol.specs.declared.form.FormFault.TheVariants.{SyntaxError, UseError}
use Rattle.protocol.specs.declared.command.Command.TheVariants.{Bad}
use Rattle.protocol.specs.declared.session.BeforeLogin.{BeforeLogin}
use Rattle.protocol.specs.declared.session.BeforeLogin.TheVariants as before
use Rattle.protocol.specs.declared.session.Credentials.{Credentials}
use Rattle.protocol.specs.declared.session.InSession.{InSession}
use Rattle.protocol.specs.declared.session.InSession.TheVariants as within
use Rattle.eppforms.specs.declared.member.Member.TheVariants.{Cmd, Id, Pw, Version}
use Rattle.eppforms.specs.declared.member.Section.TheVariants.{Top}
use Rattle.eppforms.specs.declared.table.Verb.{Verb}
use Rattle.eppforms.specs.declared.table.Verb.TheVariants.{Hello, Login}
use Rattle.eppforms.specs.Form.{◌>>=◌, checked_command, refuse_unless}
use Rattle.eppforms.specs.Kind.{some_and}
use Rattle.eppforms.specs.Member.{word_at}
use Rattle.eppforms.specs.Table.{verb_text}
use Rattle.eppcommands.specs.Command.{cl_trid_in, command_of_data, payload_value}
use Rattle.eppcommands.specs.Reading.{text_at}

-- `cmd` says this
abbrev pub says : Verb → Data → Bool
says verb d = some_and (λ cmd. bytes_eq cmd (verb_text verb)) (word_at Cmd d)

-- a well formed hello
abbrev pub is_hello : Data → Bool
is_hello d = says Hello d && is_ok (checked_command d)

-- ---- in a session

-- a login has no place there, whatever its form
abbrev pub said_in_session : Data → InSession
said_in_session d =
    if is_hello d then within.Hello else
    (if says Login d then within.Ordinary (Bad (cl_trid_in d) UseError) else
    within.Ordinary (command_of_data d))

abbrev pub in_session_of : Option Data → InSession
in_session_of None = within.Ordinary (Bad None SyntaxError)
in_session_of (Some d) = said_in_session d

-- what a payload says in a session
abbrev pub in_session : List ℕ → InSession
in_session payload = in_session_of (payload_value payload)

-- ---- before a registrar is logged in

-- hello and login alone have their place there
abbrev pub opens : Data → Bool
opens d = says Hello d || says Login d

-- what a login says, or why something else is refused
unfoldable pub credentials_in : Data → Result Credentials FormFault
credentials_in d = do
  _ ← refuse_unless (opens d) UseError
  _ ← checked_command d
  id ← text_at Top Id d
  password ← text_at Top Pw d
  version ← text_at Top Version d
  Ok (record { id = id; password = password; version = version })

abbrev pub login_with : Option (List ℕ) → Result Credentials FormFault → BeforeLogin
login_with cl_trid (Ok credentials) = before.Login cl_trid credentials
login_with cl_trid (Err fault) = before.Refused cl_trid fault

abbrev pub said_before_login : Data → BeforeLogin
said_before_login d = if is_hello d then before.Hello else login_with (cl_trid_in d) (credentials_in d)

abbrev pub before_login_of : Option Data → BeforeLogin
before_login_of None = before.Refused None UseError
before_login_of (Some d) = said_before_login d

-- what a payload says before a registrar is logged in
abbrev pub before_login : List ℕ → BeforeLogin
before_login payload = before_login_of (payload_value payload)
