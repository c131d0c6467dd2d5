-- What a well formed command asks for.
use Rattle.std.specs.Prelude.{Result, Ok, Err}
use Rattle.serde_json.specs.Data.{Data}
use Rattle.protocol.specs.declared.form.FormFault.{FormFault}
use Rattle.protocol.specs.declared.form.FormFault.TheVariants.{UseError}
use Rattle.protocol.specs.declared.command.Request.{Request}
use Rattle.protocol.specs.declared.command.Request.TheVariants.{Balance, PollRequest, PollAck, Logout}
use Rattle.eppforms.specs.declared.table.CommandKind.{CommandKind}
use Rattle.eppforms.specs.declared.table.CommandKind.TheVariants as kinds
use Rattle.eppforms.specs.declared.member.Member.TheVariants as members
use Rattle.eppforms.specs.declared.member.Section.TheVariants.{Top}
use Rattle.eppforms.specs.Form.{◌>>=◌, checked_command}
use Rattle.eppcommands.specs.Reading.{text_at}
use Rattle.eppcommands.specs.Contact.{check_contact, info_contact, create_contact, delete_contact, update_contact, transfer_contact}
use Rattle.eppcommands.specs.Domain.{check_domain, info_domain, create_domain, delete_domain, update_domain, renew_domain, request_restore, report_restore, transfer_domain}
use Rattle.eppcommands.specs.Host.{check_host, info_host, create_host, delete_host, update_host}

-- the message that was read (RFC 5730, 2.9.2.3)
unfoldable pub poll_ack : Data → Result Request FormFault
poll_ack d = do
  id ← text_at Top members.Id d
  Ok (PollAck id)

-- hello and login are nothing that a registry is asked
abbrev pub request_of_kind : CommandKind → Data → Result Request FormFault
request_of_kind kinds.Hello d = Err UseError
request_of_kind kinds.Login d = Err UseError
request_of_kind kinds.Logout d = Ok Logout
request_of_kind kinds.Balance d = Ok Balance
request_of_kind kinds.CheckContact d = check_contact d
request_of_kind kinds.CheckDomain d = check_domain d
request_of_kind kinds.CheckHost d = check_host d
request_of_kind kinds.InfoContact d = info_contact d
request_of_kind kinds.InfoDomain d = info_domain d
request_of_kind kinds.InfoHost d = info_host d
request_of_kind kinds.CreateContact d = create_contact d
request_of_kind kinds.CreateDomain d = create_domain d
request_of_kind kinds.CreateHost d = create_host d
request_of_kind kinds.DeleteContact d = delete_contact d
request_of_kind kinds.DeleteDomain d = delete_domain d
request_of_kind kinds.DeleteHost d = delete_host d
request_of_kind kinds.UpdateContact d = update_contact d
request_of_kind kinds.UpdateDomain d = update_domain d
request_of_kind kinds.UpdateHost d = update_host d
request_of_kind kinds.RenewDomain d = renew_domain d
request_of_kind kinds.RequestRestore d = request_restore d
request_of_kind kinds.ReportRestore d = report_restore d
request_of_kind (kinds.TransferContact op) d = transfer_contact op d
request_of_kind (kinds.TransferDomain op) d = transfer_domain op d
request_of_kind kinds.PollRequest d = Ok PollRequest
request_of_kind kinds.PollAck d = poll_ack d

-- the request of a payload's JSON, or the first fault of its form
unfoldable pub request_in : Data → Result Request FormFault
request_in d = do
  command ← checked_command d
  request_of_kind command d
