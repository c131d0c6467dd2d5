-- What a command on a domain asks for (RFC 5731, 3).
use Rattle.std.specs.Prelude.{Result, Ok}
use Rattle.serde_json.specs.Data.{Data}
use Rattle.objects.specs.declared.roid.ObjectKind.TheVariants as kinds
use Rattle.protocol.specs.declared.form.FormFault.{FormFault}
use Rattle.protocol.specs.declared.command.Request.{Request}
use Rattle.protocol.specs.declared.command.Request.TheVariants.{CheckDomain, InfoDomain, CreateDomain, DeleteDomain, UpdateDomain, RenewDomain, RequestRestore, ReportRestore, TransferDomain}
use Rattle.protocol.specs.declared.transfer.TransferOp.{TransferOp}
use Rattle.protocol.specs.declared.command.DomainLists.{DomainLists}
use Rattle.eppforms.specs.declared.member.Member.TheVariants as members
use Rattle.eppforms.specs.declared.member.Section.{Section}
use Rattle.eppforms.specs.declared.member.Section.TheVariants.{Top, Add, Rem, Chg}
use Rattle.eppforms.specs.Form.{◌>>=◌}
use Rattle.eppcommands.specs.Reading.{name_at, names_at, text_at, maybe_text_at, texts_at, statuses_at, years_at, date_at, moment_at}

unfoldable pub check_domain : Data → Result Request FormFault
check_domain d = do
  names ← names_at Top members.Names d
  Ok (CheckDomain names)

unfoldable pub info_domain : Data → Result Request FormFault
info_domain d = do
  name ← name_at Top members.Name d
  secret ← maybe_text_at Top members.Secret d
  Ok (InfoDomain name secret)

unfoldable pub create_domain : Data → Result Request FormFault
create_domain d = do
  name ← name_at Top members.Name d
  years ← years_at Top members.Years d
  registrant ← text_at Top members.Registrant d
  secret ← text_at Top members.Secret d
  admin ← texts_at Top members.Admin d
  tech ← texts_at Top members.Tech d
  hosts ← names_at Top members.Hosts d
  Ok (CreateDomain (record { name = name; years = years; registrant = registrant; admin = admin; tech = tech; hosts = hosts; secret = secret }))

unfoldable pub delete_domain : Data → Result Request FormFault
delete_domain d = do
  name ← name_at Top members.Name d
  Ok (DeleteDomain name)

-- what an update adds or removes
unfoldable pub lists_of_domain : Section → Data → Result DomainLists FormFault
lists_of_domain section d = do
  hosts ← names_at section members.Hosts d
  admin ← texts_at section members.Admin d
  tech ← texts_at section members.Tech d
  statuses ← statuses_at kinds.Domain section members.Statuses d
  Ok (record { hosts = hosts; admin = admin; tech = tech; statuses = statuses })

unfoldable pub update_domain : Data → Result Request FormFault
update_domain d = do
  name ← name_at Top members.Name d
  registrant ← maybe_text_at Chg members.Registrant d
  secret ← maybe_text_at Chg members.Secret d
  add ← lists_of_domain Add d
  rem ← lists_of_domain Rem d
  Ok (UpdateDomain (record { name = name; add = add; rem = rem; registrant = registrant; secret = secret }))

unfoldable pub renew_domain : Data → Result Request FormFault
renew_domain d = do
  name ← name_at Top members.Name d
  expires ← date_at Top members.Expires d
  years ← years_at Top members.Years d
  Ok (RenewDomain name expires years)

-- ---- restoration (RFC 3915, 4.2.5)

unfoldable pub request_restore : Data → Result Request FormFault
request_restore d = do
  name ← name_at Top members.Name d
  Ok (RequestRestore name)

unfoldable pub report_restore : Data → Result Request FormFault
report_restore d = do
  name ← name_at Top members.Name d
  del_time ← moment_at Top members.DelTime d
  res_time ← moment_at Top members.ResTime d
  Ok (ReportRestore name del_time res_time)

-- ---- transfers (RFC 5731, 3.1.3 and 3.2.4)

unfoldable pub transfer_domain : TransferOp → Data → Result Request FormFault
transfer_domain op d = do
  name ← name_at Top members.Name d
  secret ← maybe_text_at Top members.Secret d
  Ok (TransferDomain name op secret)
