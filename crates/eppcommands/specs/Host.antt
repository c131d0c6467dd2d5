-- What a command on a host asks for (RFC 5732, 3).
use Rattle.std.specs.Prelude.{Result, Ok}
use Rattle.serde_json.specs.Data.{Data}
use Rattle.objects.specs.declared.roid.ObjectKind.TheVariants as kinds
use Rattle.protocol.specs.declared.form.FormFault.{FormFault}
use Rattle.protocol.specs.declared.command.Request.{Request}
use Rattle.protocol.specs.declared.command.Request.TheVariants.{CheckHost, InfoHost, CreateHost, DeleteHost, UpdateHost}
use Rattle.protocol.specs.declared.command.HostLists.{HostLists}
use Rattle.eppforms.specs.declared.member.Member.TheVariants as members
use Rattle.eppforms.specs.declared.member.Section.{Section}
use Rattle.eppforms.specs.declared.member.Section.TheVariants.{Top, Add, Rem, Chg}
use Rattle.eppforms.specs.Form.{◌>>=◌}
use Rattle.eppcommands.specs.Reading.{name_at, maybe_name_at, names_at, addresses_at, statuses_at}

unfoldable pub check_host : Data → Result Request FormFault
check_host d = do
  names ← names_at Top members.Names d
  Ok (CheckHost names)

unfoldable pub info_host : Data → Result Request FormFault
info_host d = do
  name ← name_at Top members.Name d
  Ok (InfoHost name)

unfoldable pub create_host : Data → Result Request FormFault
create_host d = do
  name ← name_at Top members.Name d
  addresses ← addresses_at Top members.Addrs d
  Ok (CreateHost (record { name = name; addresses = addresses }))

unfoldable pub delete_host : Data → Result Request FormFault
delete_host d = do
  name ← name_at Top members.Name d
  Ok (DeleteHost name)

-- what an update adds or removes
unfoldable pub lists_of_host : Section → Data → Result HostLists FormFault
lists_of_host section d = do
  addresses ← addresses_at section members.Addrs d
  statuses ← statuses_at kinds.Host section members.Statuses d
  Ok (record { addresses = addresses; statuses = statuses })

unfoldable pub update_host : Data → Result Request FormFault
update_host d = do
  name ← name_at Top members.Name d
  add ← lists_of_host Add d
  rem ← lists_of_host Rem d
  new_name ← maybe_name_at Chg members.Name d
  Ok (UpdateHost (record { name = name; add = add; rem = rem; new_name = new_name }))
