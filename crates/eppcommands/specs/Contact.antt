-- What a command on a contact asks for (RFC 5733, 3).
use Rattle.std.specs.Prelude.{Option, Result, Ok}
use Rattle.serde_json.specs.Data.{Data}
use Rattle.objects.specs.declared.contact.Postal as postal
use Rattle.objects.specs.declared.roid.ObjectKind.TheVariants.{Contact}
use Rattle.protocol.specs.declared.form.FormFault.{FormFault}
use Rattle.protocol.specs.declared.command.Request.{Request}
use Rattle.protocol.specs.declared.command.Request.TheVariants.{CheckContact, InfoContact, CreateContact, DeleteContact, UpdateContact, TransferContact}
use Rattle.protocol.specs.declared.transfer.TransferOp.{TransferOp}
use Rattle.eppforms.specs.declared.member.Member.TheVariants as members
use Rattle.eppforms.specs.declared.member.Section.{Section}
use Rattle.eppforms.specs.declared.member.Section.TheVariants.{Top, Postal, Add, Rem, Chg, ChgPostal}
use Rattle.eppforms.specs.Form.{◌>>=◌}
use Rattle.eppforms.specs.Member.{part_at}
use Rattle.eppcommands.specs.Reading.{text_at, maybe_text_at, texts_at, statuses_at, maybe_in}

-- the postal address in a section (RFC 5733, 2.4)
unfoldable pub postal_at : Section → Data → Result postal.Postal FormFault
postal_at section d = do
  name ← text_at section members.Name d
  org ← maybe_text_at section members.Org d
  street ← texts_at section members.Street d
  city ← text_at section members.City d
  sp ← maybe_text_at section members.Sp d
  pc ← maybe_text_at section members.Pc d
  cc ← text_at section members.Cc d
  Ok (record { name = name; org = org; street = street; city = city; sp = sp; pc = pc; cc = cc })

-- the same, where there is one
abbrev pub maybe_postal_at : Section → Data → Result (Option postal.Postal) FormFault
maybe_postal_at section d = maybe_in (λ part. postal_at section d) (part_at section d)

unfoldable pub check_contact : Data → Result Request FormFault
check_contact d = do
  names ← texts_at Top members.Names d
  Ok (CheckContact names)

unfoldable pub info_contact : Data → Result Request FormFault
info_contact d = do
  name ← text_at Top members.Name d
  secret ← maybe_text_at Top members.Secret d
  Ok (InfoContact name secret)

unfoldable pub create_contact : Data → Result Request FormFault
create_contact d = do
  name ← text_at Top members.Name d
  voice ← maybe_text_at Top members.Voice d
  mail ← text_at Top members.Mail d
  secret ← text_at Top members.Secret d
  postal ← postal_at Postal d
  Ok (CreateContact (record { name = name; postal = postal; voice = voice; mail = mail; secret = secret }))

unfoldable pub delete_contact : Data → Result Request FormFault
delete_contact d = do
  name ← text_at Top members.Name d
  Ok (DeleteContact name)

unfoldable pub update_contact : Data → Result Request FormFault
update_contact d = do
  name ← text_at Top members.Name d
  voice ← maybe_text_at Chg members.Voice d
  mail ← maybe_text_at Chg members.Mail d
  secret ← maybe_text_at Chg members.Secret d
  add ← statuses_at Contact Add members.Statuses d
  rem ← statuses_at Contact Rem members.Statuses d
  postal ← maybe_postal_at ChgPostal d
  Ok (UpdateContact (record { name = name; add = add; rem = rem; postal = postal; voice = voice; mail = mail; secret = secret }))

unfoldable pub transfer_contact : TransferOp → Data → Result Request FormFault
transfer_contact op d = do
  name ← text_at Top members.Name d
  secret ← maybe_text_at Top members.Secret d
  Ok (TransferContact name op secret)
