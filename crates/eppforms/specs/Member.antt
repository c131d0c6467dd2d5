-- The members of commands and orders, and their sections.
use Rattle.std.specs.Prelude.{ℕ, Bool, true, false, List, Option, Some, option_and_then, codes}
use Rattle.serde_json.specs.Data.{Data}
use Rattle.serde_json.specs.Find.{get, as_str}
use Rattle.eppforms.specs.declared.member.Member.{Member}
use Rattle.eppforms.specs.declared.member.Member.TheVariants as members
use Rattle.eppforms.specs.declared.member.Section.{Section}
use Rattle.eppforms.specs.declared.member.Section.TheVariants.{Top, Postal, Add, Rem, Chg, ChgPostal}
use Rattle.eppforms.specs.declared.table.Field.{Field}

abbrev pub member_text : Member → List ℕ
member_text members.Cmd = codes "cmd"
member_text members.Obj = codes "obj"
member_text members.Op = codes "op"
member_text members.Id = codes "id"
member_text members.ClTrid = codes "clTRID"
member_text members.Pw = codes "pw"
member_text members.Version = codes "version"
member_text members.Name = codes "name"
member_text members.Names = codes "names"
member_text members.Years = codes "years"
member_text members.Registrant = codes "registrant"
member_text members.Admin = codes "admin"
member_text members.Tech = codes "tech"
member_text members.Hosts = codes "hosts"
member_text members.Secret = codes "secret"
member_text members.Postal = codes "postal"
member_text members.Add = codes "add"
member_text members.Rem = codes "rem"
member_text members.Chg = codes "chg"
member_text members.Addrs = codes "addrs"
member_text members.Statuses = codes "statuses"
member_text members.Voice = codes "voice"
member_text members.Mail = codes "mail"
member_text members.Org = codes "org"
member_text members.Street = codes "street"
member_text members.City = codes "city"
member_text members.Sp = codes "sp"
member_text members.Pc = codes "pc"
member_text members.Cc = codes "cc"
member_text members.Expires = codes "expires"
member_text members.Pre = codes "pre"
member_text members.Post = codes "post"
member_text members.DelTime = codes "delTime"
member_text members.ResTime = codes "resTime"
member_text members.Reason = codes "reason"
member_text members.Statements = codes "statements"
member_text members.Order = codes "order"
member_text members.Registrar = codes "registrar"
member_text members.Cents = codes "cents"
member_text members.AtMost = codes "at_most"

abbrev pub is_section : Section → Section → Bool
is_section Top Top = true
is_section Postal Postal = true
is_section Add Add = true
is_section Rem Rem = true
is_section Chg Chg = true
is_section ChgPostal ChgPostal = true
is_section _ _ = false

-- the value of a member
abbrev pub member_at : Member → Data → Option Data
member_at m d = get (member_text m) d

-- the text of a member
abbrev pub word_at : Member → Data → Option (List ℕ)
word_at m d = option_and_then as_str (member_at m d)

-- the part of a command that a section is
abbrev pub part_at : Section → Data → Option Data
part_at Top d = Some d
part_at Postal d = member_at members.Postal d
part_at Add d = member_at members.Add d
part_at Rem d = member_at members.Rem d
part_at Chg d = member_at members.Chg d
part_at ChgPostal d = option_and_then (member_at members.Postal) (member_at members.Chg d)

-- the value of a member in a section
abbrev pub value_at : Section → Member → Data → Option Data
value_at section m d = option_and_then (member_at m) (part_at section d)

-- the value of a field
abbrev pub value_of : Field → Data → Option Data
value_of f d = value_at f.section f.member d
