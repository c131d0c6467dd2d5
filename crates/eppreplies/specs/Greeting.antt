-- The text of the greeting, which answers hello (RFC 5730, 2.4).
use Rattle.std.specs.Prelude.{ℕ, List, [], ◌∷◌, map, Option, Some, codes}
use Rattle.serde_json.specs.Data.{Data, string, object}
use Rattle.serde_json.specs.Written.{compact_text}
use Rattle.objects.specs.declared.roid.ObjectKind.TheVariants.{Contact, Domain, Host}
use Rattle.protocol.specs.Texts.{object_text}
use Rattle.jsonobjects.specs.Members.{members_with, texts_value, moment_value}

-- the kinds of objects that commands are on
abbrev pub objects_value : Data
objects_value = texts_value (map object_text (Contact ∷ Domain ∷ Host ∷ []))

abbrev pub greeting_members : ℕ → List (List ℕ × Option Data)
greeting_members date =
    (codes "objects", Some objects_value)
    ∷ (codes "server", Some (string (codes "tldreg")))
    ∷ (codes "svDate", Some (moment_value date))
    ∷ (codes "version", Some (string (codes "1.0"))) ∷ []

abbrev pub greeting_value : ℕ → Data
greeting_value date = object (members_with ((codes "greeting", Some (object (members_with (greeting_members date)))) ∷ []))

abbrev pub greeting_text : ℕ → List ℕ
greeting_text date = compact_text (greeting_value date)
