-- The text of a reply for which no registrar's command is counted.
use Rattle.std.specs.Prelude.{ℕ, List, [], ◌∷◌, Option, Some, option_map, codes}
use Rattle.serde_json.specs.Data.{Data, number, unsigned, string, object}
use Rattle.serde_json.specs.Written.{compact_text}
use Rattle.protocol.specs.Codes.{number_of, message_of}
use Rattle.protocol.specs.declared.code.Code.{Code}
use Rattle.jsonobjects.specs.Members.{members_with}

abbrev pub anonymous_members : Option (List ℕ) → Code → List (List ℕ × Option Data)
anonymous_members cl_trid code =
    (codes "clTRID", option_map string cl_trid)
    ∷ (codes "code", Some (number (unsigned (number_of code))))
    ∷ (codes "msg", Some (string (message_of code)))
    ∷ (codes "svTRID", Some (string (codes "ANON"))) ∷ []

abbrev pub anonymous_value : Option (List ℕ) → Code → Data
anonymous_value cl_trid code = object (members_with (anonymous_members cl_trid code))

abbrev pub anonymous_text : Option (List ℕ) → Code → List ℕ
anonymous_text cl_trid code = compact_text (anonymous_value cl_trid code)
