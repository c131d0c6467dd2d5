-- The text of the answer to an order of the operator.
use Rattle.std.specs.Prelude.{ℕ, List, [], ◌∷◌, Option, Some, option_map, codes}
use Rattle.serde_json.specs.Data.{Data, number, unsigned, string, object}
use Rattle.serde_json.specs.Written.{compact_text}
use Rattle.protocol.specs.Codes.{number_of, message_of}
use Rattle.protocol.specs.declared.code.Code.{Code}
use Rattle.jsonobjects.specs.Members.{members_with}

abbrev pub settled_value : ℕ → Data
settled_value done = object (members_with ((codes "done", Some (number (unsigned done))) ∷ []))

-- with a number of objects where the order counts them; `status` and `deposit` don't
abbrev pub answer_members : Code → Option ℕ → List (List ℕ × Option Data)
answer_members code done =
    (codes "code", Some (number (unsigned (number_of code))))
    ∷ (codes "data", option_map settled_value done)
    ∷ (codes "msg", Some (string (message_of code))) ∷ []

abbrev pub answer_value : Code → Option ℕ → Data
answer_value code done = object (members_with (answer_members code done))

abbrev pub answer_text : Code → Option ℕ → List ℕ
answer_text code done = compact_text (answer_value code done)
