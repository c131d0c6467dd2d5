-- Dates and moments in members (RFC 3339, 5.6).
use Rattle.std.specs.Prelude.{ℕ, ◌&&◌, Bool, nat_le, List, Result, Ok, ok_or}
use Rattle.serde_json.specs.Data.{Data}
use Rattle.serde_json.specs.Find.{as_str}
use Rattle.calendar.specs.Calendar.{month_length}
use Rattle.calendar.specs.Named.{moment_named}
use Rattle.calendar.specs.Reading.{date_fields}
use Rattle.protocol.specs.declared.form.FormFault.{FormFault}
use Rattle.protocol.specs.declared.form.FormFault.TheVariants.{SyntaxError, ParameterSyntax}
use Rattle.eppforms.specs.Form.{◌>>=◌, refuse_unless}

-- there is such a day in that month of that year
abbrev pub is_day : ℕ × ℕ × ℕ → Bool
is_day date =
    (nat_le 1 date.1 && nat_le date.1 12)
    && (nat_le 1 date.2 && nat_le date.2 (month_length date.0 date.1))

-- the text of a date, `YYYY-MM-DD`
unfoldable pub date_in : Data → Result (List ℕ) FormFault
date_in d = do
  text ← ok_or (as_str d) SyntaxError
  date ← ok_or (date_fields text) ParameterSyntax
  _ ← refuse_unless (is_day date) ParameterSyntax
  Ok text

unfoldable pub moment_in : Data → Result ℕ FormFault
moment_in d = do
  text ← ok_or (as_str d) SyntaxError
  ok_or (moment_named text) ParameterSyntax
