-- The lines of a script: `MOMENT CALLER JSON`.
use Rattle.std.specs.Prelude.{◌≡◌, ℕ, ◌+◌, ◌==◌, position, take, drop, List, Bool, Option, Some, None, option_map, if◌then◌else◌, codes}
use Rattle.std.specs.Str.{bytes_eq, is_utf8}
use Rattle.calendar.specs.Moment.{IsMoment}
use Rattle.calendar.specs.Text.{moment_text}
use Rattle.policy.specs.Rules.{PolicyRules, IsRegistrar, place_of}
use Rattle.script.specs.declared.line.Line.{Line}
use Rattle.script.specs.declared.line.Sender.{Sender}
use Rattle.script.specs.declared.line.Sender.TheVariants.{Registrar, Operator}

-- ---- who sends

abbrev pub registrar_of : Sender → Option ℕ
registrar_of (Registrar r) = Some r
registrar_of Operator = None

-- the operator, or a registrar of the policy
abbrev pub IsKnown : PolicyRules → Sender → Type 0
IsKnown p (Registrar r) = IsRegistrar p r
IsKnown p Operator = Unit {0}

-- who a text names
abbrev pub sender_named : PolicyRules → List ℕ → Option Sender
sender_named p text = if bytes_eq text (codes "operator") then Some Operator else option_map Registrar (place_of text p)

-- who some bytes name; what isn't UTF-8 names nobody
abbrev pub sender_in : PolicyRules → List ℕ → Option Sender
sender_in p bytes = if is_utf8 bytes then sender_named p bytes else None

-- ---- a line

-- what a line asks: somebody sends a payload at a moment
pub record Asked : Type 0 where
  pub moment : ℕ
  pub sender : Sender
  pub payload : List ℕ

abbrev pub asked_by_line : Line → Asked
asked_by_line line = record { moment = line.moment; sender = line.sender; payload = line.payload.now }

abbrev pub is_blank : ℕ → Bool
is_blank byte = byte == 32

-- the parts before and after the first blank
abbrev pub cut : List ℕ → Option (List ℕ × List ℕ)
cut text = option_map (λ index. (take index text, drop (index + 1) text)) (position is_blank text)

-- A line is cut at its first two blanks. All after the second is the payload, whatever it is.
pub record IsLine (p : PolicyRules) (text : List ℕ) (asked : Asked) : Type 0 where
  pub rest : List ℕ
  pub caller : List ℕ
  pub first : cut text ≡ Some (moment_text asked.moment, rest)
  pub second : cut rest ≡ Some (caller, asked.payload)
  pub moment : IsMoment asked.moment
  pub sender : sender_in p caller ≡ Some asked.sender
