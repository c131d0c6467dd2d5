-- Which lines of which account are asked for: a registrar, and between which moments (RFC 3986, 3.3 and 3.4).
use Rattle.std.specs.Prelude.{ℕ, ◌+◌, ◌==◌, position, take, drop, length, List, Bool, Option, Some, None, is_some, option_map, option_and_then, unwrap_or, if◌then◌else◌, codes}
use Rattle.std.specs.Str.{bytes_eq, is_utf8}
use Rattle.calendar.specs.Named.{moment_named}
use Rattle.statements.specs.declared.extract.Bounds.{Bounds}
use Rattle.policy.specs.Rules.{PolicyRules, place_of}

-- ---- pieces of a target

abbrev pub is_byte : ℕ → ℕ → Bool
is_byte byte other = other == byte

-- the part before the first such byte, or all
abbrev pub front_of : List ℕ → ℕ → List ℕ
front_of text byte = unwrap_or (option_map (λ at. take at text) (position (is_byte byte) text)) text

-- the part after it, if there is one
abbrev pub behind : List ℕ → ℕ → Option (List ℕ)
behind text byte = option_map (λ at. drop (at + 1) text) (position (is_byte byte) text)

-- what follows a beginning
abbrev pub after : List ℕ → List ℕ → Option (List ℕ)
after front text = if bytes_eq (take (length front) text) front then Some (drop (length front) text) else None

-- the moment, and the registrar, whose text it is; what isn't UTF-8 is none
abbrev pub moment_from_text : List ℕ → Option ℕ
moment_from_text text = if is_utf8 text then moment_named text else None

abbrev pub registrar_from_text : PolicyRules → List ℕ → Option ℕ
registrar_from_text p text = if is_utf8 text then place_of text p else None

-- ---- bounds

abbrev pub no_bounds : Bounds
no_bounds = record { from = None; to = None }

-- each bound is given once
abbrev pub with_from : Option ℕ → Bounds → Option Bounds
with_from None b = None
with_from (Some moment) b = if is_some b.from then None else Some (record b { from = Some moment })

abbrev pub with_to : Option ℕ → Bounds → Option Bounds
with_to None b = None
with_to (Some moment) b = if is_some b.to then None else Some (record b { to = Some moment })

abbrev pub with_bound : Option (List ℕ) → Option (List ℕ) → Bounds → Option Bounds
with_bound (Some from) to b = with_from (moment_from_text from) b
with_bound None (Some to) b = with_to (moment_from_text to) b
with_bound None None b = None

-- a parameter gives a bound
abbrev pub with_parameter : List ℕ → Bounds → Option Bounds
with_parameter text b = with_bound (after (codes "from=") text) (after (codes "to=") text) b

abbrev pub with_second : Option (List ℕ) → Bounds → Option Bounds
with_second None b = Some b
with_second (Some text) b = with_parameter text b

-- one parameter, or two with an ampersand (38) between them; without a query there is no bound
abbrev pub bounds_in : Option (List ℕ) → Option Bounds
bounds_in None = Some no_bounds
bounds_in (Some query) = option_and_then (with_second (behind query 38)) (with_parameter (front_of query 38) no_bounds)

-- ---- an account, and bounds

-- the registrar before the question mark (63)
abbrev pub account_asked : PolicyRules → List ℕ → Option ℕ
account_asked p text = registrar_from_text p (front_of text 63)

-- the bounds after it
abbrev pub bounds_asked : List ℕ → Option Bounds
bounds_asked text = bounds_in (behind text 63)
