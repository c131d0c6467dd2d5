-- The canonical text of a name.
use Rattle.std.specs.Prelude.{◌≡◌, ℕ, Bool, true, false, ◌&&◌, if◌then◌else◌, List, length, Option, Some, Result, Ok, Err}
use Rattle.std.specs.Int.{is_in_range}
use Rattle.std.specs.Str.{bytes_eq}
use Rattle.idna.specs.declared.deny_list.TheConstants.AsciiDenyList.{STD3}
use Rattle.idna.specs.declared.options.Hyphens.TheVariants.{Allow}
use Rattle.idna.specs.declared.options.DnsLength.TheVariants.{Ignore}
use Rattle.idna.specs.Uts46.{to_ascii, to_unicode}
use Rattle.names.specs.declared.fault.NameFault.{NameFault}
use Rattle.names.specs.declared.fault.NameFault.TheVariants.{Syntax}
use Rattle.names.specs.Labels.{is_label, is_name}
use Rattle.names.specs.Reading.{◌>>=◌, or_syntax}

-- ToASCII of UTS #46, 4.2, with no ASCII but letters, digits, hyphens and full stops
abbrev pub ascii_of : List ℕ → Option (List ℕ)
ascii_of text = to_ascii STD3 Allow Ignore text

-- ToUnicode of UTS #46, 4.3, with the same flags
abbrev pub unicode_of : List ℕ → Option (List ℕ)
unicode_of name = to_unicode STD3 Allow name

-- ToASCII gives the name itself
abbrev pub IsStable : List ℕ → Type 0
IsStable name = ascii_of name ≡ Some name

-- a canonical text: ToASCII gives it itself, and it keeps the rule of names
pub record IsCanonical (name : List ℕ) : Type 0 where
  pub stable : IsStable name
  pub is_name : is_name name ≡ true

-- the canonical text of a name: of 1 to 1000 bytes, in ASCII, by the rule of names
unfoldable pub canonical : List ℕ → Result (List ℕ) NameFault
canonical text = do
  name ← if is_in_range 1 1000 (length text) then or_syntax (ascii_of text) else Err Syntax
  if is_name name then Ok name else Err Syntax

abbrev pub is_ok_at : List ℕ → Result (List ℕ) NameFault → Bool
is_ok_at text (Ok name) = bytes_eq name text
is_ok_at text (Err fault) = false

-- one label, whose canonical text is the label itself
unfoldable pub reads_as_itself : List ℕ → Bool
reads_as_itself text = is_label text && is_ok_at text (canonical text)
