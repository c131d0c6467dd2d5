-- What a request of the operator's asks for: its token (RFC 6750), its method and its target (RFC 9110, 9112).
use Rattle.std.specs.Prelude.{◌≡◌, ℕ, ◌-◌, ◌<◌, ◌≤◌, ◌^◌, Bool, true, false, List, [], ◌∷◌, ◌++◌, drop, take, length, map, if◌then◌else◌, nat_eq, nat_le, bytes_eq, codes, Option, None, Some, SomeIff, ⊤}
use Rattle.std.specs.List.{ends_with, list_all, list_any}
use Rattle.std.specs.Char.{is_ascii_graphic, to_ascii_lowercase}
use Rattle.std.specs.Str.Parse.{IsNumeral, digits_value}
use Rattle.httparse.specs.Grammar.{ReadsRequest, RequestHead, print_request}
use Rattle.httparse.specs.Spans.{name_and_value}
use Rattle.operator.specs.declared.request.Asked.{Asked}
use Rattle.operator.specs.declared.request.Asked.TheVariants.{Order, Zone, Metrics, Statement, Refused}
use Rattle.operator.specs.declared.request.Refusal.TheVariants as refusals
use Rattle.statements.specs.declared.extract.Bounds.{Bounds}
use Rattle.statements.specs.Extracts.{account_asked, after, bounds_asked}
use Rattle.policy.specs.Rules.{PolicyRules}
use Rattle.operator.specs.declared.request.TheConstants.{MOST_BODY, MOST_FIELDS}
use Rattle.operator.specs.declared.token.TheConstants.{LEAST_TOKEN}
use Rattle.operator.specs.declared.token.TokenFault.{TokenFault}
use Rattle.operator.specs.declared.token.TokenFault.TheVariants.{Short, Byte, Memory}

-- ---- fields, as names and values

-- names are compared without regard to case (RFC 9110, 5.1)
abbrev pub is_field_named : List ℕ → List ℕ × List ℕ → Bool
is_field_named name f = bytes_eq (map to_ascii_lowercase f.0) (map to_ascii_lowercase name)

-- the value of the only field of a name
abbrev pub only_value : List ℕ → List (List ℕ × List ℕ) → Option (List ℕ)
only_value name [] = None
only_value name (f ∷ fields) =
    if is_field_named name f then (if list_any (is_field_named name) fields then None else Some f.1) else only_value name fields

-- ---- the token

-- the token of a file is its bytes, without the line feed at their end
abbrev pub token_of : List ℕ → List ℕ
token_of file = if ends_with nat_eq file (10 ∷ []) then take (length file - 1) file else file

-- the fewest bytes of a token
abbrev pub least_token : ℕ
least_token = LEAST_TOKEN

-- what the field Authorization says of a token (RFC 6750, 2.1)
abbrev pub credentials_of : List ℕ → List ℕ
credentials_of token = codes "Bearer " ++ token

-- whether each byte is a letter, a digit or a sign
abbrev pub is_visible_token : List ℕ → Bool
is_visible_token token = list_all is_ascii_graphic token

-- a token that may open the port
abbrev pub IsFit : List ℕ → Type 0
IsFit token = (least_token ≤ length token) × (is_visible_token token ≡ true)

-- why one may not
abbrev pub IsUnfit : List ℕ → TokenFault → Type 0
IsUnfit token Short = length token < least_token
IsUnfit token Byte = (least_token ≤ length token) × (is_visible_token token ≡ false)
IsUnfit token Memory = ⊤

-- whether the only field Authorization says so, whole
abbrev pub says_credentials : List ℕ → Option (List ℕ) → Bool
says_credentials credentials None = false
says_credentials credentials (Some value) = bytes_eq value credentials

abbrev pub bears : List ℕ → List (List ℕ × List ℕ) → Bool
bears credentials fields = says_credentials credentials (only_value (codes "Authorization") fields)

-- ---- the length of the body

-- the most bytes of an order: those of a frame's payload
abbrev pub most_body : ℕ
most_body = MOST_BODY

-- the number of digits, for which 64 bits have room
abbrev pub IsNumber : List ℕ → Option ℕ → Type 0
IsNumber digits number =
    SomeIff number (IsNumeral 10 digits × (digits_value 10 digits < 2 ^ 64)) (digits_value 10 digits)

abbrev pub IsNumberIn : Option (List ℕ) → Option ℕ → Type 0
IsNumberIn None number = number ≡ None
IsNumberIn (Some digits) number = IsNumber digits number

-- the number that the only field Content-Length is (RFC 9110, 8.6)
abbrev pub IsLength : List (List ℕ × List ℕ) → Option ℕ → Type 0
IsLength fields length = IsNumberIn (only_value (codes "Content-Length") fields) length

-- ---- what is asked

-- a body of that length comes; without a length there is none (RFC 9110, 15.5.12 and 15.5.14)
abbrev pub order_of_length : Option ℕ → Asked
order_of_length None = Refused refusals.Length
order_of_length (Some n) = if nat_le n most_body then Order n else Refused refusals.Size

abbrev pub got : List ℕ → Asked → Asked
got method asked = if bytes_eq method (codes "GET") then asked else Refused refusals.OnlyGet

-- the statement of a registrar's account, between moments that read
abbrev pub stated : Option Bounds → ℕ → Asked
stated None r = Refused refusals.Query
stated (Some bounds) r = Statement (record { registrar = r; bounds = bounds })

-- of a registrar of the policy (RFC 9110, 15.5.1)
abbrev pub of_registrar : Option ℕ → Option Bounds → List ℕ → Asked
of_registrar None bounds method = Refused refusals.Target
of_registrar (Some r) bounds method = got method (stated bounds r)

-- what a target of none of the others asks for, by what follows /statement/ in it
abbrev pub elsewhere : PolicyRules → Option (List ℕ) → List ℕ → Asked
elsewhere p None method = Refused refusals.Target
elsewhere p (Some text) method = of_registrar (account_asked p text) (bounds_asked text) method

-- of who has the token, by method and target (RFC 9110, 15.5.5 and 15.5.6)
abbrev pub routed : PolicyRules → List ℕ → List ℕ → Option ℕ → Asked
routed p method target length =
    if bytes_eq target (codes "/orders") then (if bytes_eq method (codes "POST") then order_of_length length else Refused refusals.OnlyPost)
    else (if bytes_eq target (codes "/zone") then got method Zone
    else (if bytes_eq target (codes "/metrics") then got method Metrics
    else elsewhere p (after (codes "/statement/") target) method))

-- who doesn't have it is refused, whatever is asked (RFC 9110, 15.5.2)
abbrev pub asked_by : PolicyRules → Bool → List ℕ → List ℕ → Option ℕ → Asked
asked_by p false method target length = Refused refusals.Token
asked_by p true method target length = routed p method target length

-- what is asked by a head, of who has these credentials
pub record IsAskedBy (p : PolicyRules) (credentials : List ℕ) (h : RequestHead) (asked : Asked) : Type 0 where
  pub length : Option ℕ
  pub in_digits : IsLength (map name_and_value h.fields) length
  pub is : asked ≡ asked_by p (bears credentials (map name_and_value h.fields)) h.method h.target length

-- the most fields of a head
abbrev pub most_head_fields : ℕ
most_head_fields = MOST_FIELDS

-- the bytes begin with a head by which this is asked, and which is so many of them
abbrev pub HasHeadAsking : PolicyRules → List ℕ → List ℕ → Asked → ℕ → Type 0
HasHeadAsking p credentials bytes asked len =
    (h : RequestHead) × ReadsRequest bytes h (drop len bytes) × (len ≡ length (print_request h)) × (len ≤ length bytes)
    × (length h.fields ≤ most_head_fields) × IsAskedBy p credentials h asked

-- they begin with no head of so few fields
abbrev pub HasNoHead : List ℕ → Type 0
HasNoHead bytes = (h : RequestHead) (rest : List ℕ) → ReadsRequest bytes h rest → most_head_fields < length h.fields
