-- What the kinds of members ask of a value.
use Rattle.std.specs.Prelude.{ℕ, ◌&&◌, ◌||◌, ◌==◌, Bool, true, false, not, suc, nat_le, List, [], ◌∷◌, length, take, drop, position, is_some, Option, Some, None, option_and_then}
use Rattle.std.specs.List.{list_all}
use Rattle.serde_json.specs.Data.{Data, Items, no_items, item}
use Rattle.serde_json.specs.Find.{as_str, as_number, as_array, as_object, as_u64, is_float}
use Rattle.eppforms.specs.declared.kind.Limits.{Limits}
use Rattle.eppforms.specs.declared.kind.Shape.{Shape}
use Rattle.eppforms.specs.declared.kind.Shape.TheVariants.{Line, Printable, Handle, Country, Voice}
use Rattle.eppforms.specs.declared.kind.Kind.{Kind}
use Rattle.eppforms.specs.declared.kind.Kind.TheVariants.{Text, Texts, Whole, Parts}

-- there is a value, and the test holds of it
abbrev pub some_and : {A : Type 0} → (A → Bool) → Option A → Bool
some_and test None = false
some_and test (Some x) = test x

abbrev pub within : Limits → ℕ → Bool
within limits n = nat_le limits.least n && nat_le n limits.most

abbrev pub is_alphanumeric : ℕ → Bool
is_alphanumeric b = (nat_le 48 b && nat_le b 57) || (nat_le 65 b && nat_le b 90) || (nat_le 97 b && nat_le b 122)

-- which bytes a shape allows: a line has no control character of ASCII
abbrev pub byte_fits : Shape → ℕ → Bool
byte_fits Line b = nat_le 32 b && not (b == 127)
byte_fits Printable b = nat_le 33 b && nat_le b 126
byte_fits Handle b = is_alphanumeric b || b == 45
byte_fits _ b = true

abbrev pub is_capital : ℕ → Bool
is_capital b = nat_le 65 b && nat_le b 90

-- a country's code: two capitals (RFC 5733, 2.4)
abbrev pub is_country : List ℕ → Bool
is_country (a ∷ b ∷ []) = is_capital a && is_capital b
is_country _ = false

abbrev pub is_digit : ℕ → Bool
is_digit b = nat_le 48 b && nat_le b 57

-- one to so many digits
abbrev pub is_number : ℕ → List ℕ → Bool
is_number most text = within (record { least = 1; most = most }) (length text) && list_all is_digit text

abbrev pub is_separator : ℕ → Bool
is_separator b = b == 46

-- what comes before the first dot is a country's number, what follows it a subscriber's
abbrev pub is_dialled : List ℕ → Bool
is_dialled text = some_and (λ dot. is_number 3 (take dot text) && is_number 14 (drop (suc dot) text)) (position is_separator text)

-- a telephone number: plus, up to three digits, a dot, up to fourteen digits (RFC 5733, 2.5)
abbrev pub is_voice : List ℕ → Bool
is_voice [] = false
is_voice (b ∷ rest) = b == 43 && is_dialled rest

abbrev pub text_fits : Shape → List ℕ → Bool
text_fits Country text = is_country text
text_fits Voice text = is_voice text
text_fits shape text = list_all (byte_fits shape) text

abbrev pub is_string : Data → Bool
is_string d = is_some (as_str d)

abbrev pub text_within : Limits → Data → Bool
text_within len d = some_and (λ t. within len (length t)) (as_str d)

abbrev pub text_shaped : Shape → Data → Bool
text_shaped shape d = some_and (text_fits shape) (as_str d)

-- the items as a list
abbrev pub items_list : Items → List Data
items_list no_items = []
items_list (item d ds) = d ∷ items_list ds

-- what a test says of an array's items, false of what is no array
abbrev pub of_items : (List Data → Bool) → Data → Bool
of_items test d = some_and (λ ds. test (items_list ds)) (as_array d)

-- the JSON type
abbrev pub has_type : Kind → Data → Bool
has_type (Text len shape) d = is_string d
has_type (Texts count len shape) d = of_items (list_all is_string) d
has_type (Whole limits) d = some_and (λ n. not (is_float n)) (as_number d)
has_type Parts d = is_some (as_object d)

-- the length, the count or the number
abbrev pub in_range : Kind → Data → Bool
in_range (Text len shape) d = text_within len d
in_range (Texts count len shape) d = of_items (λ ds. within count (length ds) && list_all (text_within len) ds) d
in_range (Whole limits) d = some_and (within limits) (option_and_then as_u64 (as_number d))
in_range Parts d = true

-- the shape of a text
abbrev pub has_shape : Kind → Data → Bool
has_shape (Text len shape) d = text_shaped shape d
has_shape (Texts count len shape) d = of_items (list_all (text_shaped shape)) d
has_shape (Whole limits) d = true
has_shape Parts d = true
