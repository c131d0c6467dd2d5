-- What the bytes of a reply tell.
use Rattle.std.specs.Prelude.{◌+◌, ◌-◌, ◌*◌, ◌%◌, ◌&&◌, ℕ, List, [], ◌∷◌, Bool, bytes_eq, cond, Option, None, Some, codes, length, nat_le, take, drop, fold}
use Rattle.std.specs.List.{list_all}

abbrev pub is_decimal_digit : ℕ → Bool
is_decimal_digit byte = nat_le 48 byte && nat_le byte 57

-- a number of 16 bits with one digit more
abbrev pub with_digit : (number byte : ℕ) → ℕ
with_digit number byte = (number * 10 % 65_536 + (byte - 48)) % 65_536

-- the number that these bytes begin with, of so many digits
unfoldable pub number_of : List ℕ → (digits : ℕ) → Option ℕ
number_of bytes digits =
    cond (nat_le digits (length bytes) && list_all is_decimal_digit (take digits bytes))
    (Some (fold with_digit 0 (take digits bytes))) None

-- the number of so many digits behind the first place where a word is
unfoldable pub number_behind : (word : List ℕ) (digits : ℕ) → List ℕ → Option ℕ
number_behind word digits [] = None
number_behind word digits (byte ∷ bytes) =
    cond (bytes_eq (take (length word) (byte ∷ bytes)) word)
    (number_of (drop (length word) (byte ∷ bytes)) digits)
    (number_behind word digits bytes)

-- the code of a reply: four digits behind the first `"code":` of its first 512 bytes
unfoldable pub reply_code : List ℕ → Option ℕ
reply_code reply = number_behind (codes "\"code\":") 4 (take 512 reply)

-- the code of an answer over HTTP (RFC 9112, section 4): three digits behind `HTTP/1.1 `
abbrev pub http_code_of : List ℕ → Option ℕ
http_code_of answer = cond (nat_le 9 (length answer)) (number_of (drop 9 answer) 3) None
