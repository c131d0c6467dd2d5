-- The statement of an account: a row for each line, with the balance after it (RFC 4180).
use Rattle.std.specs.Prelude.{ℕ, ℤ, pos, ◌+ℤ◌, nat_le, nat_lt, ◌&&◌, if◌then◌else◌, Bool, true, List, [], ◌∷◌, ◌++◌, codes, decimal, Option, Some, None}
use Rattle.std.specs.Cmp.Lexicographic.{slice_cmp}
use Rattle.std.specs.Fmt.{signed_decimal}
use Rattle.std.specs.Ordering.{nat_cmp}
use Rattle.basis.specs.Bag.{bag_of, precedes}
use Rattle.calendar.specs.Text.{moment_text}
use Rattle.objects.specs.Roid.{roid_text}
use Rattle.objects.specs.declared.roid.Roid.{Roid}
use Rattle.accounts.specs.declared.line.Line.{Line}
use Rattle.accounts.specs.declared.line.LineKind.{LineKind}
use Rattle.accounts.specs.declared.line.LineKind.TheVariants as kinds
use Rattle.accounts.specs.Lines.{amount, numbers}
use Rattle.statements.specs.declared.extract.Bounds.{Bounds}

-- ---- in time

-- the numbers that tell a line from any other, its moment first
unfoldable pub place : Line → List ℕ
place l = l.recorded ∷ numbers l

unfoldable pub precedes_in_time : Line → Line → Bool
precedes_in_time a b = precedes (slice_cmp nat_cmp) (place a) (place b)

-- the lines of an account, by their moments
abbrev pub by_moment : List Line → List Line
by_moment lines = bag_of precedes_in_time lines

-- ---- within bounds

abbrev pub is_from : Option ℕ → ℕ → Bool
is_from None moment = true
is_from (Some from) moment = nat_le from moment

abbrev pub is_before : Option ℕ → ℕ → Bool
is_before None moment = true
is_before (Some to) moment = nat_lt moment to

abbrev pub is_within : Bounds → ℕ → Bool
is_within b moment = is_from b.from moment && is_before b.to moment

-- ---- rows

abbrev pub kind_word : LineKind → List ℕ
kind_word kinds.Deposit = codes "deposit"
kind_word kinds.Create = codes "create"
kind_word kinds.Renew = codes "renew"
kind_word kinds.AutoRenew = codes "automatic renewal"
kind_word kinds.Transfer = codes "transfer"
kind_word kinds.Restore = codes "restore"

-- the domain's identifier, or nothing
abbrev pub roid_or_empty : Option Roid → List ℕ
roid_or_empty None = []
roid_or_empty (Some roid) = roid_text roid

-- the pieces, one after the other
abbrev pub joined : List (List ℕ) → List ℕ
joined [] = []
joined (piece ∷ pieces) = piece ++ joined pieces

abbrev pub heading : List ℕ
heading = codes "moment,kind,object,years,cents,balance\r\n"

-- a line, with the balance after it; no field has a comma, a quote or an end of a line
abbrev pub row : Line → ℤ → List ℕ
row l balance = joined (
    moment_text l.recorded ∷ codes "," ∷ kind_word l.kind ∷ codes "," ∷ roid_or_empty l.roid ∷ codes ","
    ∷ decimal l.years ∷ codes "," ∷ signed_decimal (amount l) ∷ codes "," ∷ signed_decimal balance ∷ codes "\r\n" ∷ []
    )

-- if it was recorded within the bounds
abbrev pub row_within : Bounds → Line → ℤ → List ℕ
row_within b l balance = if is_within b l.recorded then row l balance else []

-- a row for each line within the bounds, after so many cents
unfoldable pub rows : Bounds → ℤ → List Line → List ℕ
rows b balance [] = []
rows b balance (l ∷ ls) = row_within b l (balance +ℤ amount l) ++ rows b (balance +ℤ amount l) ls

-- the statement of an account's lines
abbrev pub statement : Bounds → List Line → List ℕ
statement b lines = heading ++ rows b (pos 0) (by_moment lines)
