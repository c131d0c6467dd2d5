-- Lists as one text.
use Rattle.std.specs.Prelude.{ℕ, ◌==◌, Bool, List, [], ◌∷◌, map, Option, Some, None, if◌then◌else◌}
use Rattle.std.specs.List.{join_with_byte, list_any, slice_split}
use Rattle.objects.specs.StatusTexts.{status_named, status_text}
use Rattle.objects.specs.declared.status.Status.{Status}
use Rattle.sqlcolumns.specs.Steps.{◌>>=◌}

-- the statuses' texts, with a blank between them
abbrev pub statuses_column : List Status → List ℕ
statuses_column statuses = join_with_byte 32 (map status_text statuses)

abbrev pub has_feed : List ℕ → Bool
has_feed line = list_any (λ b. b == 10) line

-- lines without a line feed, of which there is at least one, with a line feed between them
abbrev pub street_column : List (List ℕ) → Option (List ℕ)
street_column [] = None
street_column (line ∷ lines) = if list_any has_feed (line ∷ lines) then None else Some (join_with_byte 10 (line ∷ lines))

-- ---- read

-- the statuses that the words name, if each names one
abbrev pub statuses_named : List (List ℕ) → Option (List Status)
statuses_named [] = Some []
statuses_named (word ∷ words) = do
  status ← status_named word
  statuses ← statuses_named words
  Some (status ∷ statuses)

-- the statuses of the words between blanks; an empty text is that of none
abbrev pub statuses_in : List ℕ → Option (List Status)
statuses_in [] = Some []
statuses_in (b ∷ bs) = statuses_named (slice_split (λ c. c == 32) (b ∷ bs))

-- the lines between line feeds, of which there is at least one
abbrev pub street_in : List ℕ → List (List ℕ)
street_in text = slice_split (λ b. b == 10) text
