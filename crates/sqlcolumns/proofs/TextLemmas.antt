-- Lists are read from their texts.
use Rattle.std.proofs.Common.{rules, ◌≡◌, ℕ, zero, suc, eqb, Bool, true, false, cond, ◌||◌, List, [], ◌∷◌, ◌++◌, map, length, get_or, ◌+◌, ◌<◌, Bor, ap₂, arith, Option, Some, None, refl, sym, ap, ◌∙◌, append-nil}
use Rattle.std.proofs.lemmas.{Bool.{or_parts, Decides.Decides-eqb}, Slice.Eq.bytes_eq-Decides, List.{map-append, map-id}}
use Rattle.std.proofs.lemmas.List.Splits.{join_with_byte-slice_split, length-slice_split, slice_split-cons_yes}
use Rattle.std.specs.{Str.bytes_eq, List.{count_by, join_by, join_with_byte, list_any, onto_first, slice_split}}
use Rattle.objects.specs.{StatusTexts.{status_named, status_text}, declared.status.Status.Status, Statuses.all_statuses}
use Rattle.sqlcolumns.specs.Steps.{◌>>=◌}
use Rattle.sqlcolumns.specs.Texts.{has_feed, statuses_column, statuses_in, statuses_named, street_column, street_in}
use Rattle.sqlcolumns.proofs.ReadLemmas.{found_passes, same_some, step}

-- ---- written

pub joined_is : (c : ℕ) (pieces : List (Bor (List ℕ))) → join_by (λ p. p.now) (c ∷ []) pieces ≡ join_with_byte c (map (λ p. p.now) pieces)
joined_is c [] = refl
joined_is c (x ∷ []) = append-nil x.now
joined_is c (x ∷ y ∷ ys) = ap (λ (t : List ℕ). x.now ++ c ∷ t) (joined_is c (y ∷ ys))

pub street_joined : (lines : List (List ℕ)) (pieces : List (Bor (List ℕ))) → eqb (length lines) 0 ≡ false → list_any has_feed lines ≡ false → map (λ p. p.now) pieces ≡ map (λ line. line) lines → street_column lines ≡ Some (join_by (λ p. p.now) (10 ∷ []) pieces)
street_joined [] pieces some free same = cc
street_joined (x ∷ xs) pieces some free same = let named : map (λ p. p.now) pieces ≡ x ∷ xs = same ∙ map-id (x ∷ xs) in rw (free, joined_is 10 pieces, named)

-- ---- cut

abbrev is : ℕ → ℕ → Bool
is c b = eqb b c

abbrev IsFree : ℕ → List ℕ → Type 0
IsFree c text = list_any (is c) text ≡ false

split-first : (c : ℕ) (piece rest : List ℕ) → IsFree c piece → slice_split (is c) (piece ++ c ∷ rest) ≡ piece ∷ slice_split (is c) rest
split-first c [] rest free = slice_split-cons_yes (is c) c rest ((Decides-eqb c c).1 refl)
split-first c (b ∷ bs) rest free = let both = or_parts (is c b) (list_any (is c) bs) free in rw (both.0, split-first c bs rest both.1)

split-last : (c : ℕ) (piece : List ℕ) → IsFree c piece → slice_split (is c) piece ≡ piece ∷ []
split-last c [] free = refl
split-last c (b ∷ bs) free = let both = or_parts (is c b) (list_any (is c) bs) free in rw (both.0, split-last c bs both.1)

-- pieces without the byte are the pieces of their text
split-joined : (c : ℕ) (x : List ℕ) (xs : List (List ℕ)) → list_any (list_any (is c)) (x ∷ xs) ≡ false → slice_split (is c) (join_with_byte c (x ∷ xs)) ≡ x ∷ xs
split-joined c x [] free = split-last c x (or_parts (list_any (is c) x) false free).0
split-joined c x (y ∷ ys) free =
    let both = or_parts (list_any (is c) x) (list_any (list_any (is c)) (y ∷ ys)) free in
    split-first c x (join_with_byte c (y ∷ ys)) both.0 ∙ ap (λ rest. x ∷ rest) (split-joined c y ys both.1)

-- ---- streets

street_pieces : (text joined : List ℕ) (feeds : Bool) → cond feeds None (Some joined) ≡ Some text → (joined ≡ text) × (feeds ≡ false)
street_pieces text joined true e = cc
street_pieces text joined false e = (same_some joined text e, refl)

-- what was written is read back
pub street_back : (xs : List (List ℕ)) (text : List ℕ) → street_column xs ≡ Some text → street_in text ≡ xs
street_back [] text e = cc
street_back (x ∷ xs) text e =
    let pieces = street_pieces text (join_with_byte 10 (x ∷ xs)) (list_any has_feed (x ∷ xs)) e in
    ap (slice_split (is 10)) (sym pieces.0) ∙ split-joined 10 x xs pieces.1

any-onto : (c b : ℕ) (pieces : List (List ℕ)) → list_any (list_any (is c)) pieces ≡ false → list_any (list_any (is c)) (cond (is c b) ([] ∷ pieces) (onto_first b pieces)) ≡ false
any-onto c b [] free = grind arith
any-onto c b (p ∷ ps) free = grind (arith, free)

-- no piece has the byte
pieces-free : (c : ℕ) (text : List ℕ) → list_any (list_any (is c)) (slice_split (is c) text) ≡ false
pieces-free c [] = refl
pieces-free c (b ∷ bs) = any-onto c b (slice_split (is c) bs) (pieces-free c bs)

street_of : (text : List ℕ) (pieces : List (List ℕ)) (n : ℕ) → length pieces ≡ n + 1 → list_any has_feed pieces ≡ false → join_with_byte 10 pieces ≡ text → street_column pieces ≡ Some text
street_of text [] n some free same = absurd (omega arith)
street_of text (p ∷ ps) n some free same = ap (λ t. cond t None (Some (join_with_byte 10 (p ∷ ps)))) free ∙ ap Some same

-- what is read was written so
pub street_written : (text : List ℕ) → street_column (street_in text) ≡ Some text
street_written text =
    street_of text (slice_split (is 10) text) (count_by (is 10) text) (length-slice_split (is 10) text) (pieces-free 10 text) (join_with_byte-slice_split 10 text)

-- ---- statuses

status_free : (s : Status) → IsFree 32 (status_text s)
status_free s = search rules

status_back : (s : Status) → status_named (status_text s) ≡ Some s
status_back s = search rules

words-free : (xs : List Status) → list_any (list_any (is 32)) (map status_text xs) ≡ false
words-free [] = refl
words-free (x ∷ xs) = ap (λ t. t || list_any (list_any (is 32)) (map status_text xs)) (status_free x) ∙ words-free xs

statuses_split : (text : List ℕ) (x : Status) (xs : List Status) → text ≡ statuses_column (x ∷ xs) → slice_split (is 32) text ≡ map status_text (x ∷ xs)
statuses_split text x xs e = ap (slice_split (is 32)) e ∙ split-joined 32 (status_text x) (map status_text xs) (words-free (x ∷ xs))

status_word : (word : List ℕ) (s : Status) → status_named word ≡ Some s → word ≡ status_text s
status_word word s e = sym ((bytes_eq-Decides (status_text s) word).0 (found_passes (λ x. bytes_eq (status_text x) word) all_statuses s e))

texts_named : (xs : List Status) → statuses_named (map status_text xs) ≡ Some xs
texts_named [] = refl
texts_named (x ∷ xs) = λ i. status_back x i >>= (λ s. texts_named xs i >>= (λ ss. Some (s ∷ ss)))

words_of : (words : List (List ℕ)) (xs : List Status) → statuses_named words ≡ Some xs → words ≡ map status_text xs
words_of [] xs e = ap (map status_text) (same_some [] xs e)
words_of (word ∷ words) xs e =
    let first = step (status_named word) (λ s. statuses_named words >>= (λ ss. Some (s ∷ ss))) xs e in
    let others = step (statuses_named words) (λ ss. Some (first.given ∷ ss)) xs first.rest in
    ap₂ ◌∷◌ (status_word word first.given first.is) (words_of words others.given others.is)
    ∙ ap (map status_text) (same_some (first.given ∷ others.given) xs others.rest)

back_by : (text : List ℕ) (x : Status) (xs : List Status) → statuses_column (x ∷ xs) ≡ text → statuses_in text ≡ Some (x ∷ xs)
back_by [] x xs e =
    let split : [] ∷ [] ≡ status_text x ∷ map status_text xs = statuses_split [] x xs (sym e) in
    let word : [] ≡ status_text x = cc in
    let none : None ≡ Some x = ap status_named word ∙ status_back x in
    cc
back_by (b ∷ bs) x xs e = ap statuses_named (statuses_split (b ∷ bs) x xs (sym e)) ∙ texts_named (x ∷ xs)

-- what was written is read back
pub statuses_back : (xs : List Status) → statuses_in (statuses_column xs) ≡ Some xs
statuses_back [] = refl
statuses_back (x ∷ xs) = back_by (statuses_column (x ∷ xs)) x xs refl

-- what is read was written so
pub statuses_written : (text : List ℕ) (xs : List Status) → statuses_in text ≡ Some xs → statuses_column xs ≡ text
statuses_written [] xs e = sym (ap statuses_column (same_some [] xs e))
statuses_written (b ∷ bs) xs e =
    ap (join_with_byte 32) (sym (words_of (slice_split (is 32) (b ∷ bs)) xs e)) ∙ join_with_byte-slice_split 32 (b ∷ bs)

-- ---- cut and named

pub empty_in : (text : List ℕ) → eqb (length text) 0 ≡ true → Some [] ≡ statuses_in text
empty_in [] short = refl
empty_in (b ∷ bs) short = let zero : length (b ∷ bs) ≡ 0 = (Decides-eqb (length (b ∷ bs)) 0).0 short in absurd (omega arith)

pub filled_in : (text : List ℕ) → eqb (length text) 0 ≡ false → statuses_named (slice_split (is 32) text) ≡ statuses_in text
filled_in [] long = cc
filled_in (b ∷ bs) long = refl

-- the texts so far, and one more
pub named_more : (words : List (Bor (List ℕ))) (word : Bor (List ℕ)) (statuses : List Status) (s : Status) → map status_text statuses ≡ map (λ w. w.now) words → Some s ≡ status_named word.now → map status_text (statuses ++ s ∷ []) ≡ map (λ w. w.now) (words ++ word ∷ [])
named_more words word statuses s e named =
    map-append status_text statuses (s ∷ []) ∙ ap₂ ◌++◌ e (ap (λ t. t ∷ []) (sym (status_word word.now s (sym named)))) ∙ sym (map-append (λ (w : Bor (List ℕ)). w.now) words (word ∷ []))

-- where one names none, they are no list's
pub none_named : (words : List (List ℕ)) (word : List ℕ) (i : ℕ) → (i < length words) × (word ≡ get_or words i word) → None ≡ status_named word → None ≡ statuses_named words
none_named [] word i at none = let within : i < 0 = at.0 in absurd (omega arith)
none_named (w ∷ ws) word zero at none = rw (← at.1, ← none)
none_named (w ∷ ws) word (suc i) at none =
    let within : suc i < suc (length ws) = at.0 in
    rw (← (none_named ws word i ((omega arith), at.1) none)) (elim (status_named w) as (λ (o : Option Status). ◌≡◌ {A = Option (List Status)} None (o >>= (λ s. None))) [ None ↦ refl | Some s ↦ refl ])

-- where they are the texts of statuses, they name these
pub all_named : (words : List (List ℕ)) (xs : List Status) → map status_text xs ≡ words → Some xs ≡ statuses_named words
all_named words xs e = sym (texts_named xs) ∙ ap statuses_named e
