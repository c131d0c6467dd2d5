-- What an input begins with, from what its first bytes are.
use Rattle.std.proofs.Common.{◌≡◌, ℕ, ◌+◌, ◌-◌, ◌<◌, ◌≤◌, ◌⊎◌, cond, eqb, ltb, Option, Some, None, List, [], ◌∷◌, ◌++◌, length, drop, refl, sym, ap, ◌∙◌, arith, length-append}
use Rattle.std.proofs.lemmas.{List.{take_at, drop_at, append-nil}, Bool.Decides.nat_tests}
use Rattle.std.specs.{Prelude.{◌||◌, IfSome}, Int.{w32, from_be_bytes}, Io.KnownBytes.{Consumes, IsAtEnd}}
use Rattle.frames.specs.Frames.{Ending, closed, cut, bad_length, Front, complete, over, total_of, front, Takes}

abbrev chain : ℕ → ℕ → Front → Front
chain len total it =
    cond (eqb len 0) (over closed) (cond (ltb len 4) (over cut) (cond (ltb total 6 || ltb 65540 total) (over bad_length) (cond (ltb len total) (over cut) it)))

chain_whole : (len total : ℕ) (it : Front) → 6 ≤ total → total ≤ 65540 → total ≤ len → chain len total it ≡ it
chain_whole len total it lo hi fits = grind (arith, nat_tests)

chain_short : (len total : ℕ) (it : Front) → 0 < len → len < 4 → chain len total it ≡ over cut
chain_short len total it lo hi = grind (arith, nat_tests)

chain_bad : (len total : ℕ) (it : Front) → 4 ≤ len → (total < 6) ⊎ (65540 < total) → chain len total it ≡ over bad_length
chain_bad len total it lo out = grind (arith, nat_tests)

chain_cut : (len total : ℕ) (it : Front) → 4 ≤ len → 6 ≤ total → total ≤ 65540 → len < total → chain len total it ≡ over cut
chain_cut len total it four lo hi short = grind (arith, nat_tests)

pub front_whole : (header body rest : List ℕ) (total : ℕ) → length header ≡ 4 → total ≡ from_be_bytes w32 header → 6 ≤ total → total ≤ 65540 → length body + 4 ≡ total
    → front (header ++ (body ++ rest)) ≡ complete body rest
unfolding front
front_whole header body rest total four is lo hi len =
    let input = header ++ (body ++ rest) in
    let t : total_of input ≡ total = ap (from_be_bytes w32) (take_at header (body ++ rest) 4 four) ∙ sym is in
    let long : total_of input ≤ length input = omega (arith, length-append header (body ++ rest), length-append body rest) in
    let n : length body ≡ total_of input - 4 = omega arith in
    let tail : drop 4 input ≡ body ++ rest = drop_at header (body ++ rest) 4 four in
    chain_whole (length input) (total_of input) _ (omega arith) (omega arith) long
    ∙ rw (tail, ← n, take_at body rest (length body) refl, drop_at body rest (length body) refl) refl

pub front_closed : front [] ≡ over closed
unfolding front
front_closed = refl

pub front_short : (input : List ℕ) → 0 < length input → length input < 4 → front input ≡ over cut
unfolding front
front_short input lo hi = chain_short (length input) (total_of input) _ lo hi

pub front_bad : (header rest : List ℕ) (total : ℕ) → length header ≡ 4 → total ≡ from_be_bytes w32 header → (total < 6) ⊎ (65540 < total) → front (header ++ rest) ≡ over bad_length
unfolding front
front_bad header rest total four is out =
    let t : total_of (header ++ rest) ≡ total = ap (from_be_bytes w32) (take_at header rest 4 four) ∙ sym is in
    chain_bad (length (header ++ rest)) (total_of (header ++ rest)) _ (omega (arith, length-append header rest)) (rw t out)

pub front_cut : (header part : List ℕ) (total : ℕ) → length header ≡ 4 → total ≡ from_be_bytes w32 header → 6 ≤ total → total ≤ 65540 → length part + 4 < total → front (header ++ part) ≡ over cut
unfolding front
front_cut header part total four is lo hi short =
    let t : total_of (header ++ part) ≡ total = ap (from_be_bytes w32) (take_at header part 4 four) ∙ sym is in
    let len = length-append header part in
    chain_cut (length (header ++ part)) (total_of (header ++ part)) _ (omega arith) (omega arith) (omega arith) (omega arith)

-- ---- the same of a reader's bytes

pub Takes-from : (a b c : Option (List ℕ)) (header body : List ℕ) (total : ℕ) → Consumes a b header → Consumes b c body
    → length header ≡ 4 → total ≡ from_be_bytes w32 header → 6 ≤ total → total ≤ 65540 → length body + 4 ≡ total → Takes body a c
Takes-from None b c header body total p q four is lo hi len = tt
Takes-from (Some x) None c header body total p q four is lo hi len = absurd p
Takes-from (Some x) (Some y) None header body total p q four is lo hi len = absurd q
Takes-from (Some x) (Some y) (Some z) header body total p q four is lo hi len =
    rw (p, q) (front_whole header body z total four is lo hi len)

-- the reader gave `part` and is at its end
abbrev pub Front-is : Option (List ℕ) → Ending → Type 0
Front-is old ending = IfSome old (λ input. front input ≡ over ending)

pub closed-from : (a b : Option (List ℕ)) (part : List ℕ) → Consumes a b part → length part ≡ 0 → IsAtEnd b → Front-is a closed
closed-from None b part p none end = tt
closed-from (Some x) None part p none end = absurd p
closed-from (Some x) (Some y) [] p none end = rw (p, end) front_closed
closed-from (Some x) (Some y) (b ∷ part) p none end = absurd cc

pub short-from : (a b : Option (List ℕ)) (part : List ℕ) → Consumes a b part → 0 < length part → length part < 4 → IsAtEnd b → Front-is a cut
short-from None b part p lo hi end = tt
short-from (Some x) None part p lo hi end = absurd p
short-from (Some x) (Some y) part p lo hi end = rw (p, end, append-nil part) (front_short part lo hi)

pub bad-from : (a b : Option (List ℕ)) (header : List ℕ) (total : ℕ) → Consumes a b header → length header ≡ 4 → total ≡ from_be_bytes w32 header → (total < 6) ⊎ (65540 < total) → Front-is a bad_length
bad-from None b header total p four is out = tt
bad-from (Some x) None header total p four is out = absurd p
bad-from (Some x) (Some y) header total p four is out = rw p (front_bad header y total four is out)

pub cut-from : (a b c : Option (List ℕ)) (header part : List ℕ) (total : ℕ) → Consumes a b header → Consumes b c part → IsAtEnd c
    → length header ≡ 4 → total ≡ from_be_bytes w32 header → 6 ≤ total → total ≤ 65540 → length part + 4 < total → Front-is a cut
cut-from None b c header part total p q end four is lo hi short = tt
cut-from (Some x) None c header part total p q end four is lo hi short = absurd p
cut-from (Some x) (Some y) None header part total p q end four is lo hi short = absurd q
cut-from (Some x) (Some y) (Some z) header part total p q end four is lo hi short =
    rw (p, q, end, append-nil part) (front_cut header part total four is lo hi short)
