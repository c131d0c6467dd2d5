-- What the moves of one call join to.
use Rattle.std.proofs.Common.{◌≡◌, ℕ, ◌+◌, ◌-◌, ◌≤◌, min, Option, List, ◌++◌, length, take, drop, slice_range, sym, ap, ◌∙◌, subst, arith, le_refl, drop_at, length-append, length-take-le, length-drop}
use Rattle.std.proofs.{lemmas.{Slice.take-put_mid_below, List.{take_rest, take_min}}, Math.Seq.take-append-add}
use Rattle.std.proofs.KnownBytes.{Appends-trans, Consumes-trans}
use Rattle.std.specs.{Prelude.{Result, Ok, Err, OnErr}, Io.KnownBytes.{Appends, Consumes}}
use Rattle.streams.specs.Moves.{AppendsBeginning, AppendsLess}
use borrow.Rule.Slice.PartMut.{put_mid, post_of}
use lib.Seq.{take-add, take-append-le}

-- a write that took n bytes of what was left
pub writes_on : (a b c : Option (List ℕ)) (bytes : List ℕ) (count n : ℕ) → count ≤ length bytes → Appends a b (take count bytes)
    → Appends b c (take n (take (length bytes - count) (drop count bytes))) → Appends a c (take (count + n) bytes)
writes_on a b c bytes count n within before more =
    let rest : take (length bytes - count) (drop count bytes) ≡ drop count bytes = let e : length bytes - count ≡ length (drop count bytes) - 0 = omega (arith, length-drop count bytes) in rw e (take_rest (drop count bytes) 0) in
    rw take-add (Appends-trans a b c (take count bytes) (take n (drop count bytes)) before (rw rest at more))

take_split : (a b : ℕ) (old new : List ℕ) → a ≤ b → take a new ≡ take a old → take a old ++ slice_range new a b ≡ take b new
take_split a b old new h front =
    let same : a + (b - a) ≡ b = omega arith in
    ap (λ l. l ++ slice_range new a b) (sym front) ∙ sym (take-add a (b - a) new) ∙ ap (λ n. take n new) same

slice_range-put_mid : (a k n : ℕ) (xs ys : List ℕ) → a ≤ length xs → n ≤ length ys → slice_range (put_mid a k xs ys) a (a + n) ≡ take n ys
slice_range-put_mid a k n xs ys within fits =
    let same : (a + n) - a ≡ n = omega arith in
    let after = post_of a k xs in
    ap (take ((a + n) - a)) (drop_at (take a xs) (ys ++ after) a (length-take-le a xs within)) ∙ ap (λ m. take m (ys ++ after)) same ∙ take-append-le n ys after fits

-- a read that gave n bytes to the buffer's rest
pub reads_on : (a b c : Option (List ℕ)) (old piece : List ℕ) (count room n : ℕ) → count ≤ length old → n ≤ length piece
    → Consumes a b (take count old) → Consumes b c (take n piece) → Consumes a c (take (count + n) (put_mid count room old piece))
reads_on a b c old piece count room n within fits before more =
    let part = slice_range-put_mid count room n old piece within fits in
    let joined = take_split count (count + n) old (put_mid count room old piece) (omega arith) (take-put_mid_below _ _ _ _ _ (le_refl _) within) in
    subst (Consumes a c) (ap (λ l. take count old ++ l) (sym part) ∙ joined) (Consumes-trans a b c _ _ before more)

-- a beginning of the front is a beginning of the whole
pub began : (a b : Option (List ℕ)) (front back : List ℕ) (n : ℕ) → Appends a b (take n front) → AppendsBeginning a b (front ++ back)
began a b front back n p = (min n (length front), rw (take-append-le (min n (length front)) front back (omega arith), take_min n front) p)

-- the front went out, and then a beginning of the back
pub went_on : (a b c : Option (List ℕ)) (front back : List ℕ) (n : ℕ) → Appends a b front → Appends b c (take n back) → AppendsBeginning a c (front ++ back)
went_on a b c front back n p q = (length front + n, rw (take-append-add front back n) (Appends-trans a b c front (take n back) p q))

-- less than the front is less than the whole
pub less_of_front : (a b : Option (List ℕ)) (front back : List ℕ) → AppendsLess a b front → AppendsLess a b (front ++ back)
less_of_front a b front back (n, less, p) = (n, omega (arith, length-append front back), rw (take-append-le n front back (omega arith)) p)

-- the front went out, and then less than the back
pub less_of_back : (a b c : Option (List ℕ)) (front back : List ℕ) → Appends a b front → AppendsLess b c back → AppendsLess a c (front ++ back)
less_of_back a b c front back p (n, less, q) = (length front + n, omega (arith, length-append front back), rw (take-append-add front back n) (Appends-trans a b c front (take n back) p q))

pub OnErr-from : {X E P : Type 0} (r : Result X E) → P → OnErr r P
OnErr-from (Ok x) p = tt
OnErr-from (Err e) p = p
