-- A message that was put where it wasn't is dropped, and one that was dropped is put back, and all is
-- as before.
use Rattle.std.proofs.Common.{◌≡◌, Bool, true, false, cond, ◌||◌, true≢false, List, [], ◌∷◌, refl, sym, ap, ◌∙◌}
use Rattle.std.specs.{List.{AllByRecursion, Sorted.IsStrictlySortedBy}, Ordering.{is_eq, match_ordering}, declared.cmp.Ordering.Ordering}
use Rattle.std.specs.declared.cmp.Ordering.TheVariants.{Less, Equal, Greater}
use Rattle.accounts.specs.{declared.message.Message.Message, MessageOrder.{message_cmp_total, message_eq_equiv}, Messages.message_cmp}
use Rattle.accounts.specs.Queue.{dropped, has, put}
use Rattle.accounts.proofs.MessageLaws.{message_cmp_only}

pub dropped-put : (m : Message) (queue : List Message) → has m queue ≡ false → dropped m (put m queue) ≡ queue
dropped-put m [] e = ap (λ (b : Bool). cond b [] (m ∷ [])) (message_eq_equiv.refl m)
dropped-put m (x ∷ xs) e = by (message_cmp m x) refl e (dropped-put m xs)
  where
    by : (r : Ordering) → message_cmp m x ≡ r → (is_eq r || has m xs) ≡ false → (has m xs ≡ false → dropped m (put m xs) ≡ xs)
        → dropped m (match_ordering r (m ∷ x ∷ xs) (x ∷ xs) (x ∷ put m xs)) ≡ x ∷ xs
    by Less t lacks rest = ap (λ (b : Bool). cond b (x ∷ xs) (m ∷ dropped m (x ∷ xs))) (message_eq_equiv.refl m)
    by Equal t lacks rest = absurd (true≢false lacks)
    by Greater t lacks rest = ap (λ (r : Ordering). cond (is_eq r) (put m xs) (x ∷ dropped m (put m xs))) t ∙ ap (λ (ms : List Message). x ∷ ms) (rest lacks)

abbrev IsBefore : Message → List Message → Type 0
IsBefore m ms = AllByRecursion (λ y. message_cmp m y ≡ Less) ms

-- a message that stands before all of a queue isn't in it
before-lacks : (m x : Message) (xs : List Message) → message_cmp m x ≡ Less → IsBefore x xs → has m xs ≡ false
before-lacks m x [] e below = refl
before-lacks m x (y ∷ ys) e below = ap (λ (r : Ordering). is_eq r || has m ys) (message_cmp_total.trans m x y e below.0) ∙ before-lacks m x ys e below.1

-- it is put in front
put-front : (m x : Message) (xs : List Message) → m ≡ x → IsBefore x xs → put m xs ≡ x ∷ xs
put-front m x [] e below = ap (λ (n : Message). n ∷ []) e
put-front m x (y ∷ ys) e below =
    ap (λ (n : Message). put n (y ∷ ys)) e ∙ ap (λ (r : Ordering). match_ordering r (x ∷ y ∷ ys) (y ∷ ys) (y ∷ put x ys)) below.0

pub put-dropped : (m : Message) (queue : List Message) → IsStrictlySortedBy message_cmp queue → has m queue ≡ true → put m (dropped m queue) ≡ queue
unfolding IsStrictlySortedBy
put-dropped m [] sorted there = absurd (true≢false (sym there))
put-dropped m (x ∷ xs) sorted there = by (message_cmp m x) refl there (put-dropped m xs sorted.1)
  where
    by : (r : Ordering) → message_cmp m x ≡ r → (is_eq r || has m xs) ≡ true → (has m xs ≡ true → put m (dropped m xs) ≡ xs) → put m (cond (is_eq r) xs (x ∷ dropped m xs)) ≡ x ∷ xs
    by Less t has-it rest = absurd (true≢false (sym has-it ∙ before-lacks m x xs t sorted.0))
    by Equal t has-it rest = put-front m x xs (message_cmp_only m x t) sorted.0
    by Greater t has-it rest =
        ap (λ (r : Ordering). match_ordering r (m ∷ x ∷ dropped m xs) (x ∷ dropped m xs) (x ∷ put m (dropped m xs))) t ∙ ap (λ (ms : List Message). x ∷ ms) (rest has-it)
