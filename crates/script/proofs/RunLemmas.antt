-- Runs, line by line.
use Rattle.std.proofs.Common.{◌≡◌, ◌+◌, ◌<◌, ◌==◌, ℕ, Bool, true, false, cond, List, [], ◌∷◌, ◌++◌, length, Some, None, IfSome, refl, sym, ap, subst, ◌∙◌, codes, append-nil, append_assoc, arith}
use Rattle.std.proofs.{lemmas.Grind.{common_steps, flat_map-append}, KnownBytes.{Appends-nil, Appends-trans}}
use Rattle.std.specs.{Prelude.Option, Io.{BufRead.{DropsThrough, drop_through, strip_last, take_through}, KnownBytes.{Appends, IsAtEnd}}}
use Rattle.policy.specs.Rules.{PolicyRules}
use Rattle.script.specs.declared.exit.Exit.TheVariants as exits
use Rattle.script.specs.{Runs.{Answers, EndsIn, Prints, begun_with, lines_of, printed}, inner.Runs.TellsLine}
use Rattle.model.specs.Registry.{Registry}

-- ---- the lines of an input

strip_last-cons : (x : ℕ) (ys : List ℕ) → 0 < length ys → strip_last 10 (x ∷ ys) ≡ x ∷ strip_last 10 ys
strip_last-cons x [] h = absurd (omega arith)
strip_last-cons x (y ∷ ys) h = grind (arith, common_steps)

some_through : (y : ℕ) (ys : List ℕ) → 0 < length (take_through 10 (y ∷ ys))
some_through y ys = by (y == 10)
  where
    by : (b : Bool) → 0 < length (cond b (y ∷ []) (y ∷ take_through 10 ys))
    by true = omega arith
    by false = omega arith

strip_end : (x : ℕ) → (x == 10) ≡ true → strip_last 10 (x ∷ []) ≡ []
strip_end x e = rw e

strip_one : (x : ℕ) → (x == 10) ≡ false → strip_last 10 (x ∷ []) ≡ x ∷ []
strip_one x e = rw e

-- the first line of an input that begins with a byte, and the lines behind it
abbrev HasFirst : ℕ → List ℕ → Type 0
HasFirst x xs = lines_of (x ∷ xs) ≡ strip_last 10 (take_through 10 (x ∷ xs)) ∷ lines_of (drop_through 10 (x ∷ xs))

HasFirst-end : (x : ℕ) (b : Bool) → (x == 10) ≡ b → cond b ([] ∷ []) ((x ∷ []) ∷ []) ≡ strip_last 10 (cond b (x ∷ []) (x ∷ [])) ∷ lines_of (cond b [] [])
HasFirst-end x true e = ap (λ line. line ∷ []) (sym (strip_end x e))
HasFirst-end x false e = ap (λ line. line ∷ []) (sym (strip_one x e))

HasFirst-more : (x y : ℕ) (ys : List ℕ) (b : Bool) → (x == 10) ≡ b → HasFirst y ys
    → cond b ([] ∷ lines_of (y ∷ ys)) (begun_with x (lines_of (y ∷ ys)))
    ≡ strip_last 10 (cond b (x ∷ []) (x ∷ take_through 10 (y ∷ ys))) ∷ lines_of (cond b (y ∷ ys) (drop_through 10 (y ∷ ys)))
HasFirst-more x y ys true e next = ap (λ line. line ∷ lines_of (y ∷ ys)) (sym (strip_end x e))
HasFirst-more x y ys false e next =
    ap (begun_with x) next ∙ ap (λ line. line ∷ lines_of (drop_through 10 (y ∷ ys))) (sym (strip_last-cons x (take_through 10 (y ∷ ys)) (some_through y ys)))

lines_of-first : (x : ℕ) (xs : List ℕ) → HasFirst x xs
lines_of-first x [] = HasFirst-end x (x == 10) refl
lines_of-first x (y ∷ ys) = HasFirst-more x y ys (x == 10) refl (lines_of-first y ys)

-- the lines that were read of a reader's known bytes
abbrev pub Reads : List (List ℕ) → Option (List ℕ) → Option (List ℕ) → Type 0
Reads lines None new = Unit {0}
Reads lines (Some input) None = ⊥
Reads lines (Some input) (Some rest) = lines_of input ≡ lines ++ lines_of rest

pub Reads-nil : (a : Option (List ℕ)) → Reads [] a a
Reads-nil None = tt
Reads-nil (Some input) = refl

pub next_lines : (xs : List ℕ) → 0 < length (take_through 10 xs) → lines_of xs ≡ strip_last 10 (take_through 10 xs) ∷ lines_of (drop_through 10 xs)
next_lines [] h = absurd (omega arith)
next_lines (x ∷ xs) h = lines_of-first x xs

pub Reads-more : (lines : List (List ℕ)) (a b c : Option (List ℕ)) (text : List ℕ) → Reads lines a b
    → IfSome b (λ xs. text ≡ take_through 10 xs) → DropsThrough b c 10 → 0 < length text → Reads (lines ++ strip_last 10 text ∷ []) a c
Reads-more lines None b c text r t d h = tt
Reads-more lines (Some input) None c text r t d h = absurd r
Reads-more lines (Some input) (Some xs) c text r t d h =
    let line = strip_last 10 (take_through 10 xs) in
    let rest = lines_of (drop_through 10 xs) in
    let read : lines_of input ≡ (lines ++ line ∷ []) ++ rest =
    r ∙ ap (λ ls. lines ++ ls) (next_lines xs (subst (λ (t : List ℕ). 0 < length t) t h)) ∙ sym (append_assoc lines (line ∷ []) rest) in
    subst (λ (t : List ℕ). Reads (lines ++ strip_last 10 t ∷ []) (Some input) c) (sym t) (subst (Reads (lines ++ line ∷ []) (Some input)) (sym d) read)

-- ---- the replies to lines

pub Prints-more : (p : PolicyRules) (lines : List (List ℕ)) (line : List ℕ) (before between after : Registry) (replies more : List (List ℕ))
    → Prints p lines before between replies → Prints p (line ∷ []) between after more → Prints p (lines ++ line ∷ []) before after (replies ++ more)
Prints-more p [] line before between after replies more first next =
    subst (λ (r : List (List ℕ)). Prints p (line ∷ []) before after (r ++ more)) (sym first.1) (subst (λ (s : Registry). Prints p (line ∷ []) s after more) first.0 next)
Prints-more p ([] ∷ lines) line before between after replies more first next = Prints-more p lines line before between after replies more first next
Prints-more p ((b ∷ bs) ∷ lines) line before between after replies more first next =
    let others = first.1 in
    let middle = first.2 in
    let later = first.5 in
    (first.0, others ++ more, middle, ap (λ r. r ++ more) first.3, first.4, Prints-more p lines line middle between after others more later next)

-- the same, where the policy and the line are known by equations
pub Prints-told : (p q : PolicyRules) (lines : List (List ℕ)) (line is_printed : List ℕ) (before between after : Registry) (replies more : List (List ℕ))
    → q ≡ p → is_printed ≡ line → Prints p lines before between replies → Prints q (is_printed ∷ []) between after more → Prints p (lines ++ line ∷ []) before after (replies ++ more)
Prints-told p q lines line is_printed before between after replies more same e first next =
    let under : Prints p (is_printed ∷ []) between after more = subst (λ (r : PolicyRules). Prints r (is_printed ∷ []) between after more) same next in
    Prints-more p lines line before between after replies more first (subst (λ (l : List ℕ). Prints p (l ∷ []) between after more) e under)

pub Appends-printed : (a b c : Option (List ℕ)) (replies more : List (List ℕ)) → Appends a b (printed replies) → Appends b c (printed more) → Appends a c (printed (replies ++ more))
Appends-printed a b c replies more first next = subst (Appends a c) (sym (flat_map-append (λ reply. reply ++ codes "\n") replies more)) (Appends-trans a b c _ _ first next)

-- a line that is answered
pub TellsLine-one : (p : PolicyRules) (line text : List ℕ) (before after : Registry) (a b : Option (List ℕ))
    → (length line == 0) ≡ false → Answers p line before after text → Appends a b (text ++ codes "\n") → TellsLine p line before after a b
TellsLine-one p [] text before after a b some answers wrote = absurd cc
TellsLine-one p (byte ∷ bytes) text before after a b some answers wrote =
    (text ∷ [], (text, [], after, refl, answers, (refl, refl)), subst (Appends a b) (sym (append-nil _)) wrote)

-- lines that are answered: the replies, and what of them is known to be written
pub record ArePrinted (p : PolicyRules) (lines : List (List ℕ)) (before after : Registry) (old new : Option (List ℕ)) : Type 0 where
  pub replies : List (List ℕ)
  pub prints : Prints p lines before after replies
  pub written : Appends old new (printed replies)

-- no line
pub ArePrinted-nil : (p : PolicyRules) (before : Registry) (a : Option (List ℕ)) → ArePrinted p [] before before a a
ArePrinted-nil p before a = record { replies = []; prints = (refl, refl); written = Appends-nil a }

-- one line more, where the policy and the line are known by equations
pub ArePrinted-more : (p q : PolicyRules) (lines : List (List ℕ)) (line is_printed : List ℕ) (before between after : Registry) (a b c : Option (List ℕ))
    → q ≡ p → is_printed ≡ line → ArePrinted p lines before between a b → TellsLine q is_printed between after b c → ArePrinted p (lines ++ line ∷ []) before after a c
ArePrinted-more p q lines line is_printed before between after a b c same e first next = record {
  replies = first.replies ++ next.0;
  prints = Prints-told p q lines line is_printed before between after first.replies next.0 same e first.prints next.1;
  written = Appends-printed a b c first.replies next.0 first.written next.2;
}

-- ---- the end of a run

-- what follows from what is given
pub under : (A : Type 0) (o : Option (List ℕ)) (P : List ℕ → Type 0) → (A → IfSome o P) → IfSome o (λ input. A → P input)
under A None P h = tt
under A (Some input) P h = h

ends_done : (p : PolicyRules) (lines : List (List ℕ)) (before after : Registry) (a b old new : Option (List ℕ))
    → Reads lines a b → IsAtEnd b → ArePrinted p lines before after old new → IfSome a (λ input. EndsIn p before after input old new exits.Done)
ends_done p lines before after None b old new r e is_printed = tt
ends_done p lines before after (Some input) None old new r e is_printed = absurd r
ends_done p lines before after (Some input) (Some rest) old new r e is_printed =
    let all : lines_of input ≡ lines = r ∙ ap (λ (x : List ℕ). lines ++ lines_of x) e ∙ append-nil lines in
    (printed is_printed.replies, is_printed.written, record { replies = is_printed.replies; prints = subst (λ (ls : List (List ℕ)). Prints p ls before after is_printed.replies) (sym all) is_printed.prints; text = refl })

pub Ends-done : (A : Type 0) (p : PolicyRules) (lines : List (List ℕ)) (before after : Registry) (a b old new : Option (List ℕ))
    → Reads lines a b → IsAtEnd b → (A → ArePrinted p lines before after old new) → IfSome a (λ input. A → EndsIn p before after input old new exits.Done)
Ends-done A p lines before after a b old new r e is_printed = under A a _ (λ given. ends_done p lines before after a b old new r e (is_printed given))
