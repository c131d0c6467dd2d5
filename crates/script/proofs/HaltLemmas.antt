-- A line that ends a run.
use Rattle.std.proofs.Common.{◌≡◌, ◌+◌, ◌<◌, ℕ, true, List, ◌∷◌, ◌++◌, length, Some, None, IfSome, refl, sym, ap, subst, ◌∙◌}
use Rattle.std.proofs.KnownBytes.{Appends-kept}
use Rattle.std.specs.{Prelude.Option, Io.{BufRead.{drop_through, strip_last, take_through}, KnownBytes.{Appends, append_known}}}
use Rattle.model.specs.Registry.{Registry}
use Rattle.policy.specs.Rules.{PolicyRules}
use Rattle.script.specs.{declared.exit.Exit.Exit, Runs.{BeginsBehind, Prints, Writes, kept, lines_of, printed}}
use Rattle.script.specs.inner.Runs.{BeginsLine, BreaksAt, EndsBehind, HaltsAt}
use Rattle.script.specs.declared.exit.Exit.TheVariants as exits
use Rattle.script.proofs.{BeginLemmas.begun_at, RunLemmas.{ArePrinted, Reads, next_lines, under}}
use Rattle.books.specs.Book.{BookState, Follows}

-- what a line leaves that ends a run, behind the lines that were answered
abbrev LeftBy : Exit → (before after : Registry) → Type 0 → Type 0
LeftBy (exits.Script n) before after begun = after ≡ before
LeftBy _ before after begun = begun

left_by : (exit : Exit) (p : PolicyRules) (line : List ℕ) (before after : Registry) (old new : Option (List ℕ)) (pending : List ℕ) (begun : Type 0) → (BeginsLine p line before after old pending new → begun)
    → BreaksAt p line before after old pending new exit → LeftBy exit before after begun
left_by (exits.Script n) p line before after old new pending begun more breaks = breaks
left_by _ p line before after old new pending begun more breaks = more breaks

-- a line ends a run, behind the lines that were answered
ends_line : (exit : Exit) (p : PolicyRules) (lines : List (List ℕ)) (text : List ℕ) (number : ℕ) (before middle after : Registry) (a b old between new : Option (List ℕ)) (first : List ℕ)
    → Reads lines a b → IfSome b (λ xs. text ≡ take_through 10 xs) → 0 < length text → number ≡ length lines + 1
    → ArePrinted p lines before middle (append_known old first) between → HaltsAt p (strip_last 10 text) number between new exit
    → LeftBy exit middle after (IfSome a (λ input. Writes old new (BeginsBehind first p before after input))) → IfSome a (λ input. EndsBehind p before after input old first new exit)
ends_line exit p lines text number before middle after None b old between new first r t h count is_printed halts left = tt
ends_line exit p lines text number before middle after (Some input) None old between new first r t h count is_printed halts left = absurd r
ends_line exits.File p lines text number before middle after (Some input) (Some xs) old between new first r t h count is_printed halts left = left
ends_line exits.Memory p lines text number before middle after (Some input) (Some xs) old between new first r t h count is_printed halts left = left
ends_line (exits.Script n) p lines text number before middle after (Some input) (Some xs) old between new first r t h count is_printed halts left =
    let some = subst (λ (t : List ℕ). 0 < length t) t h in
    let next : lines_of xs ≡ strip_last 10 text ∷ lines_of (drop_through 10 xs) =
    next_lines xs some ∙ ap (λ (t : List ℕ). strip_last 10 t ∷ lines_of (drop_through 10 xs)) (sym t) in (
      printed is_printed.replies,
      Appends-kept (append_known old first) between new _ is_printed.written halts.3,
      record {
        lines = lines;
        line = strip_last 10 text;
        others = lines_of (drop_through 10 xs);
        split = r ∙ ap (λ ls. lines ++ ls) next;
        number = halts.0 ∙ count;
        some = halts.1;
        bad = halts.2;
        replies = is_printed.replies;
        prints = subst (λ (s : Registry). Prints p lines before s is_printed.replies) (sym left) is_printed.prints;
        text = refl;
      },
    )
ends_line _ p lines text number before middle after (Some input) (Some xs) old between new first r t h count is_printed halts left = absurd halts

-- the same, where the policy, the line and the end are known by equations
ends_halted : (p q : PolicyRules) (exit end : Exit) (lines : List (List ℕ)) (text line : List ℕ) (number : ℕ) (before middle after : Registry) (a b old between new : Option (List ℕ)) (first pending sent : List ℕ)
    → q ≡ p → end ≡ exit → line ≡ strip_last 10 text → Reads lines a b → IfSome b (λ xs. text ≡ take_through 10 xs) → 0 < length text → number ≡ length lines + 1
    → ArePrinted p lines before middle (append_known old first) (append_known between pending) → HaltsAt q line number (append_known between pending) new exit
    → Appends old between sent → BreaksAt q line middle after between pending new exit → IfSome a (λ input. EndsBehind p before after input old first new end)
ends_halted p q exit end lines text line number before middle after a b old between new first pending sent same e l r t h count is_printed halts s breaks =
    let here : HaltsAt p line number (append_known between pending) new exit = subst (λ (r : PolicyRules). HaltsAt r line number (append_known between pending) new exit) same halts in
    let at : HaltsAt p (strip_last 10 text) number (append_known between pending) new exit = subst (λ (l : List ℕ). HaltsAt p l number (append_known between pending) new exit) l here in
    let left = left_by exit q line middle after between new pending (IfSome a (λ input. Writes old new (BeginsBehind first p before after input)))
    (λ begins. begun_at p q lines text line before middle after a b old between new first pending sent same l r t h is_printed s begins) breaks in
    let ends = ends_line exit p lines text number before middle after a b old (append_known between pending) new first r t h count is_printed at left in
    subst (λ (x : Exit). IfSome a (λ input. EndsBehind p before after input old first new x)) (sym e) ends

pub Ends-halted : (p q : PolicyRules) (exit end : Exit) (lines : List (List ℕ)) (text line : List ℕ) (number : ℕ) (before : Registry) (middle after : BookState) (a b old between new : Option (List ℕ)) (first pending sent : List ℕ)
    → q ≡ p → end ≡ exit → line ≡ strip_last 10 text → Reads lines a b → IfSome b (λ xs. text ≡ take_through 10 xs) → 0 < length text → number ≡ length lines + 1
    → (middle.is_clean ≡ true → ArePrinted p lines before (kept middle) (append_known old first) (append_known between pending)) → Follows middle after
    → HaltsAt q line number (append_known between pending) new exit
    → Appends old between sent → (after.is_clean ≡ true → BreaksAt q line (kept middle) (kept after) between pending new exit)
    → IfSome a (λ input. after.is_clean ≡ true → EndsBehind p before (kept after) input old first new end)
Ends-halted p q exit end lines text line number before middle after a b old between new first pending sent same e l r t h count is_printed follows halts s breaks =
    under (after.is_clean ≡ true) a _ (λ clean. ends_halted p q exit end lines text line number before (kept middle) (kept after) a b old between new first pending sent same e l r t h count (is_printed (follows.clean clean)) halts s (breaks clean))
