-- What a run leaves that a fault ends: the front of what is printed.
use Rattle.std.proofs.Common.{◌≡◌, ◌⊎◌, inl, inr, ◌<◌, ◌==◌, ◌++◌, ℕ, false, List, [], ◌∷◌, length, take, drop, Some, None, IfSome, Result, Ok, Err, refl, sym, ap, subst, ◌∙◌, codes, append-nil, append_assoc, take-append-drop}
use Rattle.std.proofs.{lemmas.{Grind.flat_map-append, List.append_cancel_left}, KnownBytes.{Appends-nil, Appends-trans}}
use Rattle.std.specs.{Prelude.{Option, OnErr}, declared.io.ErrorKind.{ErrorKind, TheVariants.OutOfMemory}}
use Rattle.std.specs.Io.{BufRead.{drop_through, strip_last, take_through}, KnownBytes.{Appends, Keeps, append_known}}
use Rattle.model.specs.Registry.{Registry}
use Rattle.policy.specs.Rules.{PolicyRules}
use Rattle.script.specs.{declared.exit.Exit.Exit, Exits.exit_of}
use Rattle.script.specs.Runs.{Answers, BeginsBehind, BeginsReplies, EndsIn, Prints, Writes, lines_of, printed}
use Rattle.script.specs.inner.Runs.{AppendsFront, BeginsLine, BreaksAt, EndsBehind}
use Rattle.script.specs.declared.exit.Exit.TheVariants as exits
use Rattle.streams.specs.Moves.{AppendsLess}
use Rattle.script.proofs.RunLemmas.{ArePrinted, Prints-told, Reads, next_lines, under}

-- ---- fronts of known bytes

-- what is known of a writer and of what is pending behind its bytes
known_pending : (a b : Option (List ℕ)) (pending bytes : List ℕ) → Appends (append_known a pending) b bytes → Appends a b (pending ++ bytes)
known_pending None b pending bytes p = tt
known_pending (Some x) None pending bytes p = absurd p
known_pending (Some x) (Some y) pending bytes p = p ∙ append_assoc x pending bytes

taken_front : (a b : Option (List ℕ)) (text : List ℕ) (n : ℕ) → Appends a b (take n text) → AppendsFront a b text
taken_front a b text n wrote = (take n text, drop n text, wrote, sym (take-append-drop n text))

-- the front of a front
pub front_of_more : (a b : Option (List ℕ)) (text more : List ℕ) → AppendsFront a b text → AppendsFront a b (text ++ more)
front_of_more a b text more (front, rest, wrote, is) = (front, rest ++ more, wrote, ap (λ (l : List ℕ). l ++ more) is ∙ append_assoc front rest more)

-- what was sent and is pending was told behind what was pending
sent_and_pending : (x y : List ℕ) (before pending sent is_printed : List ℕ) → y ≡ x ++ sent → y ++ pending ≡ (x ++ before) ++ is_printed → sent ++ pending ≡ before ++ is_printed
sent_and_pending x y before pending sent is_printed is all =
    append_cancel_left x (sent ++ pending) (before ++ is_printed) (sym (append_assoc x sent pending) ∙ ap (λ (l : List ℕ). l ++ pending) (sym is) ∙ all ∙ append_assoc x before is_printed)

-- a front behind what was told
pub front_behind : (a b c : Option (List ℕ)) (before pending sent is_printed more : List ℕ) → Appends a b sent → Appends (append_known a before) (append_known b pending) is_printed → AppendsFront b c (pending ++ more)
    → AppendsFront a c (before ++ (is_printed ++ more))
front_behind None b c before pending sent is_printed more s t w = ([], before ++ (is_printed ++ more), tt, refl)
front_behind (Some x) None c before pending sent is_printed more s t w = absurd s
front_behind (Some x) (Some y) c before pending sent is_printed more s t (front, rest, wrote, is) =
    let joined : sent ++ pending ≡ before ++ is_printed = sent_and_pending x y before pending sent is_printed s t in (
      sent ++ front,
      rest,
      Appends-trans (Some x) (Some y) c sent front s wrote,
      sym (append_assoc before is_printed more) ∙ ap (λ (l : List ℕ). l ++ more) (sym joined) ∙ append_assoc sent pending more ∙ ap (λ (l : List ℕ). sent ++ l) is ∙ sym (append_assoc sent front rest),
    )

-- ---- the front of the replies

-- lines that were told, behind which a fault comes
pub begun_between : (p : PolicyRules) (lines : List (List ℕ)) (before after : Registry) (a b old new : Option (List ℕ)) (pending : List ℕ)
    → Reads lines a b → ArePrinted p lines before after (append_known old pending) new → IfSome a (λ input. Writes old new (BeginsBehind pending p before after input))
begun_between p lines before after None b old new pending r is_printed = tt
begun_between p lines before after (Some input) None old new pending r is_printed = absurd r
begun_between p lines before after (Some input) (Some others) old new pending r is_printed =
    let text : List ℕ = pending ++ printed is_printed.replies in (
      text,
      known_pending old new pending (printed is_printed.replies) is_printed.written,
      record { lines = lines; others = lines_of others; split = r; replies = is_printed.replies; prints = is_printed.prints; rest = []; text = sym (append-nil text) },
    )

front_begins : (p : PolicyRules) (lines others : List (List ℕ)) (before after : Registry) (replies : List (List ℕ)) (input : List ℕ) (old new : Option (List ℕ)) (pending : List ℕ)
    → lines_of input ≡ lines ++ others → Prints p lines before after replies → AppendsFront old new (pending ++ printed replies) → Writes old new (BeginsBehind pending p before after input)
front_begins p lines others before after replies input old new pending split prints (front, rest, wrote, is) =
    (front, wrote, record { lines = lines; others = others; split = split; replies = replies; prints = prints; rest = rest; text = is })

-- a line breaks a run, behind the lines that were told
pub begun_at : (p q : PolicyRules) (lines : List (List ℕ)) (text line : List ℕ) (before middle after : Registry) (a b old between new : Option (List ℕ)) (first pending sent : List ℕ)
    → q ≡ p → line ≡ strip_last 10 text → Reads lines a b → IfSome b (λ xs. text ≡ take_through 10 xs) → 0 < length text
    → ArePrinted p lines before middle (append_known old first) (append_known between pending) → Appends old between sent → BeginsLine q line middle after between pending new
    → IfSome a (λ input. Writes old new (BeginsBehind first p before after input))
begun_at p q lines text line before middle after None b old between new first pending sent same l r t h is_printed s begins = tt
begun_at p q lines text line before middle after (Some input) None old between new first pending sent same l r t h is_printed s begins = absurd r
begun_at p q lines text line before middle after (Some input) (Some xs) old between new first pending sent same l r t h is_printed s (more, prints, front) =
    let all : AppendsFront old new (first ++ (printed is_printed.replies ++ printed more)) = front_behind old between new first pending sent (printed is_printed.replies) (printed more) s is_printed.written front in
    let wrote : AppendsFront old new (first ++ printed (is_printed.replies ++ more)) = subst (λ (l : List ℕ). AppendsFront old new (first ++ l)) (sym (flat_map-append (λ reply. reply ++ codes "\n") is_printed.replies more)) all in
    let some : 0 < length (take_through 10 xs) = subst (λ (t : List ℕ). 0 < length t) t h in
    let here : List ℕ = strip_last 10 text in
    let next : lines_of xs ≡ here ∷ lines_of (drop_through 10 xs) = next_lines xs some ∙ ap (λ (t : List ℕ). strip_last 10 t ∷ lines_of (drop_through 10 xs)) (sym t) in
    let split : lines_of input ≡ (lines ++ here ∷ []) ++ lines_of (drop_through 10 xs) = r ∙ ap (λ (ls : List (List ℕ)). lines ++ ls) next ∙ sym (append_assoc lines (here ∷ []) (lines_of (drop_through 10 xs))) in
    front_begins p (lines ++ here ∷ []) (lines_of (drop_through 10 xs)) before after (is_printed.replies ++ more) input old new first split (Prints-told p q lines here line before middle after is_printed.replies more same l is_printed.prints prints) wrote

-- ---- a line that breaks a run

abbrev pub IsFault : Exit → Type 0
IsFault exit = (exit ≡ exits.File) ⊎ (exit ≡ exits.Memory)

-- it is answered, and its reply can't be printed to its end
line_told : (p : PolicyRules) (line text : List ℕ) (before after : Registry) (old new : Option (List ℕ)) (pending : List ℕ)
    → (length line == 0) ≡ false → Answers p line before after text → AppendsFront old new (pending ++ (text ++ codes "\n")) → BeginsLine p line before after old pending new
line_told p [] text before after old new pending some answers front = absurd cc
line_told p (byte ∷ bytes) text before after old new pending some answers front =
    (text ∷ [], (text, [], after, refl, answers, (refl, refl)), subst (λ (l : List ℕ). AppendsFront old new (pending ++ l)) (sym (append-nil (text ++ codes "\n"))) front)

pub breaks_told : (exit : Exit) (p : PolicyRules) (line text : List ℕ) (before after : Registry) (old new : Option (List ℕ)) (pending : List ℕ) → IsFault exit
    → (length line == 0) ≡ false → Answers p line before after text → AppendsFront old new (pending ++ (text ++ codes "\n")) → BreaksAt p line before after old pending new exit
breaks_told exit p line text before after old new pending (inl is) some answers front = rw is (line_told p line text before after old new pending some answers front)
breaks_told exit p line text before after old new pending (inr is) some answers front = rw is (line_told p line text before after old new pending some answers front)

-- nothing more than what was pending
pub pending_front : (a : Option (List ℕ)) (pending text : List ℕ) → AppendsFront a (append_known a pending) (pending ++ text)
pending_front None pending text = ([], pending ++ text, tt, refl)
pending_front (Some x) pending text = (pending, text, refl, refl)

-- ---- what is printed of a reply

pub write_front : {X E : Type 0} (result : Result X E) (a b : Option (List ℕ)) (bytes : List ℕ) → OnErr result (AppendsLess a b bytes) → OnErr result (AppendsFront a b bytes)
write_front (Ok x) a b bytes wrote = tt
write_front (Err e) a b bytes (n, less, wrote) = taken_front a b bytes n wrote

-- room was made, and the front of a line is pending
pub line_begun : (a b : Option (List ℕ)) (pending roomed new line : List ℕ) → Keeps (append_known a pending) (append_known b roomed) → AppendsFront (Some roomed) (Some new) line → AppendsFront a (append_known b new) (pending ++ line)
line_begun None b pending roomed new line same front = ([], pending ++ line, tt, refl)
line_begun (Some x) None pending roomed new line same front = absurd same
line_begun (Some x) (Some y) pending roomed new line same (front, rest, grew, is) = (
  pending ++ front,
  rest,
  ap (λ (l : List ℕ). y ++ l) grew ∙ sym (append_assoc y roomed front) ∙ ap (λ (l : List ℕ). l ++ front) same ∙ append_assoc x pending front,
  ap (λ (l : List ℕ). pending ++ l) is ∙ sym (append_assoc pending front rest),
)

pub no_text : (pending new text : List ℕ) → new ≡ pending → AppendsFront (Some pending) (Some new) text
no_text pending new text same = ([], text, same ∙ sym (append-nil pending), refl)

-- ---- the ends

pub fault_of_kind : (kind : ErrorKind) → IsFault (exit_of kind)
fault_of_kind OutOfMemory = inr refl
fault_of_kind _ = inl refl

pub fault_by : (exit : Exit) (kind : ErrorKind) → exit ≡ exit_of kind → IsFault exit
fault_by exit kind is = subst IsFault (sym is) (fault_of_kind kind)

-- ---- a run that a fault ends before its first line

nothing_begun : (p : PolicyRules) (before : Registry) (input : List ℕ) → BeginsReplies p before before input []
nothing_begun p before input = record { lines = []; others = lines_of input; split = refl; replies = []; prints = (refl, refl); rest = []; text = refl }

pub never_begun : (A : Type 0) (exit : Exit) (p : PolicyRules) (before : Registry) (a old : Option (List ℕ)) → IsFault exit → IfSome a (λ input. A → EndsIn p before before input old old exit)
never_begun A exit p before None old is = tt
never_begun A exit p before (Some input) old (inl is) = λ unused. rw is ([], Appends-nil old, nothing_begun p before input)
never_begun A exit p before (Some input) old (inr is) = λ unused. rw is ([], Appends-nil old, nothing_begun p before input)

fault_ends : (exit : Exit) (p : PolicyRules) (before after : Registry) (input : List ℕ) (old : Option (List ℕ)) (pending : List ℕ) (new : Option (List ℕ)) → IsFault exit → Writes old new (BeginsBehind pending p before after input) → EndsBehind p before after input old pending new exit
fault_ends exit p before after input old pending new (inl is) begun = rw is begun
fault_ends exit p before after input old pending new (inr is) begun = rw is begun

faults_end : (exit : Exit) (p : PolicyRules) (before after : Registry) (a old : Option (List ℕ)) (pending : List ℕ) (new : Option (List ℕ)) → IsFault exit → IfSome a (λ input. Writes old new (BeginsBehind pending p before after input))
    → IfSome a (λ input. EndsBehind p before after input old pending new exit)
faults_end exit p before after None old pending new is begun = tt
faults_end exit p before after (Some input) old pending new is begun = fault_ends exit p before after input old pending new is begun

-- a fault between two lines ends a run
pub Ends-between : (A : Type 0) (exit : Exit) (p : PolicyRules) (lines : List (List ℕ)) (before after : Registry) (a b old new : Option (List ℕ)) (pending : List ℕ) → IsFault exit
    → Reads lines a b → (A → ArePrinted p lines before after (append_known old pending) new) → IfSome a (λ input. A → EndsBehind p before after input old pending new exit)
Ends-between A exit p lines before after a b old new pending is r is_printed = under A a _ (λ given. faults_end exit p before after a old pending new is (begun_between p lines before after a b old new pending r (is_printed given)))

-- what was printed in a run, however it ended
pub begun_by : (exit : Exit) (p : PolicyRules) (before after : Registry) (input : List ℕ) (a new : Option (List ℕ)) → EndsBehind p before after input a [] new exit → Writes a new (BeginsReplies p before after input)
begun_by exits.Done p before after input a new (written, wrote, ends) = (
  written,
  known_pending a new [] written wrote,
  record { lines = lines_of input; others = []; split = sym (append-nil (lines_of input)); replies = ends.replies; prints = ends.prints; rest = []; text = sym ends.text ∙ sym (append-nil written) },
)
begun_by (exits.Script n) p before after input a new (written, wrote, stops) = (
  written,
  known_pending a new [] written wrote,
  record { lines = stops.lines; others = stops.line ∷ stops.others; split = stops.split; replies = stops.replies; prints = stops.prints; rest = []; text = sym stops.text ∙ sym (append-nil written) },
)
begun_by exits.File p before after input a new begun = begun
begun_by exits.Memory p before after input a new begun = begun
begun_by _ p before after input a new ends = absurd ends

-- of that all is written
all_out : (p : PolicyRules) (before after : Registry) (input : List ℕ) (a b c d : Option (List ℕ)) (pending : List ℕ) → Writes a (append_known b pending) (BeginsReplies p before after input) → Appends b c pending → Keeps c d → Writes a d (BeginsReplies p before after input)
all_out p before after input a b c d pending (written, wrote, begins) q k = (written, by a b c d wrote q k, begins)
  where
    by : (a b c d : Option (List ℕ)) → Appends a (append_known b pending) written → Appends b c pending → Keeps c d → Appends a d written
    by None b c d wrote q k = tt
    by (Some x) None c d wrote q k = absurd wrote
    by (Some x) (Some y) None d wrote q k = absurd q
    by (Some x) (Some y) (Some z) None wrote q k = absurd k
    by (Some x) (Some y) (Some z) (Some w) wrote q k = k ∙ q ∙ wrote

pub fault_out : (exit : Exit) (p : PolicyRules) (before after : Registry) (input : List ℕ) (a b c d : Option (List ℕ)) (pending : List ℕ) → IsFault exit → Writes a (append_known b pending) (BeginsReplies p before after input)
    → Appends b c pending → Keeps c d → EndsIn p before after input a d exit
fault_out exit p before after input a b c d pending (inl is) begun q k = rw is (all_out p before after input a b c d pending begun q k)
fault_out exit p before after input a b c d pending (inr is) begun q k = rw is (all_out p before after input a b c d pending begun q k)

-- or the front of it
front_out : (p : PolicyRules) (before after : Registry) (input : List ℕ) (a b c : Option (List ℕ)) (pending sent : List ℕ) → Writes a (append_known b pending) (BeginsReplies p before after input) → Appends a b sent → AppendsFront b c pending → Writes a c (BeginsReplies p before after input)
front_out p before after input None b c pending sent (written, wrote, begins) s front = (written, tt, begins)
front_out p before after input (Some x) None c pending sent (written, wrote, begins) s front = absurd s
front_out p before after input (Some x) (Some y) c pending sent (written, wrote, begins) s (front, rest, went, is) =
    let joined : sent ++ pending ≡ written = append_cancel_left x (sent ++ pending) written (sym (append_assoc x sent pending) ∙ ap (λ (l : List ℕ). l ++ pending) (sym s) ∙ wrote) in (
      sent ++ front,
      Appends-trans (Some x) (Some y) c sent front s went,
      record {
        lines = begins.lines;
        others = begins.others;
        split = begins.split;
        replies = begins.replies;
        prints = begins.prints;
        rest = rest ++ begins.rest;
        text = begins.text ∙ ap (λ (l : List ℕ). l ++ begins.rest) (sym joined ∙ ap (λ (l : List ℕ). sent ++ l) is ∙ sym (append_assoc sent front rest)) ∙ append_assoc (sent ++ front) rest begins.rest;
      },
    )

pub fault_cut : (exit : Exit) (p : PolicyRules) (before after : Registry) (input : List ℕ) (a b c : Option (List ℕ)) (pending sent : List ℕ) → IsFault exit → Writes a (append_known b pending) (BeginsReplies p before after input)
    → Appends a b sent → AppendsFront b c pending → EndsIn p before after input a c exit
fault_cut exit p before after input a b c pending sent (inl is) begun s front = rw is (front_out p before after input a b c pending sent begun s front)
fault_cut exit p before after input a b c pending sent (inr is) begun s front = rw is (front_out p before after input a b c pending sent begun s front)
