-- A session goes on by one turn after another, and ends.
use Rattle.std.proofs.Common.{◌≡◌, ◌⊎◌, inl, inr, ℕ, Bool, true, false, cond, Option, Some, None, List, [], ◌∷◌, ◌++◌, take, map, refl, ap, ◌∙◌, subst, append-nil}
use Rattle.std.proofs.{KnownBytes.Appends-trans, lemmas.Grind.flat_map-append}
use Rattle.std.specs.Io.KnownBytes.{Appends}
use Rattle.frames.specs.{Frames.{frame, Takes, Ending, Splits, bad_length}, Texts.closing_text}
use Rattle.frames.specs.Outcomes.{Outcome, replied, ended, failed, lost, has_frame, sent, end_with}
use Rattle.frames.specs.Sessions.{SessionState, Turn, IsTurn, Run, frames, Rests, IsAtEnding, EndsSession, Session, WritesFrames}
use Rattle.frames.specs.declared.session.SessionEnd.{SessionEnd, TheVariants.{Logout, WriteFault, Lost}}
use Rattle.frames.proofs.SplitLemmas.{begins}
use Rattle.streams.specs.Moves.{AppendsLess}

abbrev IsLastEnd : SessionEnd → Type 0
IsLastEnd end = (end ≡ Logout) ⊎ (end ≡ Lost)

some_is : (a b : SessionEnd) → Some a ≡ Some b → b ≡ a
some_is a b e = cc

last_end_if : (fits : Bool) (end : SessionEnd) (first : Option SessionEnd) → (first ≡ Some end → IsLastEnd end) → cond fits first (Some Lost) ≡ Some end → IsLastEnd end
last_end_if true end first it e = it e
last_end_if false end first it e = inr (some_is Lost end e)

-- a turn ends a session by its last reply or by a reply that is lost
last_end : (outcome : Outcome) (end : SessionEnd) → end_with outcome ≡ Some end → IsLastEnd end
last_end (replied reply) end e = last_end_if (has_frame reply) end None (λ (n : None ≡ Some end). absurd cc) e
last_end (ended reply) end e = last_end_if (has_frame reply) end (Some Logout) (λ (s : Some Logout ≡ Some end). inl (some_is Logout end s)) e
last_end failed end e = absurd cc
last_end lost end e = inr (some_is Lost end e)

-- one more frame went out
pub frames-more : (a b c : Option (List ℕ)) (turns : List Turn) (turn : Turn) → Appends a b (frames turns) → Appends b c (frame (sent turn.outcome)) → Appends a c (frames (turns ++ turn ∷ []))
frames-more a b c turns turn p q =
    let one : Appends b c (frames (turn ∷ [])) = rw append-nil q in
    rw flat_map-append (Appends-trans a b c (frames turns) (frames (turn ∷ [])) p one)

module _ {S : Type 0} (answers : S → ℕ → List ℕ → Outcome → S → Type 0) where
  pub Run-more : (turns : List Turn) (turn : Turn) (before middle after : SessionState S) → Run answers turns before middle → IsTurn answers turn middle after → end_with turn.outcome ≡ None
      → Run answers (turns ++ turn ∷ []) before after
  Run-more [] turn before middle after run is on = (on, after, subst (λ (s : SessionState S). IsTurn answers turn s after) run is, refl)
  Run-more (t ∷ ts) turn before middle after run is on = (run.0, run.1, run.2, Run-more ts turn run.1 middle after run.3 is on)

  pub Ends-turn : (end : SessionEnd) (turns : List Turn) (turn : Turn) (before after : SessionState S) → IsTurn answers turn before after → end_with turn.outcome ≡ Some end
      → EndsSession answers end turns before (frame (sent turn.outcome)) after
  Ends-turn end turns turn before after is e = by_end (last_end turn.outcome end e)
    where
      by_end : IsLastEnd end → EndsSession answers end turns before (frame (sent turn.outcome)) after
      by_end (inl l) = rw l (turn, is, rw l at e, refl)
      by_end (inr l) = rw l (inl (turn, is, rw l at e, refl))

  pub ends_session : (end : SessionEnd) (turns : List Turn) (before middle after : SessionState S) (last : List ℕ) (a b c : Option (List ℕ)) → Run answers turns before middle
      → EndsSession answers end turns middle last after → Appends a b (frames turns) → Appends b c last → WritesFrames a c (λ (w : List ℕ). Session answers before w after end)
  ends_session end turns before middle after last a b c run ends p q = (
    frames turns ++ last,
    Appends-trans a b c (frames turns) last p q,
    record { turns = turns; reached = middle; last = last; run = run; ends = ends; bytes = refl },
  )

  -- a write of the closing text fails
  pub breaks_closing : (turns : List Turn) (before middle after : SessionState S) (a b c : Option (List ℕ)) → Run answers turns before middle → (IsAtEnding bad_length middle ⊎ (turns ≡ [])) → Rests middle after
      → Appends a b (frames turns) → AppendsLess b c (frame closing_text) → WritesFrames a c (λ (w : List ℕ). Session answers before w after WriteFault)
  breaks_closing turns before middle after a b c run why rests p (n, less, q) =
      ends_session WriteFault turns before middle after (take n (frame closing_text)) a b c run (inr (why, rests, (n, less, refl))) p q

  -- a write of a reply fails
  pub breaks_turn : (turns : List Turn) (turn : Turn) (before middle after : SessionState S) (a b c : Option (List ℕ)) → Run answers turns before middle → IsTurn answers turn middle after
      → Appends a b (frames turns) → AppendsLess b c (frame (sent turn.outcome)) → WritesFrames a c (λ (w : List ℕ). Session answers before w after WriteFault)
  breaks_turn turns turn before middle after a b c run is p (n, less, q) =
      ends_session WriteFault turns before middle after (take n (frame (sent turn.outcome))) a b c run (inl (turn, is, (n, less, refl))) p q

-- ---- which frames are taken

abbrev Taken : {S : Type 0} → List Turn → SessionState S → List (List ℕ) → Ending → Type 0
Taken turns after payloads ending =
    (rest : List ℕ) × (later : List (List ℕ)) × (after.input ≡ Some rest) × Splits rest later ending × (payloads ≡ map (λ (turn : Turn). turn.payload) turns ++ later)

takes_one : {S : Type 0} (turn : Turn) (turns : List Turn) (after : SessionState S) (input : List ℕ) (payloads : List (List ℕ)) (ending : Ending) → Splits input payloads ending
    → (next : Option (List ℕ)) → Takes turn.payload (Some input) next
    → ((rest : List ℕ) (others : List (List ℕ)) → next ≡ Some rest → Splits rest others ending → Taken turns after others ending) → Taken (turn ∷ turns) after payloads ending
takes_one turn turns after input payloads ending s None none more = absurd none
takes_one turn turns after input payloads ending s (Some rest) complete more =
    let b = begins input turn.payload rest payloads ending complete s in
    let m = more rest b.more refl b.splits in
    (m.0, m.1, m.2, m.3, b.are ∙ ap (λ (x : List (List ℕ)). turn.payload ∷ x) m.4)

pub takes_in_order : {S : Type 0} (answers : S → ℕ → List ℕ → Outcome → S → Type 0) (turns : List Turn) (before after : SessionState S) (input : List ℕ) → before.input ≡ Some input
    → Run answers turns before after → (payloads : List (List ℕ)) (ending : Ending) → Splits input payloads ending → Taken turns after payloads ending
takes_in_order {S} answers [] before after input e run payloads ending s = (input, payloads, ap (λ (t : SessionState S). t.input) run ∙ e, s, refl)
takes_in_order answers (turn ∷ turns) before after input e run payloads ending s =
    takes_one turn turns after input payloads ending s run.1.input (subst (λ (x : Option (List ℕ)). Takes turn.payload x run.1.input) e run.2.payload)
    (λ rest others is split. takes_in_order answers turns run.1 after rest is run.3 others ending split)
