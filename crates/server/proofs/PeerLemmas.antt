-- A session with a peer is one with whatever the peer can be taken for.
use Rattle.std.proofs.Common.{inl, inr, ℕ, List, [], ◌∷◌, ap}
use Rattle.frames.specs.{Outcomes.Outcome, Sessions.{SessionState, Turn, IsTurn, Run, Rests, EndsSession, Session}}
use Rattle.frames.specs.declared.session.SessionEnd.{SessionEnd, TheVariants.{Logout, End, Cut, Length, ReadFault, WriteFault, Lost}}

-- the peer of a session is taken for something else
abbrev pub taken_for : {S T : Type 0} → (S → T) → SessionState S → SessionState T
taken_for f state = record { input = state.input; clock = state.clock; peer = f state.peer }

module _ {S T : Type 0} (f : S → T) (K : S → Type 0) (answers : S → ℕ → List ℕ → Outcome → S → Type 0) (others : T → ℕ → List ℕ → Outcome → T → Type 0)
    (keeps : (old new : S) (moment : ℕ) (payload : List ℕ) (outcome : Outcome) → K old → answers old moment payload outcome new → K new × others (f old) moment payload outcome (f new)) where
  turn_taken : (turn : Turn) (before after : SessionState S) → K before.peer → IsTurn answers turn before after → K after.peer × IsTurn others turn (taken_for f before) (taken_for f after)
  turn_taken turn before after k is =
      let next = keeps before.peer after.peer turn.moment turn.payload turn.outcome k is.outcome in
      (next.0, record { payload = is.payload; moment = is.moment; outcome = next.1 })

  run_taken : (turns : List Turn) (before after : SessionState S) → K before.peer → Run answers turns before after → K after.peer × Run others turns (taken_for f before) (taken_for f after)
  run_taken [] before after k run = (rw run k, ap (λ (s : SessionState S). taken_for f s) run)
  run_taken (turn ∷ turns) before after k run =
      let one = turn_taken turn before run.1 k run.2 in
      let more = run_taken turns run.1 after one.0 run.3 in
      (more.0, (run.0, taken_for f run.1, one.1, more.1))

  rests_taken : (before after : SessionState S) → K before.peer → Rests before after → K after.peer × Rests (taken_for f before) (taken_for f after)
  rests_taken before after k rests = (rw rests.peer k, record { clock = rests.clock; peer = ap f rests.peer })

  ends_taken : (end : SessionEnd) (turns : List Turn) (before : SessionState S) (last : List ℕ) (after : SessionState S) → K before.peer → EndsSession answers end turns before last after
      → K after.peer × EndsSession others end turns (taken_for f before) last (taken_for f after)
  ends_taken End turns before last after k e = let r = rests_taken before after k e.2 in (r.0, (e.0, e.1, r.1))
  ends_taken Cut turns before last after k e = let r = rests_taken before after k e.2 in (r.0, (e.0, e.1, r.1))
  ends_taken Length turns before last after k e = let r = rests_taken before after k e.2 in (r.0, (e.0, e.1, r.1))
  ends_taken ReadFault turns before last after k e = let r = rests_taken before after k e.1 in (r.0, (e.0, r.1))
  ends_taken Logout turns before last after k e = let t = turn_taken e.0 before after k e.1 in (t.0, (e.0, t.1, e.2, e.3))
  ends_taken Lost turns before last after k (inl e) = let t = turn_taken e.0 before after k e.1 in (t.0, inl (e.0, t.1, e.2, e.3))
  ends_taken Lost turns before last after k (inr e) = let r = rests_taken before after k e.2 in (r.0, inr (e.0, e.1, r.1))
  ends_taken WriteFault turns before last after k (inl (turn, is, less)) = let t = turn_taken turn before after k is in (t.0, inl (turn, t.1, less))
  ends_taken WriteFault turns before last after k (inr (why, rests, less)) = let r = rests_taken before after k rests in (r.0, inr (why, r.1, less))

  pub session_taken : (before : SessionState S) (written : List ℕ) (after : SessionState S) (end : SessionEnd) → K before.peer → Session answers before written after end
      → K after.peer × Session others (taken_for f before) written (taken_for f after) end
  session_taken before written after end k s =
      let run = run_taken s.turns before s.reached k s.run in
      let ends = ends_taken end s.turns s.reached s.last after run.0 s.ends in
      (ends.0, record { turns = s.turns; reached = taken_for f s.reached; last = s.last; run = run.1; ends = ends.1; bytes = s.bytes })
