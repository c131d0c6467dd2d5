-- The first byte of a connection, which is read and given back; and its session.
use Rattle.std.proofs.Common.{◌≡◌, inl, inr, ℕ, zero, suc, ◌+◌, ◌/◌, ◌<◌, Option, Some, None, List, [], ◌∷◌, length, take, Bool, refl, sym, ap, ◌∙◌, subst, arith}
use Rattle.std.specs.{Prelude.IfSome, Fmt.option_append, Io.KnownBytes.{Consumes, IsAtEnd}}
use Rattle.policy.specs.Rules.{PolicyRules}
use Rattle.frames.specs.{Outcomes.Outcome, Sessions.{Session, SessionState}, declared.session.SessionEnd.SessionEnd}
use Rattle.server.specs.{Connections.{Agrees, AnswersAt, Desk, FramesBeginConnections, IsServed, Serves, begins_frame}, Http.AnswersHttp}
use Rattle.server.specs.declared.{connection.ConnectionEnd.ConnectionEnd, http.HttpEnd.HttpEnd}
use Rattle.eppwire.proofs.FollowLemmas.{answers_follow, follows-on, same_follows}
use Rattle.server.specs.declared.connection.ConnectionEnd.TheVariants as ends
use Rattle.server.specs.declared.http.HttpEnd.TheVariants as http
use Rattle.server.proofs.PeerLemmas.{session_taken, taken_for}
use Rattle.books.specs.Book.{BookState, Follows}

-- The one byte that is asked for decides, or the end; and what was read and the rest are the input.
pub begun : (is : Bool) (input rest taken : Option (List ℕ)) (count : ℕ) (buffer : List ℕ)
    → length buffer ≡ 1 → Consumes input rest (take count buffer) → (count < length buffer → IsAtEnd rest)
    → begins_frame (take count buffer) ≡ is → taken ≡ option_append (Some (take count buffer)) rest → IfSome input (λ bytes. begins_frame bytes ≡ is) × Agrees input taken
begun is None rest taken count buffer one c end e all = (tt, tt)
begun is (Some bytes) None taken count buffer one c end e all = absurd c
begun is (Some bytes) (Some rest) taken count [] one c end e all = absurd cc
begun is (Some bytes) (Some rest) taken zero (byte ∷ more) one c end e all = (rw (c, end (omega arith)) e, all ∙ ap Some (sym c))
begun is (Some bytes) (Some rest) taken (suc count) (byte ∷ more) one c end e all = (rw c e, all ∙ ap Some (sym c))

-- a session of a peer that answers as a registry does, from when nobody is logged in
pub served : {S : Type 0} (policy : S → PolicyRules) (passwords : S → List (List ℕ)) (desk : S → Desk) (answers : S → ℕ → List ℕ → Outcome → S → Type 0)
    → ((old new : S) (moment : ℕ) (payload : List ℕ) (outcome : Outcome) → answers old moment payload outcome new
    → AnswersAt (policy old) (passwords old) (desk old) moment payload outcome (desk new) × (policy new ≡ policy old) × (passwords new ≡ passwords old))
    → (p : PolicyRules) (g : List (List ℕ)) (old new : BookState) (before : SessionState S) (written : List ℕ) (after : SessionState S) (end : SessionEnd)
    → policy before.peer ≡ p → passwords before.peer ≡ g → desk before.peer ≡ record { caller = None; book = old }
    → (desk after.peer).book ≡ new → Session answers before written after end → (policy after.peer ≡ p) × IsServed p g before.input before.clock old written after.clock new end
served {S} policy passwords desk answers are p g old new before written after end kept known start left s =
    let taken = session_taken desk K answers (AnswersAt p g) (λ x y moment payload outcome k a. keeps x y moment payload outcome k (are x y moment payload outcome a)) before written after end (kept, known, from) s in
    let from_start = subst (λ (d : Desk). Session (AnswersAt p g) (record { input = before.input; clock = before.clock; peer = d }) written (taken_for desk after) end) start taken.1 in
    let is : IsServed p g before.input before.clock old written after.clock (desk after.peer).book end = record { rest = after.input; caller = (desk after.peer).caller; session = from_start; follows = taken.0.2 } in
    (taken.0.0, subst (λ (b : BookState). IsServed p g before.input before.clock old written after.clock b end) left is)
  where
    K : S → Type 0
    K x = (policy x ≡ p) × (passwords x ≡ g) × Follows old (desk x).book

    from : Follows old (desk before.peer).book
    from = same_follows old (desk before.peer).book (ap (λ (d : Desk). d.book) start)

    keeps : (x y : S) (moment : ℕ) (payload : List ℕ) (outcome : Outcome) → K x
        → AnswersAt (policy x) (passwords x) (desk x) moment payload outcome (desk y) × (policy y ≡ policy x) × (passwords y ≡ passwords x)
        → K y × AnswersAt p g (desk x) moment payload outcome (desk y)
    keeps x y moment payload outcome k a =
        let next = answers_follow (policy x) (passwords x) (desk x).caller payload moment (desk x).book outcome (desk y).book (desk y).caller a.0 in (
          (a.1 ∙ k.0, a.2 ∙ k.1, follows-on old (desk x).book (desk y).book k.2 next),
          subst (λ (h : List (List ℕ)). AnswersAt p h (desk x) moment payload outcome (desk y)) k.1
              (subst (λ (q : PolicyRules). AnswersAt q (passwords x) (desk x) moment payload outcome (desk y)) k.0 a.0),
        )

-- ---- what was taken wrongly isn't forgotten

answer_follows : (p : PolicyRules) (input clock : Option (List ℕ)) (old : BookState) (before after later : Option (List ℕ)) (new : BookState) (end : HttpEnd) → AnswersHttp p input clock old before after later new end → Follows old new
answer_follows p input clock old before after later new http.Answered answers = answers.2.passes.follows
answer_follows p input clock old before after later new http.Unanswered (nothing, inl none) = same_follows old new none.1
answer_follows p input clock old before after later new http.Unanswered (nothing, inr asked) = asked.2.follows
answer_follows p input clock old before after later new http.WriteFault answers = answers.2.1.passes.follows

pub connection_follows : (p : PolicyRules) (g : List (List ℕ)) (input clock : Option (List ℕ)) (old : BookState) (before after later : Option (List ℕ)) (new : BookState) (end : ConnectionEnd) → Serves p g input clock old before after later new end → Follows old new
connection_follows p g input clock old before after later new (ends.Session end) serves = serves.3.2.follows
connection_follows p g input clock old before after later new (ends.Http end) serves = answer_follows p serves.1 clock old before after later new end serves.3
connection_follows p g input clock old before after later new ends.Unread serves = same_follows old new serves.2

-- ---- frames

pub frames_begin : FramesBeginConnections
frames_begin payload rest is =
    let small : (length payload + 4) / 16777216 ≡ 0 = omega (arith, is.1) in
    rw small refl
