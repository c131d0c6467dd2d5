-- Two sessions over one input, with registries that are alike, are sent the same, and stay alike.
use Rattle.std.proofs.Common.{◌≡◌, ◌⊎◌, inl, inr, ℕ, true, false, true≢false, List, [], ◌∷◌, ◌++◌, map, drop, Option, Some, None, refl, sym, ap, subst, ◌∙◌, append_assoc, append-nil}
use Rattle.std.proofs.lemmas.Bool.{and_parts}
use Rattle.std.specs.{Prelude.IfSome, List.list_all}
use Rattle.eppwire.specs.Answers.{IsSentOrLost}
use Rattle.frames.specs.Clocks as clocks
use Rattle.frames.specs.Frames.{Ending, Takes, bad_length, closed, complete, cut, frame, front, over}
use Rattle.frames.specs.Outcomes.{Outcome, end_with, ended, failed, lost, replied, sent}
use Rattle.frames.specs.{Sessions.{IsAtEnding, IsTurn, Rests, Run, Session, SessionState, Turn, frames}, Texts.closing_text}
use Rattle.frames.specs.declared.session.SessionEnd.{SessionEnd, TheVariants.{Logout, End, Cut, Length, ReadFault, WriteFault, Lost}}
use Rattle.isolation.specs.Alike as pairs
use Rattle.isolation.specs.{Alike.{AreAlikeInTurn, IsAlike}, Redaction.{Objects, redacted}}
use Rattle.isolation.specs.Runs.{Answer, Question, effect_of, is_asked_by, left_by_question}
use Rattle.isolation.proofs.RunLemmas.{calls-are-steps-of-two}
use Rattle.model.specs.{Lapse.now, Registry.Registry}
use Rattle.policy.specs.Rules.{PolicyRules}
use Rattle.runs.specs.Runs.{IsRun}
use Rattle.runs.proofs.SettlementLemmas.{answers-are-determined, found-alike}
use Rattle.server.specs.Connections.{AnswersAt, Desk}
use Rattle.server.specs.SessionRuns.{AreAnswered, AreOneFor, IsUndisturbed, SessionsAreAlike, SessionsAreSentTheSame, SessionsTellTheSame, are_sent, asked_in, asked_over, caller_after, has_failed, has_text, is_calm, logout_of, outcome_by, questions_by_turn, questions_said, said, sames}
use Rattle.server.proofs.SessionRunLemmas.{IsOne, one-turn, run-follows, turn-follows}

-- ---- what is known of one session

text-carried-out : (o : Outcome) → has_text o ≡ true → has_failed o ≡ false
text-carried-out (replied text) e = refl
text-carried-out (ended text) e = refl
text-carried-out failed e = absurd (true≢false (sym e))
text-carried-out lost e = refl

text-told : (wanted o : Outcome) → has_text o ≡ true → IsSentOrLost wanted o → o ≡ wanted
text-told wanted o e (inl is) = is
text-told wanted o e (inr none) = absurd (true≢false (sym e ∙ ap has_text none))

takes-once : (input xs ys : List ℕ) (c d : Option (List ℕ)) → Takes xs (Some input) c → Takes ys (Some input) d → (xs ≡ ys) × (rest : List ℕ) × (c ≡ Some rest) × (d ≡ Some rest)
takes-once input xs ys None d one two = absurd one
takes-once input xs ys (Some r) None one two = absurd two
takes-once input xs ys (Some r) (Some s) one two =
    let same : complete xs r ≡ complete ys s = sym one ∙ two in
    let payloads : xs ≡ ys = cc in
    let rests : s ≡ r = cc in
    (payloads, r, refl, ap Some rests)

tells-once : (clock : List ℕ) (m n : ℕ) (c d : Option (List ℕ)) → clocks.Tells (Some clock) c m → clocks.Tells (Some clock) d n → (m ≡ n) × (rest : List ℕ) × (c ≡ Some rest) × (d ≡ Some rest)
tells-once [] m n c d one two = (one.0 ∙ sym two.0, [], one.1, two.1)
tells-once (next ∷ later) m n c d one two = (one.0 ∙ sym two.0, later, one.1, two.1)

-- ---- a session that isn't disturbed

-- what it sends last, and how it ends, where its input ends it
abbrev last_text : Ending → List ℕ
last_text closed = []
last_text cut = []
last_text bad_length = frame closing_text

abbrev end_at : Ending → SessionEnd
end_at closed = End
end_at cut = Cut
end_at bad_length = Length

record IsOver (mid : SessionState Desk) (last : List ℕ) (end : SessionEnd) (new : SessionState Desk) : Type 0 where
  pub ending : Ending
  pub at : IsAtEnding ending mid
  pub last_is : last ≡ last_text ending
  pub end_is : end ≡ end_at ending
  pub rests : Rests mid new

-- nothing comes after a logout, with which it ends
abbrev IsDone : List Turn → List ℕ → SessionState Desk → SessionEnd → SessionState Desk → Type 0
IsDone turns rest next end new = (turns ≡ []) × (rest ≡ []) × (end ≡ Logout) × (new ≡ next)

-- What it writes from a state on, and how it ends: it is sent a text for each of its frames, its logout among them.
abbrev Goes : PolicyRules → List (List ℕ) → List Turn → SessionState Desk → List ℕ → SessionEnd → SessionState Desk → Type 0
Goes p g [] a written end new = IsOver a written end new
Goes p g (turn ∷ turns) a written end new =
    (next : SessionState Desk) × (rest : List ℕ) × IsTurn (AnswersAt p g) turn a next × (next.peer.book.is_clean ≡ true) × (has_text turn.outcome ≡ true)
    × (written ≡ frame (sent turn.outcome) ++ rest)
    × (((end_with turn.outcome ≡ None) × Goes p g turns next rest end new) ⊎ ((end_with turn.outcome ≡ Some Logout) × IsDone turns rest next end new))

logout-text : (o : Outcome) → end_with o ≡ Some Logout → has_text o ≡ true
logout-text (replied text) e = refl
logout-text (ended text) e = refl
logout-text failed e = absurd cc
logout-text lost e = absurd cc

calm-end : (p : PolicyRules) (g : List (List ℕ)) (old new : SessionState Desk) (written : List ℕ) (end : SessionEnd) (s : Session (AnswersAt p g) old written new end)
    → new.peer.book.is_clean ≡ true → is_calm end ≡ true → Goes p g (logout_of end s) s.reached s.last end new
calm-end p g old new written End s clean calm = record { ending = closed; at = s.ends.0; last_is = s.ends.1; end_is = refl; rests = s.ends.2 }
calm-end p g old new written Cut s clean calm = record { ending = cut; at = s.ends.0; last_is = s.ends.1; end_is = refl; rests = s.ends.2 }
calm-end p g old new written Length s clean calm = record { ending = bad_length; at = s.ends.0; last_is = s.ends.1; end_is = refl; rests = s.ends.2 }
calm-end p g old new written Logout s clean calm =
    let bytes : s.last ≡ frame (sent (s.ends.0).outcome) ++ [] = s.ends.3 ∙ sym (append-nil (frame (sent (s.ends.0).outcome))) in
    (new, [], s.ends.1, clean, logout-text (s.ends.0).outcome s.ends.2, bytes, inr (s.ends.2, (refl, refl, refl, refl)))
calm-end p g old new written ReadFault s clean calm = absurd (true≢false (sym calm))
calm-end p g old new written WriteFault s clean calm = absurd (true≢false (sym calm))
calm-end p g old new written Lost s clean calm = absurd (true≢false (sym calm))

goes-clean : (p : PolicyRules) (g : List (List ℕ)) (turns : List Turn) (a new : SessionState Desk) (written : List ℕ) (end : SessionEnd)
    → Goes p g turns a written end new → new.peer.book.is_clean ≡ true → a.peer.book.is_clean ≡ true
goes-clean p g [] a new written end o clean = ap (λ (d : Desk). d.book.is_clean) (sym o.rests.peer) ∙ clean
goes-clean p g (turn ∷ turns) a new written end (next, rest, is, still, text, bytes, how) clean = (turn-follows p g turn a next is).clean still

run-goes : (p : PolicyRules) (g : List (List ℕ)) (turns more : List Turn) (a mid new : SessionState Desk) (last : List ℕ) (end : SessionEnd)
    → Run (AnswersAt p g) turns a mid → mid.peer.book.is_clean ≡ true → are_sent turns ≡ true
    → Goes p g more mid last end new → Goes p g (turns ++ more) a (frames turns ++ last) end new
run-goes p g [] more a mid new last end same still all go = subst (λ (s : SessionState Desk). Goes p g more s last end new) same go
run-goes p g (turn ∷ turns) more a mid new last end (goes, next, is, run) still all go =
    let both = and_parts (has_text turn.outcome) (are_sent turns) all in
    let bytes = append_assoc (frame (sent turn.outcome)) (frames turns) last in
    (next, frames turns ++ last, is, (run-follows p g turns next mid run).clean still, both.0, bytes, inl (goes, run-goes p g turns more next mid new last end run still both.1 go))

undisturbed-goes : (p : PolicyRules) (g : List (List ℕ)) (input clock : List ℕ) (old new : SessionState Desk) (written : List ℕ) (end : SessionEnd)
    (one : IsUndisturbed p g input clock old written new end) → Goes p g (one.session.turns ++ logout_of end one.session) old written end new
undisturbed-goes p g input clock old new written end one =
    let s = one.session in
    let last = calm-end p g old new written end s one.clean one.calm in
    subst (λ (w : List ℕ). Goes p g (s.turns ++ logout_of end s) old w end new) (sym s.bytes)
    (run-goes p g s.turns (logout_of end s) old s.reached new s.last end s.run (goes-clean p g (logout_of end s) s.reached new s.last end last one.clean) one.texts last)

never-both : (o : Outcome) → end_with o ≡ Some Logout → end_with o ≡ None → ⊥
never-both o some none = let never : Some Logout ≡ None = sym some ∙ none in absurd cc

-- what is left of its input
front-is : (a : SessionState Desk) (input : List ℕ) (ending : Ending) → a.input ≡ Some input → IsAtEnding ending a → front input ≡ over ending
front-is a input ending is at = subst (λ (i : Option (List ℕ)). IfSome i (λ bytes. front bytes ≡ over ending)) is at

-- an input that is over for one has no frame for the other
over-takes : (a b : SessionState Desk) (input : List ℕ) (ending : Ending) (payload : List ℕ) (c : Option (List ℕ)) → a.input ≡ Some input → b.input ≡ Some input → IsAtEnding ending a → Takes payload b.input c → ⊥
over-takes a b input ending payload None first second at takes = subst (λ (i : Option (List ℕ)). Takes payload i None) second takes
over-takes a b input ending payload (Some rest) first second at takes =
    let never : over ending ≡ complete payload rest = sym (front-is a input ending first at) ∙ subst (λ (i : Option (List ℕ)). Takes payload i (Some rest)) second takes in
    absurd cc

-- ---- two sessions, with registries that stay alike

-- `Held` says how alike two registries are before these questions. Both answer the first of them the same, and are as
-- alike before the rest.
abbrev StayAlike : PolicyRules → (List (ℕ × Question) → Registry → Registry → Type 0) → Type 0
StayAlike p Held = (xs rest : List (ℕ × Question)) (firsts seconds : List Answer) (s t u v : Registry) → Held (xs ++ rest) s t → IsRun p xs firsts s u → IsRun p xs seconds t v → (firsts ≡ seconds) × Held rest u v

module _ (p : PolicyRules) (g : List (List ℕ)) (Held : List (ℕ × Question) → Registry → Registry → Type 0) (stay : StayAlike p Held) where
  abbrev HeldIn : List (ℕ × Question) → SessionState Desk → SessionState Desk → Type 0
  HeldIn questions a b = Held questions a.peer.book.content.registry b.peer.book.content.registry

  -- both answer one frame the same
  same-turn : (caller next last : Option ℕ) (x y : Turn) (rest : List (ℕ × Question)) (s t u v : Registry) → Held (questions_by_turn caller x ++ rest) s t → IsOne p g caller x s u next → IsOne p g caller y t v last
      → x.moment ≡ y.moment → x.payload ≡ y.payload → has_text x.outcome ≡ true → has_text y.outcome ≡ true → (x ≡ y) × Held rest u v
  same-turn caller next last x y rest s t u v held one two moments payloads text text2 =
      let carried : has_failed x.outcome ≡ false = text-carried-out x.outcome text in
      let carried2 : has_failed y.outcome ≡ false = text-carried-out y.outcome text2 in
      let asked : questions_by_turn caller y ≡ questions_by_turn caller x =
      rw (carried, carried2) (sym (λ i. map (λ (q : Question). (moments i, q)) (questions_said caller (payloads i)))) in
      let answered : (one.answers ≡ two.answers) × Held rest u v =
      stay (questions_by_turn caller x) rest one.answers two.answers s t u v held one.run (subst (λ (qs : List (ℕ × Question)). IsRun p qs two.answers t v) asked two.run) in
      let outcomes : x.outcome ≡ y.outcome =
      text-told (outcome_by p g caller x.payload one.answers) x.outcome text (one.answer_is carried)
      ∙ (λ i. outcome_by p g caller (payloads i) (answered.0 i))
      ∙ sym (text-told (outcome_by p g caller y.payload two.answers) y.outcome text2 (two.answer_is carried2)) in
      ((λ i. record { payload = payloads i; moment = moments i; outcome = outcomes i }), answered.1)

  -- two sessions that have come equally far, and what the first has yet to answer
  record AreEven (turns : List Turn) (a b : SessionState Desk) : Type 0 where
    pub input : List ℕ
    pub clock : List ℕ
    pub first_input : a.input ≡ Some input
    pub second_input : b.input ≡ Some input
    pub first_clock : a.clock ≡ Some clock
    pub second_clock : b.clock ≡ Some clock
    pub caller : a.peer.caller ≡ b.peer.caller
    pub held : HeldIn (asked_over p g a.peer.caller turns) a b

  even-turn : (x y : Turn) (turns : List Turn) (a b c d : SessionState Desk) → AreEven (x ∷ turns) a b → IsTurn (AnswersAt p g) x a c → IsTurn (AnswersAt p g) y b d → c.peer.book.is_clean ≡ true → d.peer.book.is_clean ≡ true
      → has_text x.outcome ≡ true → has_text y.outcome ≡ true → (x ≡ y) × AreEven turns c d
  even-turn x y turns a b c d even one two clean clean2 text text2 =
      let frame-taken = takes-once even.input x.payload y.payload c.input d.input
      (subst (λ (i : Option (List ℕ)). Takes x.payload i c.input) even.first_input one.payload)
      (subst (λ (i : Option (List ℕ)). Takes y.payload i d.input) even.second_input two.payload) in
      let moment-told = tells-once even.clock x.moment y.moment c.clock d.clock
      (subst (λ (i : Option (List ℕ)). clocks.Tells i c.clock x.moment) even.first_clock one.moment)
      (subst (λ (i : Option (List ℕ)). clocks.Tells i d.clock y.moment) even.second_clock two.moment) in
      let first = one-turn p g x a.peer.book c.peer.book clean a.peer.caller c.peer.caller one.outcome in
      let second = one-turn p g y b.peer.book d.peer.book clean2 b.peer.caller d.peer.caller two.outcome in
      let both = same-turn a.peer.caller c.peer.caller d.peer.caller x y (asked_over p g (caller_after p g a.peer.caller x) turns) _ _ _ _ even.held first
      (subst (λ (r : Option ℕ). IsOne p g r y b.peer.book.content.registry d.peer.book.content.registry d.peer.caller) (sym even.caller) second) moment-told.0 frame-taken.0 text text2 in (
        both.0,
        record {
          input = frame-taken.1;
          clock = moment-told.1;
          first_input = frame-taken.2;
          second_input = frame-taken.3;
          first_clock = moment-told.2;
          second_clock = moment-told.3;
          caller = first.sender ∙ (λ i. caller_after p g (even.caller i) (both.0 i)) ∙ sym second.sender;
          held = subst (λ (r : Option ℕ). HeldIn (asked_over p g r turns) c d) (sym first.sender) both.1;
        },
      )

  module _ (new new2 : SessionState Desk) (end end2 : SessionEnd) where
    abbrev EndAlike : List ℕ → List ℕ → Type 0
    EndAlike written told = (written ≡ told) × (end ≡ end2) × HeldIn [] new new2

    both-over : (a b : SessionState Desk) (last last2 : List ℕ) → AreEven [] a b → IsOver a last end new → IsOver b last2 end2 new2 → EndAlike last last2
    both-over a b last last2 even o q =
        let overs : over o.ending ≡ over q.ending = sym (front-is a even.input o.ending even.first_input o.at) ∙ front-is b even.input q.ending even.second_input q.at in
        let endings : o.ending ≡ q.ending = cc in
        (o.last_is ∙ ap last_text endings ∙ sym q.last_is, o.end_is ∙ ap end_at endings ∙ sym q.end_is, rw (o.rests.peer, q.rests.peer) even.held)

    both-done : (xs ys : List Turn) (a b : SessionState Desk) (rest rest2 : List ℕ) → AreEven xs a b → IsDone xs rest a end new → IsDone ys rest2 b end2 new2 → EndAlike rest rest2
    both-done xs ys a b rest rest2 even (none, nothing, ends, same) (none2, nothing2, ends2, same2) =
        let held : HeldIn [] a b = subst (λ (turns : List Turn). HeldIn (asked_over p g a.peer.caller turns) a b) none even.held in
        (nothing ∙ sym nothing2, ends ∙ sym ends2, rw (same, same2) held)

    goes-alike : (xs ys : List Turn) (a b : SessionState Desk) (written told : List ℕ) → AreEven xs a b → Goes p g xs a written end new → Goes p g ys b told end2 new2 → EndAlike written told
    goes-alike [] [] a b written told even o q = both-over a b written told even o q
    goes-alike [] (y ∷ ys) a b written told even o (next2, rest2, is2, still2, text2, bytes2, how2) =
        absurd (over-takes a b even.input o.ending y.payload next2.input even.first_input even.second_input o.at is2.payload)
    goes-alike (x ∷ xs) [] a b written told even (next, rest, is, still, text, bytes, how) q =
        absurd (over-takes b a even.input q.ending x.payload next.input even.second_input even.first_input q.at is.payload)
    goes-alike (x ∷ xs) (y ∷ ys) a b written told even (next, rest, is, still, text, bytes, how) (next2, rest2, is2, still2, text2, bytes2, how2) =
        let it = even-turn x y xs a b next next2 even is is2 still still2 text text2 in
        let ends : end_with x.outcome ≡ end_with y.outcome = ap (λ (t : Turn). end_with t.outcome) it.0 in
        let more : EndAlike rest rest2 = elim how [
          | inl (on, go) ↦ elim how2 [
            | inl (on2, go2) ↦ goes-alike xs ys next next2 rest rest2 it.1 go go2
            | inr (out2, done2) ↦ absurd (never-both y.outcome out2 (sym ends ∙ on))
          ]
          | inr (out, done) ↦ elim how2 [
            | inl (on2, go2) ↦ absurd (never-both x.outcome out (ends ∙ on2))
            | inr (out2, done2) ↦ both-done xs ys next next2 rest rest2 it.1 done done2
          ]
        ] in
        (bytes ∙ (λ i. frame (sent (it.0 i).outcome) ++ more.0 i) ∙ sym bytes2, more.1, more.2)

  undisturbed-alike : (input clock : List ℕ) (old other new another : SessionState Desk) (written sent : List ℕ) (end ending : SessionEnd) (one : IsUndisturbed p g input clock old written new end) → IsUndisturbed p g input clock other sent another ending → old.peer.caller ≡ other.peer.caller
      → HeldIn (asked_in one) old other → (written ≡ sent) × (end ≡ ending) × HeldIn [] new another
  undisturbed-alike input clock old other new another written sent end ending one two caller held =
      let even : AreEven (one.session.turns ++ logout_of end one.session) old other = record {
        input = input;
        clock = clock;
        first_input = one.input_is;
        second_input = two.input_is;
        first_clock = one.clock_is;
        second_clock = two.clock_is;
        caller = caller;
        held = held;
      } in
      goes-alike new another end ending (one.session.turns ++ logout_of end one.session) (two.session.turns ++ logout_of ending two.session) old other written sent even
      (undisturbed-goes p g input clock old new written end one) (undisturbed-goes p g input clock other another sent ending two)

-- ---- registries that are the same now

abbrev AreSame : PolicyRules → List (ℕ × Question) → Registry → Registry → Type 0
AreSame p questions s t = now p s ≡ now p t

stay-same : (p : PolicyRules) → StayAlike p (AreSame p)
stay-same p xs rest = answers-are-determined p xs

pub sessions-are-sent-the-same : SessionsAreSentTheSame
sessions-are-sent-the-same p g caller [] [] s t x y same one other alike all every = (refl, ap (now p) one ∙ same ∙ sym (ap (now p) other))
sessions-are-sent-the-same p g caller [] (b ∷ ys) s t x y same one other alike all every = absurd cc
sessions-are-sent-the-same p g caller (a ∷ xs) [] s t x y same one other alike all every = absurd cc
sessions-are-sent-the-same p g caller (a ∷ xs) (b ∷ ys) s t x y same (firsts, u, run, answer_is, more) (seconds, v, run2, answer_is2, more2) alike all every =
    let both = and_parts (has_text a.outcome) (are_sent xs) all in
    let both2 = and_parts (has_text b.outcome) (are_sent ys) every in
    let both_said : (a.moment, a.payload) ∷ said xs ≡ (b.moment, b.payload) ∷ said ys = alike in
    let here : (a.moment, a.payload) ≡ (b.moment, b.payload) = cc in
    let turns = same-turn p g (AreSame p) (stay-same p) caller (caller_after p g caller a) (caller_after p g caller b) a b [] s t u v same
    (record { answers = firsts; run = run; answer_is = answer_is; sender = refl }) (record { answers = seconds; run = run2; answer_is = answer_is2; sender = refl })
    (ap (λ (z : ℕ × List ℕ). z.0) here) (ap (λ (z : ℕ × List ℕ). z.1) here) both.0 both2.0 in
    let rest = sessions-are-sent-the-same p g (caller_after p g caller a) xs ys u v x y turns.1 more
    (subst (λ (c : Option ℕ). AreAnswered p g c ys v y) (sym (ap (caller_after p g caller) turns.0)) more2) (ap (drop 1) alike) both.1 both2.1 in
    ((λ i. turns.0 i ∷ rest.0 i), rest.1)

pub sessions-are-alike : SessionsAreAlike
sessions-are-alike p g = undisturbed-alike p g (AreSame p) (stay-same p)

-- ---- registries that differ in what others hide

module _ (p : PolicyRules) (r : ℕ) (touched : Objects) where
  -- these questions are alike in both
  abbrev AreAsked : List (ℕ × Question) → Registry → Registry → Type 0
  AreAsked questions s t = AreAlikeInTurn p r touched (sames questions) s t

  -- and so they are in what is the same now
  asked-now : (questions : List (ℕ × Question)) (s t u v : Registry) → now p u ≡ now p s → now p v ≡ now p t → AreAsked questions s t → AreAsked questions u v
  asked-now [] s t u v one two asked = asked
  asked-now (q ∷ questions) s t u v one two asked =
      subst (λ (x : Registry × Registry). IsAlike p r touched (pairs.same q.1) x.0 x.1 × AreAsked questions (effect_of p q.1 x.0) (effect_of p q.1 x.1))
      (λ i. (found-alike p q.0 s u (sym one) i, found-alike p q.0 t v (sym two) i)) asked

  stay-one : StayAlike p (AreOneFor p r touched)
  stay-one [] rest firsts seconds s t u v held one two =
      (one.0 ∙ sym two.0, subst (λ (x : Registry). AreOneFor p r touched rest x v) (sym one.1) (subst (λ (x : Registry). AreOneFor p r touched rest s x) (sym two.1) held))
  stay-one (q ∷ xs) rest firsts seconds s t u v held (a, more, m, parts, called, run) (b, more2, n, parts2, called2, run2) =
      let asks = and_parts (is_asked_by r q.1) (list_all (λ (x : ℕ × Question). is_asked_by r x.1) (xs ++ rest)) held.asks in
      let step = (calls-are-steps-of-two p q.0 q.1 s m a called.answered called.left).alike r touched (pairs.same q.1) t refl held.one held.alike.0 in
      let next : AreOneFor p r touched (xs ++ rest) m n = record {
        one = step.left ∙ ap (redacted r touched) (sym called2.left);
        asks = asks.1;
        alike = asked-now (xs ++ rest) (left_by_question p q s) (left_by_question p q t) m n called.left called2.left held.alike.1;
      } in
      let there = stay-one xs rest more more2 m n u v next run run2 in
      (parts ∙ (λ i. (step.answer_is asks.0 ∙ sym called2.answered) i ∷ there.0 i) ∙ sym parts2, there.1)

pub sessions-tell-the-same : SessionsTellTheSame
sessions-tell-the-same p g r touched input clock old other new another written sent end ending one two caller held =
    let it = undisturbed-alike p g (AreOneFor p r touched) (stay-one p r touched) input clock old other new another written sent end ending one two caller held in
    (it.0, it.1, it.2.one)
