-- The frames of a session are answered one after another, and that is a run.
use Rattle.std.proofs.Common.{◌≡◌, ◌⊎◌, inl, inr, ℕ, ◌+◌, arith, length, length-append, Bool, true, false, true≢false, List, [], ◌∷◌, ◌++◌, map, Option, Some, None, refl, sym, ap, subst, ◌∙◌, append_assoc, append-nil}
use Rattle.std.proofs.{Math.Seq.take-append-add, lemmas.Grind.flat_map-append}
use Rattle.std.specs.Prelude.{if◌then◌else◌}
use lib.Seq.{take-append-le}
use Rattle.streams.specs.Moves.{IsLess}
use Rattle.eppcommands.specs.Session.{before_login, in_session}
use Rattle.frames.specs.{Frames.frame, Texts.closing_text, Outcomes.{Outcome, ended, failed, replied, sent}}
use Rattle.frames.specs.{Sessions.{EndsSession, IsTurn, Rests, Run, SessionState, Turn, frames}, declared.session.SessionEnd.SessionEnd}
use Rattle.frames.specs.declared.session.SessionEnd.TheVariants.{Logout, End, Cut, Length, ReadFault, WriteFault, Lost}
use Rattle.eppreplies.specs.Reply.{reply_text}
use Rattle.eppwire.specs.Answers.{Answers, AnswersHello, AnswersSaidBeforeLogin, AnswersSaid, FailsToAnswer, IsSentOrLost, is_last}
use Rattle.eppwire.proofs.FollowLemmas.{answers_follow, follows-on, same_follows}
use Rattle.model.specs.Registry.{Registry}
use Rattle.policy.specs.Rules.{PolicyRules}
use Rattle.isolation.specs.Runs.{Answer, IsCall, Question, command, date, dated, reply}
use Rattle.protocol.specs.declared.session.{BeforeLogin.BeforeLogin, InSession.InSession}
use Rattle.protocol.specs.declared.session.BeforeLogin.TheVariants as before
use Rattle.protocol.specs.declared.session.InSession.TheVariants as within
use Rattle.runs.specs.Runs.{IsRun}
use Rattle.server.specs.Connections.{AnswersAt, Desk}
use Rattle.server.specs.SessionRuns.{AreAnswered, AreHeard, AreRepliesWritten, IsAnsweredAll, IsLeftAt, PasswordsAreForLogins, SessionsAreAnswered, SessionsAreRuns, asked_over, caller_after, caller_with, first_outcome, has_failed, outcome_before, outcome_by, outcome_sent, question_within, questions_before, questions_by_turn, questions_said}
use Rattle.books.specs.Book.{BookState, Follows, Stored}

-- ---- one frame

-- what a frame made of the registry, and who sends the next one
pub record IsOne (p : PolicyRules) (g : List (List ℕ)) (caller : Option ℕ) (turn : Turn) (old new : Registry) (next : Option ℕ) : Type 0 where
  pub answers : List Answer
  pub run : IsRun p (questions_by_turn caller turn) answers old new
  pub answer_is : has_failed turn.outcome ≡ false → IsSentOrLost (outcome_by p g caller turn.payload answers) turn.outcome
  pub sender : next ≡ caller_after p g caller turn

caller-failed : (p : PolicyRules) (g : List (List ℕ)) (caller : Option ℕ) (turn : Turn) → has_failed turn.outcome ≡ true → caller_after p g caller turn ≡ caller
caller-failed p g None turn e = rw e refl
caller-failed p g (Some r) turn e = refl

told-so : (wanted outcome : Outcome) → has_failed wanted ≡ false → IsSentOrLost wanted outcome → has_failed outcome ≡ false
told-so wanted outcome is (inl e) = ap has_failed e ∙ is
told-so wanted outcome is (inr e) = ap has_failed e

last-told : (text : List ℕ) (b : Bool) → has_failed (let o : Outcome = if b then ended text else replied text in o) ≡ false
last-told text true = refl
last-told text false = refl

module _ (p : PolicyRules) (g : List (List ℕ)) (turn : Turn) (old new : BookState) (clean : new.is_clean ≡ true) where
  -- what couldn't be carried out left the registry as it was
  abbrev HasGivenUp : Type 0
  HasGivenUp = (turn.outcome ≡ failed) × (new.content.registry ≡ old.content.registry)

  gave-up : FailsToAnswer old turn.outcome new → HasGivenUp
  gave-up gives = (gives.0, ap (λ (held : Stored). held.registry) (gives.1.content clean))

  -- or these questions were asked, and this is sent for the answers
  record IsCarriedOut (questions : List Question) (wanted : List Answer → Outcome) : Type 0 where
    pub answers : List Answer
    pub run : IsRun p (map (λ q. (turn.moment, q)) questions) answers old.content.registry new.content.registry
    pub carried_out : has_failed turn.outcome ≡ false
    pub answer_is : IsSentOrLost (wanted answers) turn.outcome

  one-asked : (q : Question) (a : Answer) → IsCall p turn.moment q old.content.registry new.content.registry a
      → has_failed (outcome_sent a) ≡ false → IsSentOrLost (outcome_sent a) turn.outcome → IsCarriedOut (q ∷ []) first_outcome
  one-asked q a call told answer_is = record {
    answers = a ∷ [];
    run = (a, [], new.content.registry, refl, call, (refl, refl));
    carried_out = told-so (outcome_sent a) turn.outcome told answer_is;
    answer_is = answer_is;
  }

  none-asked : (wanted : Outcome) → has_failed wanted ≡ false → IsSentOrLost wanted turn.outcome → new ≡ old → IsCarriedOut [] (λ answers. wanted)
  none-asked wanted told answer_is same = record {
    answers = [];
    run = (refl, ap (λ (state : BookState). state.content.registry) same);
    carried_out = told-so wanted turn.outcome told answer_is;
    answer_is = answer_is;
  }

  hello-asked : AnswersHello p turn.moment old turn.outcome new → HasGivenUp ⊎ IsCarriedOut (date ∷ []) first_outcome
  hello-asked (inl gives) = inl (gave-up gives)
  hello-asked (inr greeted) = inr (one-asked date (dated greeted.date) (record { answered = ap dated (greeted.step clean).dated; left = (greeted.step clean).left }) refl greeted.answer_is)

  said-asked : (r : ℕ) (words : InSession) → AnswersSaid p r words turn.moment old turn.outcome new → HasGivenUp ⊎ IsCarriedOut (question_within r words ∷ []) first_outcome
  said-asked r within.Hello hello = hello-asked hello
  said-asked r (within.Ordinary c) (inl gives) = inl (gave-up gives)
  said-asked r (within.Ordinary c) (inr served) =
      inr (one-asked (command r c) (reply served.reply) (record { answered = ap reply (served.step clean).answered; left = (served.step clean).left })
      (last-told (reply_text served.reply) (is_last served.reply.code)) served.answer_is)

  -- before a login
  opening-asked : (words : BeforeLogin) (next : Option ℕ) → AnswersSaidBeforeLogin p g words turn.moment old turn.outcome new next
      → (HasGivenUp × (next ≡ None)) ⊎ (IsCarriedOut (questions_before words) (outcome_before p g words) × (next ≡ caller_with p g words))
  opening-asked before.Hello next (hello, nobody) = elim (hello-asked hello) [
    | inl gives ↦ inl (gives, nobody)
    | inr asked ↦ inr (asked, nobody)
  ]
  opening-asked (before.Login cl_trid c) next (login, same) = inr (none-asked _ refl login.answer_is same, login.logged_in)
  opening-asked (before.Refused cl_trid fault) next (answer_is, same, nobody) = inr (none-asked _ refl answer_is same, nobody)

  failed-one : (caller next : Option ℕ) → HasGivenUp → next ≡ caller → IsOne p g caller turn old.content.registry new.content.registry next
  failed-one caller next gives stays =
      let is : has_failed turn.outcome ≡ true = ap has_failed gives.0 in
      record {
        answers = [];
        run = rw is (refl, gives.1);
        answer_is = λ e. absurd (true≢false (sym is ∙ e));
        sender = stays ∙ sym (caller-failed p g caller turn is);
      }

  asked-one : (caller next : Option ℕ) → IsCarriedOut (questions_said caller turn.payload) (outcome_by p g caller turn.payload) → next ≡ caller_after p g caller turn
      → IsOne p g caller turn old.content.registry new.content.registry next
  asked-one caller next asked goes =
      record { answers = asked.answers; run = rw asked.carried_out asked.run; answer_is = λ e. asked.answer_is; sender = goes }

  pub one-turn : (caller next : Option ℕ) → Answers p g caller turn.payload turn.moment old turn.outcome new next → IsOne p g caller turn old.content.registry new.content.registry next
  one-turn None next (inl (gives, nobody)) = failed-one None next (gave-up gives) nobody
  one-turn None next (inr words) = elim (opening-asked (before_login turn.payload) next words) [
    | inl (gives, nobody) ↦ failed-one None next gives nobody
    | inr (asked, goes) ↦ asked-one None next asked (rw asked.carried_out goes)
  ]
  one-turn (Some r) next (inl gives, same) = failed-one (Some r) next (gave-up gives) same
  one-turn (Some r) next (inr words, same) = elim (said-asked r (in_session turn.payload) words) [
    | inl gives ↦ failed-one (Some r) next gives same
    | inr asked ↦ asked-one (Some r) next asked same
  ]

-- ---- frames one after another

pub turn-follows : (p : PolicyRules) (g : List (List ℕ)) (turn : Turn) (old new : SessionState Desk) → IsTurn (AnswersAt p g) turn old new → Follows old.peer.book new.peer.book
turn-follows p g turn old new is = answers_follow p g old.peer.caller turn.payload turn.moment old.peer.book turn.outcome new.peer.book new.peer.caller is.outcome

pub run-follows : (p : PolicyRules) (g : List (List ℕ)) (turns : List Turn) (old new : SessionState Desk) → Run (AnswersAt p g) turns old new → Follows old.peer.book new.peer.book
run-follows p g [] old new same = same_follows old.peer.book new.peer.book (ap (λ (s : SessionState Desk). s.peer.book) same)
run-follows p g (turn ∷ turns) old new (goes, next, is, more) = follows-on old.peer.book next.peer.book new.peer.book (turn-follows p g turn old next is) (run-follows p g turns next new more)

-- those of a run, and some that are answered behind them
answered-on : (p : PolicyRules) (g : List (List ℕ)) (turns rest : List Turn) (old mid : SessionState Desk) (new : Registry) → Run (AnswersAt p g) turns old mid → mid.peer.book.is_clean ≡ true
    → AreAnswered p g mid.peer.caller rest mid.peer.book.content.registry new → AreAnswered p g old.peer.caller (turns ++ rest) old.peer.book.content.registry new
answered-on p g [] rest old mid new same clean more = subst (λ (s : SessionState Desk). AreAnswered p g s.peer.caller rest s.peer.book.content.registry new) same more
answered-on p g (turn ∷ turns) rest old mid new (goes, next, is, run) clean more =
    let one = one-turn p g turn old.peer.book next.peer.book ((run-follows p g turns next mid run).clean clean) old.peer.caller next.peer.caller is.outcome in
    (one.answers, next.peer.book.content.registry, one.run, one.answer_is, subst (λ (c : Option ℕ). AreAnswered p g c (turns ++ rest) next.peer.book.content.registry new) one.sender (answered-on p g turns rest next mid new run clean more))

-- those that were heard in a run, and some that are behind them
heard-on : (p : PolicyRules) (g : List (List ℕ)) (turns rest : List Turn) (old mid : SessionState Desk) (input clock : Option (List ℕ)) → Run (AnswersAt p g) turns old mid
    → AreHeard rest mid.input mid.clock input clock → AreHeard (turns ++ rest) old.input old.clock input clock
heard-on p g [] rest old mid input clock same more = subst (λ (s : SessionState Desk). AreHeard rest s.input s.clock input clock) same more
heard-on p g (turn ∷ turns) rest old mid input clock (goes, next, is, run) more =
    (next.input, next.clock, is.payload, is.moment, heard-on p g turns rest next mid input clock run more)

-- ---- what was written

less-longer : (part xs zs : List ℕ) → IsLess part xs → IsLess part (xs ++ zs)
less-longer part xs zs (n, less, e) = (n, omega (arith, length-append xs zs), e ∙ sym (take-append-le n xs zs (omega arith)))

less-after : (us part all : List ℕ) → IsLess part all → IsLess (us ++ part) (us ++ all)
less-after us part all (n, less, e) = (length us + n, omega (arith, length-append us all), ap (λ l. us ++ l) e ∙ sym (take-append-add us all n))

frames-last : (turns : List Turn) (turn : Turn) → frames (turns ++ turn ∷ []) ≡ frames turns ++ frame (sent turn.outcome)
frames-last turns turn = flat_map-append (λ (t : Turn). frame (sent t.outcome)) turns (turn ∷ []) ∙ ap (λ l. frames turns ++ l) (append-nil (frame (sent turn.outcome)))

module _ (p : PolicyRules) (g : List (List ℕ)) (turns : List Turn) (old mid new : SessionState Desk) (written last : List ℕ) (run : Run (AnswersAt p g) turns old mid) (bytes : written ≡ frames turns ++ last) (clean : new.peer.book.is_clean ≡ true) where
  alone : last ≡ [] → written ≡ frames turns
  alone none = bytes ∙ ap (λ l. frames turns ++ l) none ∙ append-nil (frames turns)

  -- those of the run were answered, and these behind them
  behind : (end : SessionEnd) (rest : List Turn) (input : Option (List ℕ)) → Follows mid.peer.book new.peer.book → AreHeard rest mid.input mid.clock input new.clock
      → AreAnswered p g mid.peer.caller rest mid.peer.book.content.registry new.peer.book.content.registry
      → IsLeftAt end input → AreRepliesWritten end (turns ++ rest) written → IsAnsweredAll p g old written end new
  behind end rest input follows heard answered left wrote = record {
    turns = turns ++ rest;
    rest = input;
    heard = heard-on p g turns rest old mid input new.clock run heard;
    left = left;
    answered = answered-on p g turns rest old mid new.peer.book.content.registry run (follows.clean clean) answered;
    bytes = wrote;
  }

  -- the peer wasn't asked again
  resting : (end : SessionEnd) → Rests mid new → IsLeftAt end mid.input → AreRepliesWritten end turns written → IsAnsweredAll p g old written end new
  resting end rests left wrote =
      behind end [] mid.input (same_follows mid.peer.book new.peer.book (ap (λ (d : Desk). d.book) rests.peer)) (refl, rests.clock) (ap (λ (d : Desk). d.book.content.registry) rests.peer) left
      (subst (λ (ts : List Turn). AreRepliesWritten end ts written) (sym (append-nil turns)) wrote)

  -- one frame more was answered
  ending : (end : SessionEnd) (turn : Turn) → IsTurn (AnswersAt p g) turn mid new → IsLeftAt end new.input → AreRepliesWritten end (turns ++ turn ∷ []) written → IsAnsweredAll p g old written end new
  ending end turn is =
      let one = one-turn p g turn mid.peer.book new.peer.book clean mid.peer.caller new.peer.caller is.outcome in
      behind end (turn ∷ []) new.input (turn-follows p g turn mid new is) (new.input, new.clock, is.payload, is.moment, (refl, refl))
      (one.answers, new.peer.book.content.registry, one.run, one.answer_is, refl)

  all-sent : (turn : Turn) → last ≡ frame (sent turn.outcome) → written ≡ frames (turns ++ turn ∷ [])
  all-sent turn full = bytes ∙ ap (λ l. frames turns ++ l) full ∙ sym (frames-last turns turn)

  -- less than its reply, or than the closing text
  some-sent : (turn : Turn) → IsLess last (frame (sent turn.outcome)) → IsLess written (frames (turns ++ turn ∷ []) ++ frame closing_text)
  some-sent turn some =
      let f : List ℕ = frame (sent turn.outcome) in
      let all : frames turns ++ (f ++ frame closing_text) ≡ frames (turns ++ turn ∷ []) ++ frame closing_text = sym (append_assoc (frames turns) f (frame closing_text)) ∙ ap (λ (l : List ℕ). l ++ frame closing_text) (sym (frames-last turns turn)) in
      let it = less-after (frames turns) last (f ++ frame closing_text) (less-longer last f (frame closing_text) some) in
      subst (λ (w : List ℕ). IsLess w (frames (turns ++ turn ∷ []) ++ frame closing_text)) (sym bytes) (subst (IsLess (frames turns ++ last)) all it)

  some-closing : IsLess last (frame closing_text) → IsLess written (frames turns ++ frame closing_text)
  some-closing some =
      subst (λ (w : List ℕ). IsLess w (frames turns ++ frame closing_text)) (sym bytes) (less-after (frames turns) last (frame closing_text) some)

  none-before : turns ≡ [] → last ≡ frame closing_text → written ≡ frame closing_text
  none-before none full = bytes ∙ ap (λ (ts : List Turn). frames ts ++ last) none ∙ full

  ends-answered : (end : SessionEnd) → EndsSession (AnswersAt p g) end turns mid last new → IsAnsweredAll p g old written end new
  ends-answered End e = resting End e.2 e.0 (alone e.1)
  ends-answered Cut e = resting Cut e.2 e.0 (alone e.1)
  ends-answered ReadFault e = resting ReadFault e.1 tt (alone e.0)
  ends-answered Length e = resting Length e.2 e.0 (bytes ∙ ap (λ l. frames turns ++ l) e.1)
  ends-answered Logout e = ending Logout e.0 e.1 tt (all-sent e.0 e.3)
  ends-answered Lost (inl e) = ending Lost e.0 e.1 tt (inl (all-sent e.0 e.3))
  ends-answered Lost (inr e) = resting Lost e.2 tt (inr (e.0, none-before e.0 e.1))
  ends-answered WriteFault (inl (turn, is, less)) = ending WriteFault turn is tt (some-sent turn less)
  ends-answered WriteFault (inr (why, rests, less)) = resting WriteFault rests tt (some-closing less)

pub sessions-are-answered : SessionsAreAnswered
sessions-are-answered p g old new written end s clean = ends-answered p g s.turns old s.reached new written s.last s.run s.bytes clean end s.ends

-- ---- a run

runs-on : (p : PolicyRules) (xs ys : List (ℕ × Question)) (first second : List Answer) (s t u : Registry) → IsRun p xs first s t → IsRun p ys second t u → IsRun p (xs ++ ys) (first ++ second) s u
runs-on p [] ys first second s t u (none, same) more = subst (λ (l : List Answer). IsRun p ys (l ++ second) s u) (sym none) (subst (λ (r : Registry). IsRun p ys second r u) same more)
runs-on p (x ∷ xs) ys first second s t u (a, rest, between, parts, call, run) more = (a, rest ++ second, between, ap (λ (l : List Answer). l ++ second) parts, call, runs-on p xs ys rest second between t u run more)

pub sessions-are-runs : SessionsAreRuns
sessions-are-runs p g caller [] old new same = ([], (refl, same))
sessions-are-runs p g caller (turn ∷ turns) old new (answers, between, run, answer_is, more) =
    let rest = sessions-are-runs p g (caller_after p g caller turn) turns between new more in
    (answers ++ rest.0, runs-on p (questions_by_turn caller turn) (asked_over p g (caller_after p g caller turn) turns) answers rest.0 old between new run rest.1)

-- after a login
pub passwords-are-for-logins : PasswordsAreForLogins
passwords-are-for-logins p g h r [] old new same = same
passwords-are-for-logins p g h r (turn ∷ turns) old new (answers, between, run, answer_is, more) = (answers, between, run, answer_is, passwords-are-for-logins p g h r turns between new more)
