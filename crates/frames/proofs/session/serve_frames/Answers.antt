use Rattle.std.proofs.{Common.{◌≡◌, ◌∙◌, take, length, [], ◌∷◌, ◌++◌, inl, inr, refl, rules, Some, None}, lemmas.List.take_at}
use Rattle.std.proofs.KnownBytes.{Appends-nil}
use Rattle.streams.proofs.MoveLemmas.{OnErr-from}
use Rattle.frames.specs.{Frames.{frame, Takes}, Texts.closing_text}
use Rattle.frames.specs.{declared.session.SessionEnd.TheVariants.{End, Cut, Length, ReadFault, Lost}, Outcomes.{end_with, outcome_of}}
use Rattle.frames.specs.Sessions.{Turn}
use Rattle.frames.proofs.SessionLemmas.{Run-more, frames-more, Ends-turn, ends_session, breaks_closing, breaks_turn}
use Rattle.frames.proofs.session.serve_frames.Goals as goal

pub frames-init : goal.frames-init
frames-init g c = record { room = search rules; turns = []; run = refl; written = Appends-nil _ }

pub returns-in_err-write_closing-clause-broken : goal.returns-in_err-write_closing-clause-broken
returns-in_err-write_closing-clause-broken g c =
    OnErr-from c.from_residual.result
    (breaks_closing g.P.Peer.answers [] _ _ _ _ _ _ refl (inr refl) (record { clock = refl; peer = refl }) (Appends-nil _) c.in_err-write_closing.ensures.err)

pub returns-in_default-clause-ended : goal.returns-in_default-clause-ended
returns-in_default-clause-ended g c =
    ends_session g.P.Peer.answers Lost [] _ _ _ (frame closing_text) _ _ _ refl (inr (refl, refl, record { clock = refl; peer = refl })) (Appends-nil _) c.in_ok-write_closing.ensures.ok

pub returns-in-End-clause-ended : goal.returns-in-End-clause-ended
returns-in-End-clause-ended g c =
    let before = c.frames.invariant in
    ends_session g.P.Peer.answers End before.turns _ _ _ [] _ _ _ before.run (c.in-End.ensures.received, refl, record { clock = refl; peer = refl }) before.written (Appends-nil _)

pub returns-in-Cut-clause-ended : goal.returns-in-Cut-clause-ended
returns-in-Cut-clause-ended g c =
    let before = c.frames.invariant in
    ends_session g.P.Peer.answers Cut before.turns _ _ _ [] _ _ _ before.run (c.in-Cut.ensures.received, refl, record { clock = refl; peer = refl }) before.written (Appends-nil _)

pub returns-in_err-write_closing-in-BadLength-clause-broken : goal.returns-in_err-write_closing-in-BadLength-clause-broken
returns-in_err-write_closing-in-BadLength-clause-broken g c =
    let before = c.frames.invariant in
    OnErr-from c.from_residual-in_err-write_closing-in-BadLength.result
    (breaks_closing g.P.Peer.answers before.turns _ _ _ _ _ _ before.run (inl c.in-BadLength.ensures.received) (record { clock = refl; peer = refl }) before.written
    c.in_err-write_closing-in-BadLength.ensures.err)

pub returns-in-BadLength-clause-ended : goal.returns-in-BadLength-clause-ended
returns-in-BadLength-clause-ended g c =
    let before = c.frames.invariant in
    ends_session g.P.Peer.answers Length before.turns _ _ _ (frame closing_text) _ _ _ before.run (c.in-BadLength.ensures.received, refl, record { clock = refl; peer = refl }) before.written
    c.in_ok-write_closing-in-BadLength.ensures.ok

pub returns-in-ReadFault-clause-ended : goal.returns-in-ReadFault-clause-ended
returns-in-ReadFault-clause-ended g c =
    let before = c.frames.invariant in
    ends_session g.P.Peer.answers ReadFault before.turns _ _ _ [] _ _ _ before.run (refl, record { clock = refl; peer = refl }) before.written (Appends-nil _)

pub returns-clause-ended : goal.returns-clause-ended
returns-clause-ended g c =
    let before = c.frames.invariant in
    ends_session g.P.Peer.answers ReadFault before.turns _ _ _ [] _ _ _ before.run (refl, record { clock = refl; peer = refl }) before.written (Appends-nil _)

pub returns-in_err-end-clause-broken : goal.returns-in_err-end-clause-broken
returns-in_err-end-clause-broken g c =
    let before = c.frames.invariant in
    let same : length c.read_frame.new.buffer ≡ c.frames.buffer.len = search rules in
    let complete : c.deref.result.now ≡ c.read_frame.new.buffer = c.deref.ensures.value ∙ take_at c.read_frame.new.buffer _ c.frames.buffer.len same in
    let taken : Takes (take c.in-Frame.len c.deref.result.now) (g.R.Read.remaining c.frames.reader) (g.R.Read.remaining c.read_frame.new.reader) = rw complete c.in-Frame.ensures.received in
    let turn : Turn = record { payload = take c.in-Frame.len c.deref.result.now; moment = c.moment-moment.result; outcome = outcome_of c.answer-answer.result } in
    OnErr-from c.from_residual-in_err-end.result
    (breaks_turn g.P.Peer.answers before.turns turn _ _ _ _ _ _ before.run (record { payload = taken; moment = c.moment-moment.ensures; outcome = c.answer-answer.ensures }) before.written
    c.in_err-end.ensures.err)

pub returns-in-Some-clause-ended : goal.returns-in-Some-clause-ended
returns-in-Some-clause-ended g c =
    let before = c.frames.invariant in
    let same : length c.read_frame.new.buffer ≡ c.frames.buffer.len = search rules in
    let complete : c.deref.result.now ≡ c.read_frame.new.buffer = c.deref.ensures.value ∙ take_at c.read_frame.new.buffer _ c.frames.buffer.len same in
    let taken : Takes (take c.in-Frame.len c.deref.result.now) (g.R.Read.remaining c.frames.reader) (g.R.Read.remaining c.read_frame.new.reader) = rw complete c.in-Frame.ensures.received in
    let turn : Turn = record { payload = take c.in-Frame.len c.deref.result.now; moment = c.moment-moment.result; outcome = outcome_of c.answer-answer.result } in
    let ends : end_with (outcome_of c.answer-answer.result) ≡ Some c.in-Some.end = search rules in
    ends_session g.P.Peer.answers c.in-Some.end before.turns _ _ _ _ _ _ _ before.run
    (Ends-turn g.P.Peer.answers c.in-Some.end before.turns turn _ _ (record { payload = taken; moment = c.moment-moment.ensures; outcome = c.answer-answer.ensures }) ends) before.written
    c.in_ok-end.ensures.ok

pub frames-preserved : goal.frames-preserved
frames-preserved g c =
    let before = c.frames.invariant in
    let same : length c.read_frame.new.buffer ≡ c.frames.buffer.len = search rules in
    let complete : c.deref.result.now ≡ c.read_frame.new.buffer = c.deref.ensures.value ∙ take_at c.read_frame.new.buffer _ c.frames.buffer.len same in
    let taken : Takes (take c.in-Frame.len c.deref.result.now) (g.R.Read.remaining c.frames.reader) (g.R.Read.remaining c.read_frame.new.reader) = rw complete c.in-Frame.ensures.received in
    let turn : Turn = record { payload = take c.in-Frame.len c.deref.result.now; moment = c.moment-moment.result; outcome = outcome_of c.answer-answer.result } in
    let on : end_with (outcome_of c.answer-answer.result) ≡ None = search rules in
    record {
      room = search rules;
      turns = before.turns ++ turn ∷ [];
      run = Run-more g.P.Peer.answers before.turns turn _ _ _ before.run (record { payload = taken; moment = c.moment-moment.ensures; outcome = c.answer-answer.ensures }) on;
      written = frames-more _ _ _ before.turns turn before.written c.in_ok-end.ensures.ok;
    }
