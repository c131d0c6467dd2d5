use Rattle.std.proofs.Common.{◌≡◌, ◌∙◌, ◌<◌, ◌++◌, ◌∷◌, [], inl, ap, refl, length, length-append, IfSome, arith}
use Rattle.std.proofs.{lemmas.Result.err_from_is_err_and, KnownBytes.{Appends-nil, Appends-trans}}
use Rattle.std.specs.Io.BufRead.{strip_last, take_through}
use Rattle.eppwire.proofs.FollowLemmas.{follows-on, follows-itself}
use Rattle.script.specs.inner.Runs.{run_end}
use Rattle.script.proofs.{BeginLemmas.{Ends-between, fault_by}, HaltLemmas.Ends-halted}
use Rattle.script.proofs.RunLemmas.{ArePrinted-more, ArePrinted-nil, Ends-done, Reads-more, Reads-nil}
use Rattle.script.proofs.script.answer_lines.Goals as goal

pub loop-number-init : goal.loop-number-init
loop-number-init g c = record {
  lines = [];
  policy = refl;
  count = refl;
  read = Reads-nil _;
  sent = ([], Appends-nil _);
  follows = follows-itself _;
  is_printed = λ clean. ArePrinted-nil _ _ _;
}

pub returns-then-branch-eq0-clause-ends : goal.returns-then-branch-eq0-clause-ends
returns-then-branch-eq0-clause-ends g c =
    let before = c.loop-number.invariant in
    Ends-done _ _ before.lines _ _ _ _ _ _ before.read (c.in_ok-read_until.ensures.end c.if-branch-eq0.true) before.is_printed

pub returns-in_err-print_answer-clause-ends : goal.returns-in_err-print_answer-clause-ends
returns-in_err-print_answer-clause-ends g c =
    let before = c.loop-number.invariant in
    let text = c.read_until.new.buf.items in
    let line : c.without_end.result.now ≡ strip_last 10 text = c.without_end.ensures ∙ ap (strip_last 10) c.deref.ensures.value in
    let read : IfSome (g.R.Read.remaining c.loop-number.reader) (λ xs. text ≡ take_through 10 xs) = rw c.clear.ensures.items at c.in_ok-read_until.ensures.bytes in
    let some : 0 < length text = omega (arith, ap length c.deref.ensures.value, c.deref.ensures.len, c.in_ok-read_until.ensures.ok, c.clear.ensures.len) in
    let gave = err_from_is_err_and c.from_residual-in_err-print_answer.result c.from_residual-in_err-print_answer.ensures.1 in
    let halted = c.in_err-print_answer.ensures in
    Ends-halted _ _ c.in_err-print_answer.field-0.0 _ before.lines text _ c.loop-number.number _ _ _ _ _ _ _ _ _ _ _
    before.policy (ap run_end gave.1 ∙ gave.2) line before.read read some before.count before.is_printed halted.follows halted.stopped before.sent.1 halted.broken

pub returns-in_err-print_answer-clause-sent : goal.returns-in_err-print_answer-clause-sent
returns-in_err-print_answer-clause-sent g c =
    let before = c.loop-number.invariant in
    let halted = c.in_err-print_answer.ensures in
    (before.sent.0 ++ halted.sent.0, Appends-trans _ _ _ _ _ before.sent.1 halted.sent.1)

pub returns-in_err-read_until-clause-ends : goal.returns-in_err-read_until-clause-ends
returns-in_err-read_until-clause-ends g c =
    let before = c.loop-number.invariant in
    let gave = err_from_is_err_and c.from_residual.result c.from_residual.ensures.1 in
    Ends-between _ _ _ before.lines _ _ _ _ _ _ _ (fault_by _ _ (ap run_end gave.1 ∙ gave.2)) before.read before.is_printed

pub returns-clause-ends : goal.returns-clause-ends
returns-clause-ends g c =
    let before = c.loop-number.invariant in
    Ends-between _ _ _ before.lines _ _ _ _ _ _ _ (inl refl) before.read before.is_printed

pub loop-number-preserved : goal.loop-number-preserved
loop-number-preserved g c =
    let before = c.loop-number.invariant in
    let text = c.read_until.new.buf.items in
    let line : c.without_end.result.now ≡ strip_last 10 text = c.without_end.ensures ∙ ap (strip_last 10) c.deref.ensures.value in
    let read : IfSome (g.R.Read.remaining c.loop-number.reader) (λ xs. text ≡ take_through 10 xs) = rw c.clear.ensures.items at c.in_ok-read_until.ensures.bytes in
    let some : 0 < length text = omega (arith, ap length c.deref.ensures.value, c.deref.ensures.len, c.in_ok-read_until.ensures.ok, c.clear.ensures.len) in
    let is_printed = c.in_ok-print_answer.ensures in
    record {
      lines = before.lines ++ strip_last 10 text ∷ [];
      policy = is_printed.policy ∙ before.policy;
      count = omega (arith, length-append before.lines (strip_last 10 text ∷ []));
      read = Reads-more before.lines _ _ _ text before.read read c.in_ok-read_until.ensures.rest some;
      sent = (before.sent.0 ++ is_printed.sent.0, Appends-trans _ _ _ _ _ before.sent.1 is_printed.sent.1);
      follows = follows-on _ _ _ before.follows is_printed.follows;
      is_printed = λ clean. ArePrinted-more _ _ before.lines (strip_last 10 text) _ _ _ _ _ _ _ before.policy line (before.is_printed (is_printed.follows.clean clean)) (is_printed.is_printed clean);
    }
