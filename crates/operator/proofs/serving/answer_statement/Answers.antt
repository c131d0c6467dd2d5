use Rattle.std.proofs.Common.{List, ℕ, inl, string_bytes, subst}
use Rattle.operator.specs.{Answers.response_of_kind, Operations.IsSent}
use Rattle.operator.specs.declared.answer.Kind.TheVariants as kinds
use Rattle.operator.specs.declared.answer.Outcome.TheVariants as outcomes
use Rattle.operator.proofs.serving.answer_statement.Goals as goal

pub returns-in-Some-clause-does : goal.returns-in-Some-clause-does
returns-in-Some-clause-does g c =
    let sent = subst (λ (body : List ℕ). IsSent (response_of_kind outcomes.Done kinds.Csv body) (g.W.Write.contents c.args.writer.now) (g.W.Write.contents c.send.new.writer) c.send.result)
    c.as_bytes.ensures.value c.send.ensures in
    (c.moment-moment.result, c.moment-moment.ensures, c.statement_at.ensures.passes, inl (string_bytes c.in-Some.text, c.in-Some.ensures.text, sent))
