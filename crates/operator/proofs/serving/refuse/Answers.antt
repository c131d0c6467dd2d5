use Rattle.std.proofs.Common.{◌∙◌, List, ℕ, subst}
use Rattle.operator.specs.{Answers.response_of_kind, Operations.IsSent}
use Rattle.operator.specs.declared.answer.Kind.TheVariants as kinds
use Rattle.operator.proofs.serving.refuse.Goals as goal

pub returns : goal.returns
returns g c =
    subst (λ (body : List ℕ). IsSent (response_of_kind c.args.outcome kinds.Plain body) (g.W.Write.contents c.args.writer.now) (g.W.Write.contents c.send.new.writer) c.send.result)
    (c.as_bytes.ensures.value ∙ c.status.ensures) c.send.ensures
