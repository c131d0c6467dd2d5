use Rattle.std.proofs.Common.{◌∙◌, List, ℕ, inl, subst}
use Rattle.operator.specs.{Answers.response_of_kind, Operations.IsSent}
use Rattle.operator.specs.declared.answer.Kind.TheVariants as kinds
use Rattle.operator.specs.declared.answer.Outcome.TheVariants as outcomes
use Rattle.operator.proofs.serving.send_figures.Goals as goal

pub returns-in-Ok : goal.returns-in-Ok
returns-in-Ok g c =
    inl (
      c.in-Ok.ensures.0,
      subst (λ (body : List ℕ). IsSent (response_of_kind outcomes.Done kinds.Prometheus body) (g.W.Write.contents c.args.writer.now) (g.W.Write.contents c.send.new.writer) c.send.result)
          (c.as_bytes.ensures.value ∙ c.in-Ok.ensures.1) c.send.ensures,
    )
