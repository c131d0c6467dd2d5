use Rattle.model.specs.Registry.{Registry, account_of}
use Rattle.server.proofs.PassingLemmas.{passes_by}
use Rattle.operator.proofs.serving.lines_at.Goals as goal

pub returns-clause-passes : goal.returns-clause-passes
returns-clause-passes g c =
    passes_by _ _ _ (λ (s : Registry). (account_of c.args.registrar s).lines) _ c.lines.result _ _ _ c.lines.ensures.step c.lines.ensures.keeps c.lines.ensures.fault
