use Rattle.operator.proofs.OperationLemmas.{unchanged_by}
use Rattle.operator.proofs.serving.backlog_at.Goals as goal

pub returns-clause-same : goal.returns-clause-same
returns-clause-same g c =
    unchanged_by c.args.registry.now.policy c.args.moment _ c.backlog.result _ _ _ c.backlog.ensures.step c.backlog.ensures.keeps c.backlog.ensures.fault
