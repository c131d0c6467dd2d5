use Rattle.std.proofs.Common.{sym, ◌∙◌}
use Rattle.rules.specs.inner.{Cases.refusal_in, KnownData.grant_in}
use Rattle.rules.proofs.LawLemmas.{granted-is-answered}
use Rattle.rules.proofs.verdict.answer.Goals as goal

pub returns-in-None : goal.returns-in-None
returns-in-None c = granted-is-answered (refusal_in c.args.case.now) (grant_in c.args.case.now) c.grant.result (sym c.refusal.ensures ∙ c.in-None.is) c.grant.ensures
