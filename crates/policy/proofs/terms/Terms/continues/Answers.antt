use Rattle.policy.proofs.TermsLemmas.{continues-Decides}
use Rattle.policy.proofs.terms.Terms.continues.Goals as goal

pub returns-clause-meaning : goal.returns-clause-meaning
returns-clause-meaning c = rw c.agrees.ensures (continues-Decides c.args.clock c.args.self.now c.args.earlier.now)
