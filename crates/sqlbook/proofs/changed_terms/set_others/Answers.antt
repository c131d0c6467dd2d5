use Rattle.sqlbook.proofs.TermLemmas.{others-set}
use Rattle.sqlbook.proofs.changed_terms.set_others.Goals as goal

pub returns : goal.returns
returns g c =
    others-set c.args.before.now c.args.terms.now c.args.store.now c.ends_are.new.store c.redate.new.store c.set_terms.new.store c.ends_are-2.new.store
    (c.in_ok-ends_are.ensures {u = tt}) (c.in_ok-redate.ensures {u = tt}) (c.in_ok-set_terms.ensures {u = tt}) (c.in_ok-ends_are-2.ensures {u = tt})
