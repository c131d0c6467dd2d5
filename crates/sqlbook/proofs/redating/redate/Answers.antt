use Rattle.sqlbook.proofs.Words.{asked-then, MeansSame}
use Rattle.sqlbook.proofs.redating.redate.Goals as goal

pub returns : goal.returns
returns g c =
    let asked = c.in_ok-names.ensures {u = tt} in
    asked-then MeansSame MeansSame c.args.store.now c.deleted_names.new.store c.redate_all-redated.new.store asked.0 (c.in_ok-redated.ensures {u = tt}) (λ e it. it)
