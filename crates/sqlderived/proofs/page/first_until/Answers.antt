use Rattle.std.proofs.Common.{take, sym, ◌∙◌}
use Rattle.sqlderived.proofs.{Words.{Content, due_by, dues_are_right, objects_in}, PageLemmas.{asked-after, full-page}}
use Rattle.sqlderived.proofs.page.first_until.Goals as goal

pub returns-then-is_full : goal.returns-then-is_full
returns-then-is_full g c =
    let page = c.in_ok-page.ensures {u = tt} in (
      page.0,
      λ clean right.
          full-page c.args.policy.now (objects_in c.args.store.now.content) c.args.moment c.args.end c.args.most c.in_ok-page.page c.first_of.result c.requires
          (sym c.is_full.ensures ∙ c.if-is_full.true) (page.1 clean right) c.first_of.ensures,
    )

pub returns : goal.returns
returns g c =
    let page = c.in_ok-page.ensures {u = tt} in
    asked-after dues_are_right (λ (xs : Content). take c.args.most (due_by c.args.policy.now c.args.moment (objects_in xs))) c.first_of_all.result c.args.store.now c.due.new.store c.first_of_all.new.store page.0 c.first_of_all.ensures
