use Rattle.std.proofs.Common.{take}
use Rattle.sqlderived.proofs.{Words.{Content, due_by, dues_are_right, objects_in}, PageLemmas.asked-after}
use Rattle.sqlderived.proofs.page.first_due.Goals as goal

pub returns-in-None : goal.returns-in-None
returns-in-None g c =
    asked-after dues_are_right (λ (xs : Content). take c.args.most (due_by c.args.policy.now c.args.moment (objects_in xs))) c.first_of_all.result c.args.store.now c.page_end.new.store c.first_of_all.new.store (c.in_ok-page_end.ensures {u = tt}).0 c.first_of_all.ensures

pub returns-in-Some : goal.returns-in-Some
returns-in-Some g c =
    asked-after dues_are_right (λ (xs : Content). take c.args.most (due_by c.args.policy.now c.args.moment (objects_in xs))) c.first_until.result c.args.store.now c.page_end.new.store c.first_until.new.store (c.in_ok-page_end.ensures {u = tt}).0 c.first_until.ensures
