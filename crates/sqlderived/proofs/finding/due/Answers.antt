use Rattle.std.proofs.Common.{◌≡◌}
use Rattle.sqlderived.proofs.{Words.{AreDue, contacts_until, domains_until, due_by, objects_in}, AnswerLemmas.{if-right, with-days}}
use Rattle.sqlderived.proofs.DueLemmas.{all-due}
use Rattle.sqlderived.proofs.finding.due.Goals as goal

pub returns : goal.returns
returns g c =
    let p = c.args.policy.now in
    let m = c.args.moment in
    if-right c.due_until.result _ _ c.args.store.now c.due_until.new.store
    (with-days c.due_until.result c.args.store.now c.have_days.new.store c.due_until.new.store p
    (λ xs. AreDue p m xs (contacts_until m xs) (domains_until m xs)) (λ xs due. due ≡ due_by p m (objects_in xs))
    (c.in_ok-have_days.ensures {u = tt}) c.show_consistent.ensures (λ xs due. all-due xs p m due) c.due_until.ensures)
