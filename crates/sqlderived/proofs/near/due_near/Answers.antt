use Rattle.std.proofs.Common.{◌≡◌, [], false, Ok, subst, sym, ◌∙◌}
use Rattle.sqlderived.proofs.{Words.{AreDue, IsConsistent, reads-on}, AnswerLemmas.with-days, NearLemmas.{near-found, nothing-due}}
use Rattle.sqlderived.specs.inner.Near.{HasAllNear, contacts_near, domains_near, is_behind}
use Rattle.sqlderived.proofs.near.due_near.Goals as goal

pub returns-then-not-behind : goal.returns-then-not-behind
returns-then-not-behind g c =
    let p = c.args.policy.now in
    let names = c.args.names.now in
    let asked = c.in_ok-behind.ensures {u = tt} in
    with-days (Ok c.new.result) c.args.store.now c.have_days.new.store c.is_behind.new.store p
    (λ xs due. (due ≡ []) × (is_behind c.args.moment xs ≡ false)) (HasAllNear p c.args.caller names c.args.moment)
    (c.in_ok-have_days.ensures {u = tt}) c.show_consistent.ensures
    (λ xs due consistent days right it. subst (HasAllNear p c.args.caller names c.args.moment xs) (sym it.0) (nothing-due xs p c.args.caller names c.args.moment consistent days right it.1))
    (asked.0, λ clean. (c.new.ensures, sym (asked.1 clean) ∙ c.if-not-behind.true))

pub returns : goal.returns
returns g c =
    let p = c.args.policy.now in
    let r = c.args.caller in
    let names = c.args.names.now in
    let m = c.args.moment in
    let days = c.in_ok-have_days.ensures {u = tt} in
    let asked = c.in_ok-behind.ensures {u = tt} in
    with-days c.found_near.result c.args.store.now c.is_behind.new.store c.found_near.new.store p
    (λ xs. AreDue p m xs (contacts_near r names m xs) (domains_near r names m xs)) (HasAllNear p r names m)
    (reads-on c.args.store.now c.have_days.new.store c.is_behind.new.store days.0 asked.0, λ clean. days.1 (asked.0.clean clean))
    (λ clean. subst IsConsistent (sym (asked.0.content clean)) (c.show_consistent.ensures (asked.0.clean clean)))
    (λ xs due. near-found xs p r names m due) c.found_near.ensures
