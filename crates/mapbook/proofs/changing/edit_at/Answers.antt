use Rattle.std.proofs.Common.{◌≡◌, sym, ap, ◌∙◌}
use Rattle.mapbook.proofs.{Words.{account_edited, changed-if, insert, put-same}, EditLemmas.{on-err, on-ok, where-found}}
use Rattle.mapbook.proofs.PostingLemmas.{nothing-changed}
use Rattle.mapbook.proofs.changing.edit_at.Goals as goal

pub returns-in-None-clause-ok : goal.returns-in-None-clause-ok
returns-in-None-clause-ok c = c.get_mut.follows.holds-at-none ∙ nothing-changed c.args.registrar c.args.accounts.now (account_edited c.args.edit) c.in-None.ensures.value

pub returns-in-Some-clause-ok : goal.returns-in-Some-clause-ok
returns-in-Some-clause-ok c =
    let m = c.args.accounts.now in
    let after = c.make.new.account in
    on-ok c.make.result
    (λ (made : after ≡ account_edited c.args.edit c.in-Some.account.now).
    where-found c.get_mut.result _ c.in-Some.is (c.get_mut.follows.holds after) ∙ ap (insert m c.args.registrar) made
    ∙ sym (changed-if c.args.registrar m c.in-Some.account.now (sym c.in-Some.ensures.value) (account_edited c.args.edit)))
    c.make.ensures.ok

pub returns-in-Some-clause-err : goal.returns-in-Some-clause-err
returns-in-Some-clause-err c =
    let m = c.args.accounts.now in
    let after = c.make.new.account in
    on-err c.make.result
    (λ (same : after ≡ c.in-Some.account.now).
    where-found c.get_mut.result _ c.in-Some.is (c.get_mut.follows.holds after) ∙ ap (insert m c.args.registrar) same ∙ put-same c.args.registrar m c.in-Some.account.now (sym c.in-Some.ensures.value))
    c.make.ensures.err
