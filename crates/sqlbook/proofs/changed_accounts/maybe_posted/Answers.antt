use Rattle.std.proofs.Common.{◌≡◌, true, sym, subst}
use Rattle.sqlbook.proofs.Words.{ArePosted, Content, HasChanged, IsRowOf, maybe_posted, with_row}
use Rattle.sqlbook.proofs.changed_accounts.maybe_posted.Goals as goal

pub returns : goal.returns
returns g c =
    let it = c.in_ok-posted.field-0 in
    let new = c.posted.new.store in
    subst (λ posts. HasChanged (λ (xs ys : Content). ArePosted (maybe_posted c.args.policy.now posts) xs (with_row it.row ys)) c.args.store.now new × (new.is_clean ≡ true → IsRowOf it.registrar it.row new.content))
    (sym c.in-Some.is) (c.in_ok-posted.ensures {u = tt})
