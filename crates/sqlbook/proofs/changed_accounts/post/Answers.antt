use Rattle.std.proofs.Common.{Ok}
use Rattle.sqlbook.proofs.{Words.{ArePosted, became-made, Content, posted_all, with_row}, MeaningLemmas.alters, PostingLemmas.posted-right}
use Rattle.sqlbook.proofs.changed_accounts.post.Goals as goal

pub returns-clause-made : goal.returns-clause-made
returns-clause-made g c =
    let old = c.args.store.now in
    let new = c.put_account.new.self in
    let made = posted_all c.args.policy.now c.args.posts in
    let row = c.in_ok-it.it.row in
    let posted = (c.in_ok-it.ensures {u = tt}).0 in
    alters {A = Unit {0}} (Ok tt) (ArePosted made) _ old new
    (became-made (λ (xs ys : Content). ArePosted made xs (with_row row ys)) (ArePosted made) (with_row row) old c.posted.new.store new posted (c.in_ok-put_account.ensures {u = tt}) (λ e it. it))
    (λ it. (it.held, posted-right made old.content new.content it))
