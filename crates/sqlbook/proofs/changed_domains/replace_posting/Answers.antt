use Rattle.sqlbook.proofs.Words.{ArePosted, Content, IsReplaced, IsReplacedPosting, maybe_posted, then-became, with_unwritten}
use Rattle.sqlbook.proofs.changed_domains.replace_posting.Goals as goal

pub returns : goal.returns
returns g c =
    let made = maybe_posted c.args.policy.now c.args.posts in
    let row = c.in_ok-unwritten.unwritten in
    let mid = c.maybe_posted.new.store in
    then-became (λ (xs ys : Content). ArePosted made xs (with_unwritten row ys)) (λ (xs ys : Content). IsReplaced c.args.name.now c.args.before.now c.args.after.now c.args.due (with_unwritten row xs) ys)
    (IsReplacedPosting c.args.name.now made c.args.before.now c.args.after.now c.args.due)
    c.args.store.now mid c.replace.new.store (c.in_ok-unwritten.ensures {u = tt}).0 (c.in_ok-replace.ensures {u = tt})
    (λ e posted replaced. record { posted = with_unwritten row mid.content; are_posted = posted; replaced = replaced })
