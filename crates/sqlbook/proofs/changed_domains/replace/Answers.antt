use Rattle.std.proofs.Common.{subst}
use Rattle.sqlbook.proofs.Words.{Content, due_with, IsDomainPut, IsRecounted, IsReplaced, IsSponsorSetBelow, then-became, with_unwritten}
use Rattle.sqlbook.proofs.PostingLemmas.{followed-beside}
use Rattle.sqlbook.proofs.changed_domains.replace.Goals as goal

pub returns : goal.returns
returns g c =
    let name = c.args.name.now in
    let before = c.args.before.now in
    let after = c.args.after.now in
    let row = c.args.unwritten in
    let old = c.args.store.now in
    let mid = c.set_sponsor_below.new.store in
    let counted = c.recount.new.store in
    let new = c.put.new.store in
    let below = c.in_ok-set_sponsor_below.ensures {u = tt} in
    let counts = λ (xs ys : Content). IsRecounted before after (with_unwritten row xs) ys in
    let puts = IsDomainPut name after (due_with after c.args.due) in
    let exchanges = λ (xs ys : Content). (it : Content) × counts xs it × puts it ys in
    then-became (IsSponsorSetBelow name c.sponsor_of.result) exchanges (λ (xs ys : Content). IsReplaced name before after c.args.due (with_unwritten row xs) ys) old mid new below
    (then-became counts puts exchanges mid counted new (c.in_ok-recount.ensures {u = tt}) (c.in_ok-put.ensures {u = tt}) (λ e one two. (counted.content, one, two)))
    (λ e followed it. record {
      moved = with_unwritten row mid.content;
      followed = followed-beside name _ row old.content mid.content (c.requires.own (below.clean e)) (subst (λ o. IsSponsorSetBelow name o old.content mid.content) c.sponsor_of.ensures followed);
      mid = it.0;
      counted = it.1;
      put = it.2;
    })
