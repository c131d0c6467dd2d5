use Rattle.std.proofs.Common.{ap, ◌∙◌}
use Rattle.mapbook.proofs.{Words.{changed, changed_each, plain_records, posted_all}, PostingLemmas.posts-made}
use Rattle.states.proofs.CallLemmas.{makes-on}
use Rattle.mapbook.proofs.plain.Plain.post_all.Goals as goal

pub returns : goal.returns
returns c =
    let old = plain_records c.args.self.now in
    let opened = plain_records c.open_account.new.self in
    let p = c.args.policy.now in
    let posts = c.args.posts in
    let put = c.in_ok-open_account.ensures in
    makes-on c.change_each.result old opened (plain_records c.change_each.new.self) (changed_each posts.registrar (changed p) posts.changes.items opened.content) (posted_all p posts old.content)
    put.clean put.before put.answers put.leaves
    (λ e. ap (changed_each posts.registrar (changed p) posts.changes.items) (put.content e) ∙ posts-made p posts.registrar posts.changes.items old.content) c.change_each.ensures
