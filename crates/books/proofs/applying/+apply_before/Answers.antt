use Rattle.std.proofs.Common.{◌≡◌, ◌<◌, length, None, Some, ap, arith, subst, sym, ◌∙◌}
use Rattle.books.specs.{Book.{Stored, with_changes}, Tables.posted_all, inner.Grouping.first_account}
use Rattle.lifecycle.specs.Changes.{all_changed}
use Rattle.states.specs.States.{Makes}
use Rattle.states.proofs.CallLemmas.{makes-on}
use Rattle.books.proofs.GroupingLemmas.{ahead, before-objects, fewer-left}
use Rattle.books.proofs.applying.+apply_before.Goals as goal

pub returns-in_default : goal.returns-in_default
returns-in_default g t c =
    let old = g.R.Records.kept c.args.records.now in
    let none : first_account c.args.changes.items ≡ None = sym (c.in_default.ensures ∙ ap first_account c.as_slice.ensures.value) in
    subst (λ (held : Stored). Makes c.make_all.result held old (g.R.Records.kept c.make_all.new.records))
    (before-objects c.args.policy.now c.args.changes.items none c.args.posts.registrar (all_changed c.args.policy.now c.args.posts.changes.items) old.content) c.make_all.ensures

pub apply_before-requires : goal.apply_before-requires
apply_before-requires g t c κs within =
    let parts = c.in_ok-parted.ensures in
    let first : first_account c.args.changes.items ≡ Some c.in-Some.other = sym (c.in-Some.ensures ∙ ap first_account c.as_slice.ensures.value) in
    let fewer : length c.in_ok-parted.parted.others.items < length c.args.changes.items = fewer-left c.args.policy.now c.in-Some.other c.args.changes.items c.in_ok-parted.parted parts.registrar parts.posts parts.others first in
    (omega (arith, fewer, c.decreases), (within, c.in_ok-post.ensures.opened))

pub returns : goal.returns
returns g t c =
    let old = g.R.Records.kept c.args.records.now in
    let p = c.args.policy.now in
    let it = c.in_ok-parted.parted in
    let parts = c.in_ok-parted.ensures in
    let put = c.in_ok-post.ensures in
    let first : first_account c.args.changes.items ≡ Some c.in-Some.other = sym (c.in-Some.ensures ∙ ap first_account c.as_slice.ensures.value) in
    makes-on c.apply_before.result old (g.R.Records.kept c.post.new.self) (g.R.Records.kept c.apply_before.new.records)
    (posted_all p c.args.posts (with_changes p it.others.items (g.R.Records.kept c.post.new.self).content)) (posted_all p c.args.posts (with_changes p c.args.changes.items old.content))
    put.clean put.before put.answers put.leaves
    (λ e. ap (posted_all p c.args.posts) (ap (with_changes p it.others.items) (put.content e) ∙ ahead p c.in-Some.other c.args.changes.items it parts.registrar parts.posts parts.others first old.content))
    c.apply_before.ensures
