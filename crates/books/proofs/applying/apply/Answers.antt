use Rattle.std.proofs.Common.{◌≡◌, Some, ap, subst, sym, ◌∙◌}
use Rattle.books.specs.{Book.Stored, inner.Grouping.{first_account, others, posts_of}}
use Rattle.states.specs.States.{Makes}
use Rattle.books.proofs.GroupingLemmas.{behind}
use Rattle.books.proofs.applying.apply.Goals as goal

pub returns : goal.returns
returns g c =
    let old = g.R.Records.kept c.args.records.now in
    let parts = c.in_ok-parted.ensures in
    let first : first_account c.args.changes ≡ Some c.in-Some.first = sym (c.in-Some.ensures ∙ ap first_account (c.as_slice.ensures.value ∙ c.into_vec-changes.ensures)) in
    subst (λ (held : Stored). Makes c.apply_before.result held old (g.R.Records.kept c.apply_before.new.records))
    (behind c.args.policy.now c.in-Some.first c.args.changes c.in_ok-parted.parted parts.registrar (parts.posts ∙ ap (posts_of c.in-Some.first) c.into_vec-changes.ensures) (parts.others ∙ ap (others c.in-Some.first) c.into_vec-changes.ensures) first old.content)
    c.apply_before.ensures
