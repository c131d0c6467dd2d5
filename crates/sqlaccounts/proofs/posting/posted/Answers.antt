use Rattle.std.proofs.Common.{refl, sym, ◌∙◌}
use Rattle.sqlaccounts.proofs.{Words.{all_changed, nil_from_length}, PostingLemmas.{at-first, at-last, refused-on, ready-underway, then-one}}
use Rattle.sqlaccounts.proofs.posting.posted.Goals as goal

pub loop-what-init : goal.loop-what-init
loop-what-init g c =
    at-first c.args.days.now c.args.registrar (all_changed c.args.policy.now) c.args.changes.items _ c.args.row c.args.store.now c.requires.there c.requires.begun c.into_iter-what-iterator.ensures.into_iter_gives.0

pub post-requires : goal.post-requires
post-requires g c = ready-underway c.loop-what.invariant c.requires.there

pub returns-in_err-row : goal.returns-in_err-row
returns-in_err-row g c = refused-on c.loop-what.invariant c.from_residual.result c.post.new.store c.from_residual.ensures.0 (c.in_err-row.ensures {u = tt})

pub loop-what-preserved : goal.loop-what-preserved
loop-what-preserved g c = then-one c.loop-what.invariant c.in-Some.ensures.steps.0 (c.in_ok-row.ensures {u = tt}) (λ y. refl)

pub returns : goal.returns
returns g c = at-last c.loop-what.invariant (nil_from_length c.loop-what.what-iterator.rest.items (sym c.loop-what.what-iterator.rest.ok.0 ∙ c.in-None.ensures.steps.0)) (λ y. refl)
