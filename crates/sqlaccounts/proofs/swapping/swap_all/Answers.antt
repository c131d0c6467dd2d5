use Rattle.std.proofs.{Common.{refl, sym, ◌∙◌}, lemmas.List.nil_from_length}
use Rattle.sqlaccounts.proofs.{LineLemmas.with_swaps, PostingLemmas.{at-first, at-last, refused-on, ready-underway, then-one}}
use Rattle.sqlaccounts.proofs.swapping.swap_all.Goals as goal

pub loop-swap-init : goal.loop-swap-init
loop-swap-init g c =
    at-first c.args.days.now c.args.registrar with_swaps c.args.swaps _ c.args.row c.args.store.now c.requires.there c.requires.begun (c.into_iter-swap-iterator.ensures.into_iter_gives.0 ∙ c.into_vec-swap-items.ensures)

pub swap_line-requires : goal.swap_line-requires
swap_line-requires g c = ready-underway c.loop-swap.invariant c.requires.there

pub returns-in_err-row : goal.returns-in_err-row
returns-in_err-row g c = refused-on c.loop-swap.invariant c.from_residual.result c.swap_line.new.store c.from_residual.ensures.0 (c.in_err-row.ensures {u = tt})

pub loop-swap-preserved : goal.loop-swap-preserved
loop-swap-preserved g c = then-one c.loop-swap.invariant c.in-Some.ensures.steps.0 (c.in_ok-row.ensures {u = tt}) (λ y. refl)

pub returns : goal.returns
returns g c = at-last c.loop-swap.invariant (nil_from_length c.loop-swap.swap-iterator.rest.items (sym c.loop-swap.swap-iterator.rest.ok.0 ∙ c.in-None.ensures.steps.0)) (λ y. refl)
