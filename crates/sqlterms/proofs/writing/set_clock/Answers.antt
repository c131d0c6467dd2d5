use Rattle.std.proofs.Common.{◌∙◌, ap}
use Rattle.sqlite_keyed.specs.Keyed.{insert_by}
use Rattle.sqlaccounts.proofs.CallLemmas.{then-kept}
use Rattle.sqlrows.proofs.StateLemmas.{then-made}
use Rattle.sqltables.specs.{inner.Content.metas_to, Meta.metas}
use Rattle.sqlterms.specs.inner.{Changes.IsClockSet, Meta.with_clock}
use Rattle.sqlterms.proofs.MetaLemmas.{clock_is_set, clock_is_there}
use Rattle.sqlterms.proofs.writing.set_clock.Goals as goal

pub returns : goal.returns
returns g c =
    let e = c.in_ok-meta.ensures {u = tt} in
    let row = c.with_clock-row.result in
    then-made (λ xs. metas_to (λ rows. insert_by metas.key rows row) xs) _ c.args.store.now c.maybe_meta.new.store c.put_meta.new.self e.0 (c.in_ok-put_meta.ensures {u = tt})
    (λ clean. clock_is_set c.args.store.now.content c.in_ok-meta.meta (e.1 clean) c.args.moment row c.with_clock-row.ensures.range
    (c.with_clock-row.ensures.value ∙ ap (with_clock c.args.moment) c.meta_or_new.ensures))

pub returns-then-is_at : goal.returns-then-is_at
returns-then-is_at g c =
    let e = c.in_ok-meta.ensures {u = tt} in
    let old = c.args.store.now in
    then-kept (IsClockSet c.args.moment) old c.maybe_meta.new.store e.0 c.requires (λ clean. clock_is_there old.content c.in_ok-meta.meta (e.1 clean) c.args.moment (c.is_at.ensures c.if-is_at.true))
