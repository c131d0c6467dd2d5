use Rattle.std.proofs.{Common.{◌≡◌, ℕ, ◌+◌, ◌∷◌, rules, drop, ap, sym, ◌∙◌}, lemmas.{List.drop_more, Result.err_from_is_err_and}}
use Rattle.zonefile.proofs.WriteLemmas.{one_more, stopped_at}
use Rattle.zonefile.proofs.zone.write_all.Goals as goal

pub returns-in_err-write_records-clause-begun : goal.returns-in_err-write_records-clause-begun
returns-in_err-write_records-clause-begun g c =
    let p = err_from_is_err_and c.from_residual.result c.from_residual.ensures.1 in
    let i : ℕ = c.loop-item.item-index in
    let rest = drop (i + 1) c.args.items.now in
    let next : drop i c.args.items.now ≡ c.item-item.result ∷ rest = drop_more c.args.items.now i _ (search rules) ∙ ap (λ x. x ∷ rest) (sym c.item-item.is) in
    rw (p.1, p.2) (stopped_at (g.T.Recorded.text c.args.ttl) _ _ _ _ rest c.item-item.result _ next c.loop-item.invariant _ c.in_err-write_records.ensures.begun)

pub loop-item-preserved : goal.loop-item-preserved
loop-item-preserved g c =
    let i : ℕ = c.loop-item.item-index in
    let rest = drop (i + 1) c.args.items.now in
    let next : drop i c.args.items.now ≡ c.item-item.result ∷ rest = drop_more c.args.items.now i _ (search rules) ∙ ap (λ x. x ∷ rest) (sym c.item-item.is) in
    one_more (g.T.Recorded.text c.args.ttl) _ _ _ _ rest c.item-item.result _ next c.loop-item.invariant c.in_ok-write_records.ensures.written
