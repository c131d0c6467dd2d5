use Rattle.std.proofs.Common.{refl, sym, subst, subst₂}
use Rattle.sqlderived.proofs.{Words.{counts_one, counts_own, IsCountedAnew, IsHeldCounted}, RecountLemmas.own-counted}
use Rattle.sqlaccounts.proofs.CallLemmas.{then-put}
use Rattle.sqlaccounts.specs.inner.Posting.{with_row}
use Rattle.sqlderived.proofs.recounting.count.Goals as goal

pub returns : goal.returns
returns g c =
    let xs = c.args.store.now.content in
    let before = c.args.before.now in
    let after = c.args.after.now in
    let row = c.in_ok-row.row in
    let new = c.in_ok-row-2.row in
    then-put new new (IsCountedAnew (counts_own c.args.registrar before) (counts_own c.args.registrar after))
    c.args.store.now c.found_row.new.store c.put_account.new.self c.in_ok-row.ensures.row.0 refl (c.in_ok-put_account.ensures {u = tt})
    (λ clean. subst (λ o. IsCountedAnew (counts_own o before) (counts_own o after) xs (with_row new xs)) (sym c.in-Some.is)
    (own-counted xs before after c.in-Some.registrar row new c.in_ok-row.ensures.place (c.in_ok-row.ensures.row.1 clean)
    (subst₂ (λ a b. IsHeldCounted (counts_one a) (counts_one b) row new) c.is_in.ensures c.is_in-2.ensures c.in_ok-row-2.ensures.counted)))
