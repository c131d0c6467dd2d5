use Rattle.std.proofs.Common.{subst, sym}
use Rattle.sqlderived.proofs.Words.{Content, counts_own, IsCountedAnew, IsRecounted, registrar_of, then-became, with_unwritten}
use Rattle.sqlderived.proofs.{LeavingLemmas.recounted, RecountLemmas.{anew-after, anew-on}}
use Rattle.sqlderived.proofs.recounting.recount.Goals as goal

pub returns : goal.returns
returns g c =
    let written = c.in_ok-written.written in
    let u = c.args.unwritten in
    let p = c.holders_of-before.result in
    let q = c.holders_of-after.result in
    let start = with_unwritten u c.args.store.now.content in
    let own = c.write.new.store in
    let end = c.count-4.new.store in
    let others = anew-after _ _ _ _ own c.count.new.store end (c.in_ok-count.ensures {u = tt})
    (anew-after _ _ _ _ c.count.new.store c.count-2.new.store end (c.in_ok-count-2.ensures {u = tt})
    (anew-after _ _ _ _ c.count-2.new.store c.count-3.new.store end (c.in_ok-count-3.ensures {u = tt}) (c.in_ok-count-4.ensures {u = tt}))) in
    then-became (λ (xs ys : Content). IsCountedAnew (counts_own (registrar_of u) p) (counts_own (registrar_of u) q) (with_unwritten u xs) ys) _ (λ (xs ys : Content). IsRecounted c.args.before.now c.args.after.now (with_unwritten u xs) ys)
    c.args.store.now own end c.in_ok-written.ensures.counted others
    (λ clean first rest. recounted written c.args.before.now c.args.after.now p q c.holders_of-before.ensures c.holders_of-after.ensures _ _ _ _
    c.sponsor_without-sponsor_left.ensures c.incoming_without-incoming_left.ensures c.sponsor_without-sponsor_come.ensures c.incoming_without-incoming_come.ensures start end.content
    (anew-on _ _ _ _ start own.content end.content (subst (λ w. IsCountedAnew (counts_own w p) (counts_own w q) start own.content) (sym c.in_ok-written.ensures.of) first) rest))
