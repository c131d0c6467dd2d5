use Rattle.std.proofs.Common.{refl, sym, ap, subst, subst₂}
use Rattle.sqlderived.proofs.Words.{Content, counts_one, counts_own, IsCountedAnew, IsHeldCounted, IsUnwritten, reads-same, registrar_of}
use Rattle.sqlderived.proofs.{Words.with_unwritten, RecountLemmas.own-written}
use Rattle.sqlaccounts.proofs.CallLemmas.{then-put}
use Rattle.sqlaccounts.specs.inner.Posting.{with_row}
use Rattle.sqlderived.proofs.recounting.write.Goals as goal

pub returns : goal.returns
returns g c =
    let it = c.in-Some.unwritten in
    let row = c.in_ok-row.row in
    let before = c.args.before.now in
    let after = c.args.after.now in
    let old = c.args.store.now in
    record {
      of = sym (ap registrar_of c.in-Some.is);
      counted =
          then-put row row (λ (xs ys : Content). IsCountedAnew (counts_own (registrar_of c.args.unwritten) before) (counts_own (registrar_of c.args.unwritten) after) (with_unwritten c.args.unwritten xs) ys)
          old old c.put_account.new.self (reads-same old) refl (c.in_ok-put_account.ensures {u = tt})
          (λ clean.
          subst (λ o. IsCountedAnew (counts_own (registrar_of o) before) (counts_own (registrar_of o) after) (with_unwritten o old.content) (with_row row old.content)) (sym c.in-Some.is)
          (own-written old.content before after it row (subst (λ o. IsUnwritten o old.content) c.in-Some.is (c.requires.own clean))
          (subst₂ (λ a b. IsHeldCounted (counts_one a) (counts_one b) it.row row) c.is_in.ensures c.is_in-2.ensures c.in_ok-row.ensures.counted)));
    }
