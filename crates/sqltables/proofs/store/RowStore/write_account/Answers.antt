use Rattle.std.proofs.Common.{refl}
use Rattle.states.proofs.{CallLemmas.makes-on, LeavingLemmas.leaves-refl}
use Rattle.sqltables.proofs.{PuttingLemmas.account-replaced, WritingLemmas.{alters-by, put_account}}
use Rattle.sqltables.proofs.store.RowStore.write_account.Goals as goal

pub returns-then-has_account : goal.returns-then-has_account
returns-then-has_account g c =
    let s = c.args.self.now in
    makes-on c.replace_account.result s s c.replace_account.new.self _ _ (λ e. e) (λ e. refl) (λ was. was) (leaves-refl s)
    (λ clean. let there = c.has_account.ensures c.if-has_account.true clean in account-replaced s.content c.args.account.now there.0 (c.show_consistent.ensures clean) there.1 there.2)
    c.replace_account.ensures

pub write-requires-clause-means : goal.write-requires-clause-means
write-requires-clause-means g c = (_, alters-by c.params.ensures.bound (put_account c.args.account.now))

pub returns : goal.returns
returns g c = c.write.ensures _ (alters-by c.params.ensures.bound (put_account c.args.account.now))
