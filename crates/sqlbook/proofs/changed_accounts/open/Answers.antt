use Rattle.std.proofs.Common.{inl, subst}
use Rattle.sqlbook.proofs.{Words.{asked-then, IsOpened, IsOpenedInBook, reads-same}, AccountLemmas.account-opened}
use Rattle.sqlite_rules.specs.Lists.{Has}
use Rattle.sqlbook.proofs.changed_accounts.open.Goals as goal

pub returns : goal.returns
returns g c =
    let r = c.args.registrar in
    let old = c.args.store.now in
    let new = c.open_account.new.store in
    let made = c.in_ok-open_account.ensures {u = tt} in
    asked-then (IsOpened r) (IsOpenedInBook r) old old new (reads-same old) made
    (λ clean it. (account-opened r old.content new.content (c.show_consistent.ensures (made.clean clean)) (c.show_consistent-2.ensures clean) it, λ row here. inl (subst (λ lines. Has lines row) it.lines here)))
