use Rattle.std.proofs.Common.{ap, ◌∙◌}
use Rattle.accounts.specs.Counters.{next_message}
use Rattle.sqlaccounts.proofs.{CallLemmas.changed-too, StepLemmas.notice-posted}
use Rattle.sqlaccounts.proofs.posting.notify.Goals as goal

pub returns : goal.returns
returns g c = λ days.
    let put = c.in_ok-row.ensures {u = tt} in
    changed-too _ _ c.args.store.now c.put_message.new.store (put days)
    (λ clean it. notice-posted days c.args.registrar c.args.row c.in_ok-row.row c.with_counters.result c.args.store.now.content c.put_message.new.store.content (c.requires.there clean) c.args.notification c.next_message-counters.result c.numbered-message.result
    (c.next_message-counters.ensures ∙ ap next_message c.counted_in.ensures) c.numbered-message.ensures it c.with_counters.ensures)
