use Rattle.std.proofs.Common.{sym, ◌∙◌}
use Rattle.sqlaccounts.proofs.{Words.{appended, messages, messages_to, then-made}, CallLemmas.then-kept}
use Rattle.sqlaccounts.proofs.MessageLemmas.{message-posted, message-there}
use Rattle.sqlaccounts.proofs.queue.put_message.Goals as goal

pub returns-then-is_there : goal.returns-then-is_there
returns-then-is_there g c = λ days.
    let found = c.in_ok-row.ensures {u = tt} in
    then-kept _ c.args.store.now c.look.new.store found.0 c.requires.begun
    (λ clean. message-there days c.args.registrar c.args.account c.args.store.now.content (c.requires.there (found.0.clean clean)) c.args.message c.in_ok-row.field-0 (found.1 clean) (sym c.is_empty-is_there.ensures ∙ c.if-is_there.true))

pub returns : goal.returns
returns g c = λ days.
    let found = c.in_ok-row.ensures {u = tt} in
    let it = c.in_ok-row.field-0 in
    then-made (messages_to (appended messages (λ id. record it.row { id = id }))) _ c.args.store.now c.look.new.store c.append_message.new.self found.0 (c.in_ok-append_message.ensures {u = tt})
    (λ clean. message-posted days c.args.registrar c.args.account c.args.store.now.content (c.requires.there (found.0.clean clean)) c.args.message it (found.1 clean) c.in_ok-account.account (sym c.is_empty-is_there.ensures ∙ c.if-is_there.false) c.in_ok-account.ensures.more)
