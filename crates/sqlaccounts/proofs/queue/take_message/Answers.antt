use Rattle.std.proofs.Common.{ℤ, ap, subst, sym, ◌∙◌}
use Rattle.sqlaccounts.proofs.Words.{Content, delete_where, dropped, IsConsistent, IsPosted, message_with_id, messages_to, then-made, with_queue}
use Rattle.sqlaccounts.proofs.{CallLemmas.then-kept, MessageLemmas.{message-left, message-taken}}
use Rattle.sqlrows.specs.Read.{rows_of}
use Rattle.sqlaccounts.proofs.queue.take_message.Goals as goal

pub returns-in_default : goal.returns-in_default
returns-in_default g c = λ days.
    let found = c.in_ok-row.ensures {u = tt} in
    then-kept _ c.args.store.now c.look.new.store found.0 c.requires.begun
    (λ clean. message-left days c.args.registrar c.args.account c.args.store.now.content (c.requires.there (found.0.clean clean)) c.args.message c.in_ok-row.field-0 (found.1 clean) (c.in_ok-row-2.ensures {u = tt} ∙ ap rows_of c.in_default.is))

pub returns : goal.returns
returns g c = λ days.
    let found = c.in_ok-row.ensures {u = tt} in
    let gone = c.in-Some.row in
    let xs : Content = c.args.store.now.content in
    then-made (messages_to (delete_where (message_with_id c.number_of_row.result))) _ c.args.store.now c.look.new.store c.remove_messages_by_id.new.self found.0 (c.in_ok-remove_messages_by_id.ensures {u = tt})
    (λ clean.
    subst (λ (id : ℤ). IsPosted days c.args.registrar (with_queue (dropped c.args.message)) c.args.account c.in_ok-account.account xs (messages_to (delete_where (message_with_id id)) xs)) (sym c.number_of_row.ensures)
    (message-taken days c.args.registrar c.args.account xs (c.requires.there (found.0.clean clean)) c.args.message c.in_ok-row.field-0 (found.1 clean) gone c.in_ok-account.account
    (subst IsConsistent (found.0.content clean) (c.show_consistent.ensures clean)).keyed.messages (c.in_ok-row-2.ensures {u = tt} ∙ ap rows_of c.in-Some.is) c.in_ok-account.ensures.less))
