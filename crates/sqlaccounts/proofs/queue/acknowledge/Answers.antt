use Rattle.std.proofs.{Common.{false, ap, sym, ◌∙◌}, lemmas.Option.same_Some}
use Rattle.std.specs.Str.{bytes_eq}
use Rattle.sqlaccounts.proofs.{Words.{dropped, Message, message_id, with_queue}, CallLemmas.then-kept, PostingLemmas.posts-behind}
use Rattle.sqlaccounts.proofs.StepLemmas.{ack-posted, none-to-ack}
use Rattle.sqlaccounts.proofs.queue.acknowledge.Goals as goal

pub returns-in_default : goal.returns-in_default
returns-in_default g c = λ days.
    let asked = c.in_ok-message.ensures in
    then-kept _ c.args.store.now c.oldest.new.store asked.0 c.requires.begun
    (λ clean. none-to-ack days c.args.registrar c.args.row c.args.store.now.content (c.requires.there (asked.0.clean clean)) c.args.id.now _ (asked.1 clean) (λ m is. let none = c.in_default.is in cc))

pub returns-then-is_named : goal.returns-then-is_named
returns-then-is_named g c = λ days.
    let asked = c.in_ok-message.ensures in
    posts-behind c.take_message.result days c.args.registrar (with_queue (dropped c.in-Some.message)) _ c.args.row c.args.store.now c.oldest.new.store c.take_message.new.store asked.0
    (λ clean changed ys it. ack-posted days c.args.registrar c.args.row c.args.store.now.content (c.requires.there (asked.0.clean clean)) c.args.id.now _ (asked.1 clean) c.in-Some.message changed ys c.in-Some.is (sym (c.in_ok-is_named.ensures {u = tt}) ∙ c.if-is_named.true) it)
    (c.take_message.ensures days)

pub returns : goal.returns
returns g c = λ days.
    let asked = c.in_ok-message.ensures in
    then-kept _ c.args.store.now c.oldest.new.store asked.0 c.requires.begun
    (λ clean. none-to-ack days c.args.registrar c.args.row c.args.store.now.content (c.requires.there (asked.0.clean clean)) c.args.id.now _ (asked.1 clean)
    (λ m is. ap (λ (k : Message). bytes_eq (message_id k) c.args.id.now) (same_Some m c.in-Some.message (sym is ∙ c.in-Some.is)) ∙ sym (c.in_ok-is_named.ensures {u = tt}) ∙ c.if-is_named.false))
