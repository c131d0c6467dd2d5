use Rattle.std.proofs.Common.{pos, sym, subst, ap, ◌∙◌}
use Rattle.sqlaccounts.proofs.{Words.{Content, IsConsistent, queue_of, slice_get}, ConsistencyLemmas.parts-there}
use Rattle.sqlaccounts.proofs.MessageLemmas.{first_found, none_found}
use Rattle.sqlaccounts.proofs.queue.oldest.Goals as goal

pub returns-in_default : goal.returns-in_default
returns-in_default g c =
    let xs : Content = c.args.store.now.content in
    let e = c.in_ok-row.ensures {u = tt} in (
      e.0,
      λ clean. sym (none_found xs (pos c.args.registrar) (ap (λ id. slice_get (queue_of id xs.messages) 0) (sym c.in_ok-id.ensures.number) ∙ sym (e.1 clean) ∙ c.in_default.is))
          ∙ ap (λ ms. slice_get ms 0) (sym (parts-there xs c.args.registrar (subst IsConsistent (e.0.content clean) (c.show_consistent.ensures clean)) c.in_ok-id.ensures.place).1),
    )

pub returns : goal.returns
returns g c =
    let xs : Content = c.args.store.now.content in
    let e = c.in_ok-row.ensures {u = tt} in (
      e.0,
      λ clean. sym (first_found xs (pos c.args.registrar) c.in-Some.row c.in_ok-message.message
          (ap (λ id. slice_get (queue_of id xs.messages) 0) (sym c.in_ok-id.ensures.number) ∙ sym (e.1 clean) ∙ c.in-Some.is)
          (sym c.message_of_row.ensures.value ∙ c.in_ok-message.ensures))
          ∙ ap (λ ms. slice_get ms 0) (sym (parts-there xs c.args.registrar (subst IsConsistent (e.0.content clean) (c.show_consistent.ensures clean)) c.in_ok-id.ensures.place).1),
    )
