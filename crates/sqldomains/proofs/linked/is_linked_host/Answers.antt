use Rattle.std.proofs.Common.{sym, ap, subst, ◌∙◌}
use Rattle.sqldomains.proofs.{Words.{names_host, reads-on, rows_of}, AnswerLemmas.{alike, host-nowhere, host-unused}}
use Rattle.sqldomains.proofs.LinkedLemmas.{one-passes}
use Rattle.sqldomains.specs.inner.Links as spec
use Rattle.sqldomains.proofs.linked.is_linked_host.Goals as goal

pub returns-in_default : goal.returns-in_default
returns-in_default g c =
    let first = c.in_ok-host.ensures {u = tt} in
    (first.0, λ e. sym (host-nowhere c.args.store.now.content c.args.name.now (first.1 e ∙ ap rows_of c.in_default.is)))

pub returns-in_default-2 : goal.returns-in_default-2
returns-in_default-2 g c =
    let first = c.in_ok-host.ensures {u = tt} in
    let second = c.in_ok-row.ensures {u = tt} in
    let host = c.in-Some.host in (
      reads-on c.args.store.now c.row_named.new.store c.use_of_host.new.store first.0 second.0,
      λ e.
          let before = second.0.clean e in
          sym (host-unused c.args.store.now.content c.args.name.now host (first.1 before ∙ ap rows_of c.in-Some.is)
          (alike (λ xs. spec.IsUseOfHost xs host.id) _ _ _ _ (first.0.content before) c.in_default-2.is (second.1 e))),
    )

pub returns : goal.returns
returns g c =
    let first = c.in_ok-host.ensures {u = tt} in
    let second = c.in_ok-row.ensures {u = tt} in
    let third = c.in_ok-naming_host.ensures {u = tt} in
    let xs = c.args.store.now.content in
    let row = c.in-Some-2.row in
    let both = reads-on c.args.store.now c.row_named.new.store c.use_of_host.new.store first.0 second.0 in (
      reads-on c.args.store.now c.use_of_host.new.store c.naming_host.new.store both third.0,
      λ clean.
          let e = third.0.clean clean in
          sym (one-passes xs (λ d. names_host c.args.name.now d.links) (c.show_consistent.ensures (both.clean e)) row
          (alike (λ xs. spec.IsUseOfHost xs c.in-Some.host.id) _ _ _ _ (first.0.content (second.0.clean e)) c.in-Some-2.is (second.1 e))
          (subst (λ ys. spec.PassesTest ys (λ d. names_host c.args.name.now d.links) row) (both.content e) (third.1 clean))),
    )
