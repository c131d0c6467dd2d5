use Rattle.std.proofs.Common.{◌≡◌, ℕ, Bool, ◌∙◌, ap, cond, nat_lt, subst, sym, Some, true, false, arith}
use Rattle.sqlderived.proofs.Words.{due_then, FindsSome, nat_tests, passed, reads-same}
use Rattle.objects.specs.declared.roid.ObjectKind.TheVariants as kinds
use Rattle.sqlderived.specs.inner.Finding as spec
use Rattle.sqlderived.proofs.finding.with_domain.Goals as goal

pub returns-then-lt : goal.returns-then-lt
returns-then-lt g c =
    let n : ℕ = c.in_ok-column.column in
    let found = c.args.found.keys in
    let name = c.args.row.name in
    let read = spec.domain_due_in_row c.args.policy.now c.args.moment c.args.store.now.content c.args.row in
    let before : nat_lt n 7_258_118_399 ≡ true = grind (arith, nat_tests, c.lt.ensures, c.if-lt.true, c.last.ensures) in (
      reads-same c.args.store.now,
      λ clean.
          ap (λ z. spec.with_row found (spec.due_by_column c.args.policy.now c.args.moment c.args.store.now.content c.args.row z)) (c.in_ok-column.ensures {u = tt})
          ∙ ap (λ (b : Bool). spec.with_row found (cond b (Some (due_then kinds.Domain name (passed c.args.moment n))) read)) before
          ∙ ap (λ o. spec.with_row found (Some (due_then kinds.Domain name o))) (sym c.come.ensures) ∙ ap Some (sym (c.in_ok-with_due.ensures {u = tt})),
    )

pub returns : goal.returns
returns g c =
    let n : ℕ = c.in_ok-column.column in
    let read = spec.domain_due_in_row c.args.policy.now c.args.moment c.args.store.now.content c.args.row in
    let late : nat_lt n 7_258_118_399 ≡ false = grind (arith, nat_tests, c.lt.ensures, c.if-lt.false, c.last.ensures) in
    subst (λ o. FindsSome c.with_domain_read.result (λ more. spec.with_row c.args.found.keys o ≡ Some more.keys) c.args.store.now c.with_domain_read.new.store)
    (sym (ap (spec.due_by_column c.args.policy.now c.args.moment c.args.store.now.content c.args.row) (c.in_ok-column.ensures {u = tt})
    ∙ ap (λ (b : Bool). cond b (Some (due_then kinds.Domain c.args.row.name (passed c.args.moment n))) read) late)) c.with_domain_read.ensures
