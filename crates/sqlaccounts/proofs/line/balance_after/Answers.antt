use Rattle.std.proofs.Common.{rules, ◌∙◌, FitsSigned, ◌+ℤ◌, subst, sym, ap, to_z-of_z}
use Rattle.std.specs.Int.{w128}
use Rattle.sqltables.specs.inner.Balance.{balance_bytes}
use Rattle.sqltables.proofs.BalanceLemmas.{balance_read}
use Rattle.sqlaccounts.proofs.line.balance_after.Goals as goal

pub returns-clause-sum : goal.returns-clause-sum
returns-clause-sum c =
    let h = c.in_ok-sum.ensures {u = tt} in
    let before : FitsSigned w128 c.from_be_bytes.result = search rules in
    let after : FitsSigned w128 c.in_ok-sum.sum = subst (FitsSigned w128) (sym h.1) h.0 in
    balance_read c.bytes_of_balance.result c.in_ok-sum.sum after (c.bytes_of_balance.ensures ∙ ap balance_bytes (to_z-of_z after)) ∙ h.1
    ∙ (λ i. (to_z-of_z before ∙ c.from_be_bytes.ensures) i +ℤ to_z-of_z c.ranges.cents i)
