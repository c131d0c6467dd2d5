use Rattle.std.proofs.Common.{◌≡◌, ◌∙◌, inl, ℤ, pos, ◌-ℤ◌, FitsSigned, arith, subst, to_z, of_z}
use Rattle.sqlaccounts.proofs.Words.{ints, w128}
use Rattle.sqlaccounts.proofs.line.paid_back.Goals as goal

pub returns-in-Err-clause-fits : goal.returns-in-Err-clause-fits
returns-in-Err-clause-fits c =
    let same : to_z w128 (of_z w128 c.amount.result) ≡ c.amount.result = omega (arith, ints) in
    inl (subst (λ (a : ℤ). ¬ FitsSigned w128 (pos 0 -ℤ a)) (same ∙ c.amount.ensures.value) c.in-Err.ensures.fits)
