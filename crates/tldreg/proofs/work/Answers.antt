use Rattle.std.proofs.{Common.{ℕ, Option, Result, Err, ap, refl, sym, subst, ◌∙◌}, lemmas.Result.err_from_is_err_and}
use Rattle.std.specs.Prelude.{⊤}
use Rattle.policy.specs.Rules.{PolicyRules}
use Rattle.registry.proofs.CallsKept.{follows-itself}
use Rattle.script.specs.declared.exit.Exit.{Exit}
use Rattle.tldreg.specs.inner.Ends.{EndsJob, EndsJobAfter, EndsWithin}
use Rattle.tldreg.proofs.work.Goals as goal

pub returns-in_err-require_near : goal.returns-in_err-require_near
returns-in_err-require_near g c =
    let p = c.args.registry.now.policy in
    let job = c.args.job.now in
    let between = g.B.Book.state c.require_near.new.registry.book in
    let ended = err_from_is_err_and c.from_residual.result c.from_residual.ensures.1 in
    subst (λ (within : Option ℕ). EndsWithin within p job (g.B.Book.state c.args.registry.now.book) between c.from_residual.result) (sym c.in-Some.is) (
      c.moment_of.result,
      c.moment_of.ensures,
      c.require_near.result,
      between,
      c.require_near.ensures.near,
      follows-itself between,
      subst (λ (near : Result ⊤ Exit). EndsJobAfter near p job between between c.from_residual.result) (sym c.in_err-require_near.was) (refl, ended.1 ∙ ap Err ended.2),
    )

pub returns : goal.returns
returns g c =
    let p = c.args.registry.now.policy in
    let job = c.args.job.now in
    let between = g.B.Book.state c.require_near.new.registry.book in
    let new = g.B.Book.state c.do_job-2.new.registry.book in
    let ended = c.do_job-2.result in
    subst (λ (within : Option ℕ). EndsWithin within p job (g.B.Book.state c.args.registry.now.book) new ended) (sym c.in-Some.is) (
      c.moment_of.result,
      c.moment_of.ensures,
      c.require_near.result,
      between,
      c.require_near.ensures.near,
      c.do_job-2.ensures.follows,
      subst (λ (near : Result ⊤ Exit). EndsJobAfter near p job between new ended) (sym c.in_ok-require_near.was) (subst (λ (q : PolicyRules). EndsJob q job between new ended) c.require_near.ensures.policy c.do_job-2.ensures.ends),
    )
