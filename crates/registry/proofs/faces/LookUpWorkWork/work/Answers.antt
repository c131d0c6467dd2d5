use Rattle.registry.proofs.{Words.{IsLookUp, lapsing}, PassingSteps.looked-up, StepLemmas.finds-then}
use Rattle.registry.proofs.faces.LookUpWorkWork.work.Goals as goal

pub returns : goal.returns
returns g c =
    let p = c.args.policy.now in
    let it = c.args.self.now.what.now in
    let moment = c.args.self.now.moment in
    let old = g.B.Book.state c.args.book.now in
    let mid = g.B.Book.state c.pass.new.book in
    let find = g.L.LookUp.finds it p in
    let what = g.L.LookUp.awaits it in
    finds-then c.look.result (find mid.content.registry) (IsLookUp p find (lapsing p what) moment)
    old mid (g.B.Book.state c.look.new.book) c.requires c.in_ok-pass.ensures.0
    (λ clean.
    let is = rw c.scope.ensures at c.in_ok-pass.ensures.1 clean in
    looked-up p find what moment c.in_ok-pass.field-0 old.content.registry
    mid.content.registry is (g.L.LookUp.is_as_now it p mid.content.registry is.settled))
    c.look.ensures
