use Rattle.std.proofs.Common.{ap, sym}
use Rattle.server.proofs.HttpLemmas.{answer_by, left_of}
use Rattle.server.proofs.at_moment.answer_at.Goals as goal

pub returns-clause-answer : goal.returns-clause-answer
returns-clause-answer g c =
    let old = c.new-source.result in
    let new = c.answer-answer.new.source in
    let left = left_of (λ s. s.registry.policy) (λ s. s.moment) (λ s. g.B.Book.state s.registry.book) old new c.answer-answer.ensures.left in
    rw (sym c.new-source.ensures.registry, sym c.new-source.ensures.moment)
    (answer_by (λ v. v.items) _ _ _ _ _ _ _ _ _ (ap (λ r. g.B.Book.state r.book) c.into_registry.ensures) left.1 left.2 left.0 c.answer-answer.ensures.answer)
