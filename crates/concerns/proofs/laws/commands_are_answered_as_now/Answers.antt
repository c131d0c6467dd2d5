use Rattle.concerns.proofs.{CommandLemmas.{answer-now, effect-now}, FactsLemmas.facts-now}
use Rattle.concerns.proofs.laws.commands_are_answered_as_now.Goals as goal

pub returns : goal.returns
returns c = record { facts = λ p r x s is. facts-now p r x s is; answered = answer-now; left = effect-now }
