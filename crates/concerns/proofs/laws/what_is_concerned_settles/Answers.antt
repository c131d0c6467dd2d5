use Rattle.concerns.proofs.ConcernLemmas.{caught-up}
use Rattle.concerns.proofs.laws.what_is_concerned_settles.Goals as goal

pub returns : goal.returns
returns c = λ p r g t chosen s all. caught-up p r g t chosen s all
