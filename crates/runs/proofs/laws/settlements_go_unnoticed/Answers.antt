use Rattle.runs.proofs.SettlementLemmas.{answers-are-determined, settlements-go-unnoticed, settlements-may-be-left-out}
use Rattle.runs.proofs.laws.settlements_go_unnoticed.Goals as goal

pub returns : goal.returns
returns c = record { left_out = settlements-may-be-left-out; determined = answers-are-determined; unnoticed = settlements-go-unnoticed }
