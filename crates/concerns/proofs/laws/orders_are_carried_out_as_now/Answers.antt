use Rattle.concerns.proofs.OrderLemmas.{deposit-effect-now, object-now, status-answer-now, status-effect-now}
use Rattle.concerns.proofs.laws.orders_are_carried_out_as_now.Goals as goal

pub returns : goal.returns
returns c = record {
  left = object-now;
  ordered = λ p o s is. (status-answer-now p o s is, status-effect-now p o s is);
  deposits = λ p id cents s. deposit-effect-now p s id cents;
}
