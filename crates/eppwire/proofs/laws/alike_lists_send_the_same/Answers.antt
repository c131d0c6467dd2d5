use Rattle.eppwire.proofs.RunLemmas.{alike-lists-send-the-same}
use Rattle.eppwire.proofs.laws.alike_lists_send_the_same.Goals as goal

pub returns : goal.returns
returns c = alike-lists-send-the-same
