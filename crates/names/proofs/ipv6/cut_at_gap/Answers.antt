use Rattle.names.proofs.AddressLemmas.{cut_at_gap-split_once}
use Rattle.names.proofs.ipv6.cut_at_gap.Goals as goal

pub returns : goal.returns
returns c = cut_at_gap-split_once c.args.text.now _ c.split_once.ensures.cases
