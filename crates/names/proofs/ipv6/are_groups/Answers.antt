use Rattle.std.proofs.{Common.{rules, tests}, lemmas.Iterator.{Search.all_from_yields_List, Splits.YieldsList-from_slice_split}}
use Rattle.names.specs.Ipv6.{is_group}
use Rattle.names.proofs.ipv6.are_groups.Goals as goal

pub returns : goal.returns
returns c = all_from_yields_List is_group _ _ _ c.all.ensures.ran (YieldsList-from_slice_split _ _ c.args.text.now c.split.ensures.rest c.split.ensures.done c.split.ensures.closure (λ x r q k. search (rules, tests))) (λ x r q k. search (rules, tests))
