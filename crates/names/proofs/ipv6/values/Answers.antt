use Rattle.std.proofs.{Common.{rules, tests}, lemmas.Iterator.{YieldsList-from_map, items_from_collect, Consumers.YieldsList-at}}
use Rattle.std.proofs.lemmas.Iterator.Splits.{YieldsList-from_slice_split}
use Rattle.names.specs.Ipv6.{group_of, is_colon}
use Rattle.names.proofs.ipv6.values.Goals as goal

pub returns : goal.returns
returns c = items_from_collect _ c.collect.ensures.ran (YieldsList-from_map _ group_of (YieldsList-at c.map.ensures.source (YieldsList-from_slice_split _ is_colon c.args.text.now c.split.ensures.rest c.split.ensures.done c.split.ensures.closure (λ x r q k. search (rules, tests)))) c.map.ensures.closure (λ x r q k. search rules))
