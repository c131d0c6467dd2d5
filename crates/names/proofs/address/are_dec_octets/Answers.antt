use Rattle.std.proofs.{Common.{rules, tests}, lemmas.Iterator.{Search.all_from_yields_List, Splits.YieldsList-from_slice_split}}
use Rattle.names.specs.Addresses.{is_dec_octet}
use Rattle.names.proofs.address.are_dec_octets.Goals as goal

pub returns : goal.returns
returns c = all_from_yields_List is_dec_octet _ _ _ c.all.ensures.ran (YieldsList-from_slice_split _ _ c.args.text.now c.split.ensures.rest c.split.ensures.done c.split.ensures.closure (λ x r q k. search (rules, tests))) (λ x r q k. search (rules, tests))
