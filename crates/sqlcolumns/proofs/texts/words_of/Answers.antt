use Rattle.std.proofs.{Common.rules, lemmas.Iterator.{YieldsList-from_map_by, YieldsList-from_slice, Consumers.{YieldsList-at, map_from_collect}}}
use Rattle.objects.specs.StatusTexts.{status_text}
use Rattle.sqlcolumns.proofs.texts.words_of.Goals as goal

pub returns : goal.returns
returns c = map_from_collect _ c.collect.ensures.ran (YieldsList-from_map_by _ (λ w. w.now) status_text (YieldsList-at c.map.ensures.source (YieldsList-from_slice c.args.statuses.now c.iter.ensures.rest)) c.map.ensures.closure (λ x r q k. search rules))
