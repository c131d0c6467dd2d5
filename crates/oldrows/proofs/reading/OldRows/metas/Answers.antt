use Rattle.oldrows.proofs.TextLemmas.{meta_asks}
use Rattle.oldrows.proofs.reading.OldRows.metas.Goals as goal

pub select-requires : goal.select-requires
select-requires g c = meta_asks.is.plain

pub returns : goal.returns
returns g c = c.select.ensures _ meta_asks
