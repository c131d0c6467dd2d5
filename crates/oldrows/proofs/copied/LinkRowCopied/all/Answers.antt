use Rattle.oldrows.proofs.TextLemmas.{link_asks}
use Rattle.oldrows.proofs.copied.LinkRowCopied.all.Goals as goal

pub select-requires : goal.select-requires
select-requires g c = link_asks.is.plain

pub returns : goal.returns
returns g c = c.select.ensures _ link_asks
