use Rattle.oldrows.proofs.TextLemmas.{line_asks}
use Rattle.oldrows.proofs.copied.LineRowCopied.all.Goals as goal

pub select-requires : goal.select-requires
select-requires g c = line_asks.is.plain

pub returns : goal.returns
returns g c = c.select.ensures _ line_asks
