use Rattle.oldrows.proofs.TextLemmas.{host_asks}
use Rattle.oldrows.proofs.copied.HostRowCopied.all.Goals as goal

pub select-requires : goal.select-requires
select-requires g c = host_asks.is.plain

pub returns : goal.returns
returns g c = c.select.ensures _ host_asks
