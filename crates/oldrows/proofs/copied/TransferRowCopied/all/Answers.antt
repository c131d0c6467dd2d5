use Rattle.oldrows.proofs.TextLemmas.{transfer_asks}
use Rattle.oldrows.proofs.copied.TransferRowCopied.all.Goals as goal

pub select-requires : goal.select-requires
select-requires g c = transfer_asks.is.plain

pub returns : goal.returns
returns g c = c.select.ensures _ transfer_asks
