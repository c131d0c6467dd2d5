use Rattle.oldrows.proofs.TextLemmas.{message_asks}
use Rattle.oldrows.proofs.copied.MessageRowCopied.all.Goals as goal

pub select-requires : goal.select-requires
select-requires g c = message_asks.is.plain

pub returns : goal.returns
returns g c = c.select.ensures _ message_asks
