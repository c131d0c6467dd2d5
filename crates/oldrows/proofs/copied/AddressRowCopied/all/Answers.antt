use Rattle.oldrows.proofs.TextLemmas.{address_asks}
use Rattle.oldrows.proofs.copied.AddressRowCopied.all.Goals as goal

pub select-requires : goal.select-requires
select-requires g c = address_asks.is.plain

pub returns : goal.returns
returns g c = c.select.ensures _ address_asks
