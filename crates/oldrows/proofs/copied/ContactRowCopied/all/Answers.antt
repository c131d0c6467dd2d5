use Rattle.oldrows.proofs.TextLemmas.{contact_asks}
use Rattle.oldrows.proofs.copied.ContactRowCopied.all.Goals as goal

pub select-requires : goal.select-requires
select-requires g c = contact_asks.is.plain

pub returns : goal.returns
returns g c = c.select.ensures _ contact_asks
