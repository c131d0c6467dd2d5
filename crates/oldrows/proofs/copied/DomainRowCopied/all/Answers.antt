use Rattle.oldrows.proofs.TextLemmas.{domain_asks}
use Rattle.oldrows.proofs.copied.DomainRowCopied.all.Goals as goal

pub select-requires : goal.select-requires
select-requires g c = domain_asks.is.plain

pub returns : goal.returns
returns g c = c.select.ensures _ domain_asks
