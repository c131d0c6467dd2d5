use Rattle.oldrows.proofs.TextLemmas.{account_asks}
use Rattle.oldrows.proofs.copied.AccountRowCopied.all.Goals as goal

pub select-requires : goal.select-requires
select-requires g c = account_asks.is.plain

pub returns : goal.returns
returns g c = c.select.ensures _ account_asks
