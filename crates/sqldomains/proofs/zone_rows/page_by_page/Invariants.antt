use Rattle.std.proofs.Common.{◌≡◌, true}
use Rattle.states.specs.States.{Reads}
use Rattle.sqldomains.proofs.PageLemmas.{WalksOn}
use Rattle.sqldomains.proofs.zone_rows.page_by_page.Given as goal

-- nothing was changed, and the pages so far and those that are left are all rows
abbrev pub invariant-pages : goal.invariant-pages
invariant-pages g l = Reads l.fn.store l.store × (l.store.is_clean ≡ true → WalksOn l.fn.store.content 63 l.all l.page)
