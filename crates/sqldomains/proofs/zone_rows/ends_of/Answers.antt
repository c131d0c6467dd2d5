use Rattle.std.proofs.Common.{Some, sym, ◌∙◌}
use Rattle.sqldomains.proofs.PageLemmas.{ends-are}
use Rattle.sqldomains.proofs.zone_rows.ends_of.Goals as goal

pub returns : goal.returns
returns c =
    (λ i. Some (c.number_of.ensures i, c.number_of-2.ensures i))
    ∙ ends-are c.args.rows.now c.in_ok-first.first.now c.in_ok-last.last.now (sym c.in_ok-first.ensures.value) (sym c.in_ok-last.ensures.value)
