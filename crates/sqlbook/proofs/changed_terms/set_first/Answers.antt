use Rattle.std.proofs.Common.{inr}
use Rattle.sqlbook.proofs.{Words.{asked-then, IsSetDown, IsTermsSet}, TermLemmas.set-down}
use Rattle.sqlbook.proofs.changed_terms.set_first.Goals as goal

pub returns : goal.returns
returns g c =
    let value = c.args.terms.now in
    let old = c.args.store.now in
    let new = c.set_terms.new.store in
    let asked = c.in_ok-no_domains.ensures {u = tt} in
    let made = c.in_ok-set_terms.ensures {u = tt} in
    asked-then (IsTermsSet value) (IsSetDown value) old c.no_domains.new.store new asked.0 made (λ t it. set-down value old.content new.content it (inr (asked.1 (made.clean t))))
