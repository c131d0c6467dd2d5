use Rattle.std.proofs.Common.{ap, ◌∙◌}
use Rattle.sqldomains.proofs.Words.{domain_read, named_domains, rows_of}
use Rattle.sqlobjects.proofs.FoundLemmas.{none-stands, one-stands}
use Rattle.sqldomains.proofs.domains.domain.Goals as goal

pub returns-in_default-clause-found : goal.returns-in_default-clause-found
returns-in_default-clause-found g c =
    let asked = c.in_ok-row.ensures {u = tt} in
    none-stands named_domains domain_read c.args.name.now c.args.store.now c.row_named.new.store asked.0 (λ e. asked.1 e ∙ ap rows_of c.in_default.is)

pub returns-clause-found : goal.returns-clause-found
returns-clause-found g c =
    let asked = c.in_ok-row.ensures {u = tt} in
    one-stands named_domains domain_read c.args.name.now c.args.store.now c.row_named.new.store asked.0 c.domain_of.new.store c.in-Some.row c.in_ok-domain_of.field-0 (λ e. asked.1 e ∙ ap rows_of c.in-Some.is) (c.in_ok-domain_of.ensures {u = tt})
