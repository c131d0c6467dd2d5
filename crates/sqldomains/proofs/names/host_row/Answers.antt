use Rattle.std.proofs.Common.{rules, filter, subst, Ok, ◌∙◌, FitsSigned, w64, to_z-of_z}
use Rattle.sqldomains.proofs.Words.{Finds, one-asked}
use Rattle.sqltables.specs.Host.{host_with_id}
use Rattle.sqldomains.proofs.names.host_row.Goals as goal

pub returns : goal.returns
returns g c =
    let fits : FitsSigned w64 c.args.id = search rules in
    one-asked c.only.result c.in_ok-rows.rows (host_with_id c.args.id) c.args.store.now.content.hosts c.args.store.now c.hosts_by_id.new.self c.only.ensures
    (subst (λ v. Finds (Ok c.in_ok-rows.rows) (filter (host_with_id v) c.args.store.now.content.hosts) c.args.store.now c.hosts_by_id.new.self) (c.new-number.ensures ∙ to_z-of_z fits) c.in_ok-rows.ensures)
