use Rattle.std.proofs.Common.{ap, ◌∙◌}
use Rattle.sqlobjects.proofs.{Words.{contact_read, named_contacts, rows_of}, FoundLemmas.{none-stands, one-stands}}
use Rattle.sqlobjects.proofs.contacts.contact.Goals as goal

pub returns-in_default-clause-found : goal.returns-in_default-clause-found
returns-in_default-clause-found g c =
    let asked = c.in_ok-row.ensures {u = tt} in
    none-stands named_contacts contact_read c.args.name.now c.args.store.now c.row_named.new.store asked.0 (λ e. asked.1 e ∙ ap rows_of c.in_default.is)

pub returns-clause-found : goal.returns-clause-found
returns-clause-found g c =
    let asked = c.in_ok-row.ensures {u = tt} in
    one-stands named_contacts contact_read c.args.name.now c.args.store.now c.row_named.new.store asked.0 c.contact_of.new.store c.in-Some.row c.in_ok-contact_of.field-0 (λ e. asked.1 e ∙ ap rows_of c.in-Some.is) (c.in_ok-contact_of.ensures {u = tt})
