use Rattle.std.proofs.Common.{ap, subst, ◌∙◌}
use Rattle.sqldomains.proofs.{Words.{Content, domain_with_registrant, Has, reads-on, rows_of}, AnswerLemmas.first-in}
use Rattle.sqldomains.proofs.linked.use_of_contact.Goals as goal

pub returns-in-Some : goal.returns-in-Some
returns-in-Some g c =
    let asked = c.in_ok-row.ensures {u = tt} in
    (asked.0, λ e. first-in (domain_with_registrant _) c.args.store.now.content.domains c.in-Some.row (asked.1 e ∙ ap rows_of c.in-Some.is))

pub returns : goal.returns
returns g c =
    let s = c.args.store.now in
    let first = c.in_ok-row.ensures {u = tt} in
    let link = c.in_ok-link.ensures {u = tt} in
    let found = c.in_ok-domain_at.ensures {u = tt} in
    let both = reads-on s c.registered_by.new.store c.link_to_contact.new.store first.0 link.0 in (
      reads-on s c.link_to_contact.new.store c.domain_at.new.store both found.0,
      λ e. subst (λ (xs : Content). Has xs.domains c.in_ok-domain_at.field-0) (both.content (found.0.clean e)) (found.1 e),
    )
