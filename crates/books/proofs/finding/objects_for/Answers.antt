use Rattle.std.proofs.Common.{[], map}
use Rattle.facts.specs.Facts.{contact_facts, domain_facts, lookups}
use Rattle.model.specs.Registry.{Registry}
use Rattle.names.specs.RequestedName.{name_of}
use Rattle.protocol.specs.Requests.{asked, contacts_asked, domains_asked}
use Rattle.books.proofs.FoundLemmas.{also-found}
use Rattle.books.proofs.finding.objects_for.Goals as goal

pub returns : goal.returns
returns g c =
    let p = c.args.policy.now in
    let r = c.args.caller in
    let x = c.args.command.now in
    let start = g.R.Records.kept c.args.records.now in
    let after_hosts = g.R.Records.kept c.hosts_for.new.records in
    let after_contacts = g.R.Records.kept c.contacts_for.new.records in
    let after_domains = g.R.Records.kept c.domains_for.new.records in
    let found =
    also-found (λ (s : Registry). map (λ name. domain_facts (lookups p r x s) x (name_of name)) (asked [] domains_asked x)) c.in_ok-domains.domains start after_contacts after_domains
    (also-found (λ (s : Registry). map (contact_facts (lookups p r x s) x) (asked [] contacts_asked x)) c.in_ok-contacts.contacts start after_hosts after_contacts
    c.in_ok-hosts.ensures
    c.in_ok-contacts.ensures)
    c.in_ok-domains.ensures in (
      found.0,
      λ e.
          let known = found.1 e in
          λ i. (known.0.1 i, known.1 i, known.0.0 i),
    )
