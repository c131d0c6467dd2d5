use Rattle.std.proofs.Common.{false, nat_le, ◌&&◌, None, option_map}
use Rattle.facts.specs.{declared.facts.TheConstants.HOLDING_LIMIT, Facts.{account_facts, facts, held, queue_asked}}
use Rattle.model.specs.Registry.{Registry, account_of}
use Rattle.names.specs.RequestedName.{name_of}
use Rattle.protocol.specs.Requests.{adds_a_held_domain, asked, new_host_asked}
use Rattle.books.specs.Lookups.{host_facts_in, objects_known}
use Rattle.books.proofs.FoundLemmas.{also-found}
use Rattle.books.proofs.finding.facts_for.Goals as goal

pub returns : goal.returns
returns g c =
    let p = c.args.policy.now in
    let r = c.args.caller in
    let x = c.args.command.now in
    let start = g.R.Records.kept c.args.records.now in
    let after_missing = g.R.Records.kept c.reference_missing.new.records in
    let after_limit = g.R.Records.kept c.holding_limit_reached.new.records in
    let after_account = g.R.Records.kept c.account_facts.new.records in
    let after_objects = g.R.Records.kept c.objects_for.new.records in
    let after_queue = g.R.Records.kept c.queue_facts.new.records in
    let after_name = g.R.Records.kept c.new_name_for.new.records in
    let found =
    also-found (λ (s : Registry). option_map (λ name. host_facts_in x s (name_of name)) (asked None new_host_asked x)) c.in_ok-at_new_name.at_new_name start after_queue after_name
    (also-found (λ (s : Registry). queue_asked x (account_of r s)) c.in_ok-queue.queue start after_objects after_queue
    (also-found (λ (s : Registry). objects_known (facts p r x s)) (c.in_ok-contacts.contacts, c.in_ok-contacts.domains, c.in_ok-contacts.hosts) start after_account after_objects
    (also-found (λ (s : Registry). account_facts x (account_of r s)) c.in_ok-account.account start after_limit after_account
    (also-found (λ (s : Registry). asked false adds_a_held_domain x && nat_le HOLDING_LIMIT (held r s)) c.in_ok-limit.limit start after_missing after_limit
    c.in_ok-missing.ensures c.in_ok-limit.ensures)
    c.in_ok-account.ensures)
    c.in_ok-contacts.ensures)
    c.in_ok-queue.ensures)
    c.in_ok-at_new_name.ensures in (
      found.0,
      λ e.
          let known = found.1 e in
          λ i. record {
            account = known.0.0.0.1 i;
            queue = known.0.1 i;
            contacts = (known.0.0.1 i).0;
            domains = (known.0.0.1 i).1;
            hosts = (known.0.0.1 i).2;
            at_new_name = known.1 i;
            reference_missing = known.0.0.0.0.0 i;
            holding_limit_reached = known.0.0.0.0.1 i;
          },
    )
