use Rattle.std.proofs.Common.{◌≡◌, Some, sym, ap, subst, ◌∙◌}
use Rattle.sqlderived.proofs.Words.{Content, domain_due_shown, reads-on, with_rows}
use Rattle.sqlderived.proofs.finding.due_of.Goals as goal

pub returns : goal.returns
returns g c =
    let found = c.in_ok-found.found.keys in
    let first = c.in_ok-found.ensures {u = tt} in
    let second = c.in_ok-all.ensures {u = tt} in (
      reads-on c.args.store.now c.of_contacts.new.store c.with_domains.new.store first.0 second.0,
      λ clean.
          let read = second.0.clean clean in
          record {
            found = found;
            first = first.1 read;
            second = subst (λ (xs : Content). with_rows (domain_due_shown c.args.policy.now c.args.moment xs) found c.args.domains ≡ Some c.in_ok-all.all.keys) (first.0.content read) (second.1 clean)
                ∙ ap Some (sym (c.in_ok-listed.ensures {u = tt}));
          },
    )
