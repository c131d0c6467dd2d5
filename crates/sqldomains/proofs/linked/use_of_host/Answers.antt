use Rattle.std.proofs.Common.{subst}
use Rattle.sqldomains.proofs.Words.{Content, Has, reads-on}
use Rattle.sqldomains.proofs.linked.use_of_host.Goals as goal

pub returns : goal.returns
returns g c =
    let s = c.args.store.now in
    let link = c.in_ok-link.ensures {u = tt} in
    let found = c.in_ok-domain_at.ensures {u = tt} in (
      reads-on s c.link_to_host.new.store c.domain_at.new.store link.0 found.0,
      λ e. subst (λ (xs : Content). Has xs.domains c.in_ok-domain_at.field-0) (link.0.content (found.0.clean e)) (found.1 e),
    )
