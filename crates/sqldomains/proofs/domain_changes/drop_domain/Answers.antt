use Rattle.std.proofs.Common.{◌≡◌, None, refl, ap, subst, ◌∙◌}
use Rattle.sqldomains.proofs.Words.{AreLinksCleared, asked-became, asked-stood, Content, delete_where, domain_with_id, domains_to, HasChanged}
use Rattle.sqldomains.proofs.Words.{IsDomainPut, IsTransferCleared, link_with_domain, links_to, made, rows_of, then-became}
use Rattle.sqldomains.proofs.{DomainLemmas.{none-dropped, one-dropped}, LinkRowLemmas.links-cleared}
use Rattle.sqlobjects.specs.declared.transfers.Transferable.{Transferable}
use Rattle.sqlobjects.specs.declared.transfers.Transferable.TheVariants as transferable
use Rattle.sqldomains.proofs.domain_changes.drop_domain.Goals as goal

pub returns-in_default : goal.returns-in_default
returns-in_default g c =
    let old = c.args.store.now in
    let asked = c.in_ok-row.ensures {u = tt} in
    asked-stood (IsDomainPut c.args.name.now None None) old c.row_named.new.store asked.0 c.requires (λ clean. none-dropped old.content c.args.name.now (c.show_consistent.ensures (asked.0.clean clean)) (asked.1 clean ∙ ap rows_of c.in_default.is))

pub returns : goal.returns
returns g c =
    let old = c.args.store.now in
    let there = c.row_named.new.store in
    let between = c.remove_links_by_domain.new.self in
    let last = c.clear_transfer.new.store in
    let new = c.remove_domains_by_id.new.self in
    let row = c.in-Some.row in
    let number = c.number_of-number in
    let asked = c.in_ok-row.ensures {u = tt} in
    let without : Content → Content = domains_to (delete_where (domain_with_id number.result)) in
    let cleared : Content → Content → Type 0 = IsTransferCleared (transferable.Domain row.id) in
    let removed : Content → Content → Type 0 = λ m e. (k : Content) × cleared m k × (e ≡ without k) in
    asked-became (AreLinksCleared row.id) removed (IsDomainPut c.args.name.now None None) old there between new
    asked.0 (subst (λ id. HasChanged (AreLinksCleared id) there between) number.ensures (made (AreLinksCleared number.result) (links_to (delete_where (link_with_domain number.result))) there between (c.in_ok-remove_links_by_domain.ensures {u = tt}) (links-cleared number.result there.content)))
    (then-became cleared (λ m e. e ≡ without m) removed between last new (subst (λ (it : Transferable). HasChanged (IsTransferCleared it) between last) c.of_domain.ensures (c.in_ok-clear_transfer.ensures {u = tt}))
    (made (λ m e. e ≡ without m) without last new (c.in_ok-remove_domains_by_id.ensures {u = tt}) refl)
    (λ clean p q. (last.content, p, q)))
    (λ begun found middle clean links gone.
    one-dropped old.content between.content gone.0 c.args.name.now row (c.show_consistent.ensures begun) (asked.1 found ∙ ap rows_of c.in-Some.is) links gone.1 new.content
    (gone.2 ∙ ap (λ id. domains_to (delete_where (domain_with_id id)) gone.0) number.ensures) (c.show_consistent-2.ensures clean))
