use Rattle.std.proofs.Common.{◌≡◌, [], None, refl, ap, subst, ◌∙◌}
use Rattle.sqlobjects.proofs.Words.{address_with_host, addresses_to, AreAddressesPut, Content, delete_where, HasChanged, host_with_id, hosts_to, IsHostFound, IsHostPut}
use Rattle.sqlobjects.proofs.{AddressLemmas.cleared, HostLemmas.{none-dropped, one-dropped}, StepLemmas.{asked-became, asked-stood, made}}
use Rattle.sqlobjects.proofs.host_changes.drop_host.Goals as goal

pub returns-in_default : goal.returns-in_default
returns-in_default g c =
    let old = c.args.store.now in
    let asked = c.in_ok-row.ensures {u = tt} in
    asked-stood (IsHostPut c.args.name None) old c.row_to_change.new.store asked.0 c.requires (λ clean. none-dropped old.content c.args.name (c.show_consistent.ensures (asked.0.clean clean)) (subst (IsHostFound old.content c.args.name) c.in_default.is (asked.1 clean)))

pub returns : goal.returns
returns g c =
    let old = c.args.store.now in
    let there = c.row_to_change.new.store in
    let middle = c.remove_addresses_by_host.new.self in
    let number = c.number_of-number.result in
    let new = c.remove_hosts_by_id.new.self in
    let row = c.in-Some.row in
    let asked = c.in_ok-row.ensures {u = tt} in
    let without : Content → Content = hosts_to (delete_where (host_with_id number)) in
    asked-became (AreAddressesPut row.id []) (λ m e. e ≡ without m) (IsHostPut c.args.name None) old there middle new
    asked.0 (subst (λ id. HasChanged (AreAddressesPut id []) there middle) c.number_of-number.ensures (made (AreAddressesPut number []) (addresses_to (delete_where (address_with_host number))) there middle (c.in_ok-remove_addresses_by_host.ensures {u = tt}) (cleared number there.content))) (made (λ m e. e ≡ without m) without middle new (c.in_ok-remove_hosts_by_id.ensures {u = tt}) refl)
    (λ begun found between clean without_them gone.
    one-dropped old.content middle.content c.args.name row (c.show_consistent.ensures begun) (subst (IsHostFound old.content c.args.name) c.in-Some.is (asked.1 found)) without_them new.content
    (gone ∙ ap (λ id. hosts_to (delete_where (host_with_id id)) middle.content) c.number_of-number.ensures) (c.show_consistent-2.ensures clean))
