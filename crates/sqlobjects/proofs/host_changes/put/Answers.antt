use Rattle.std.proofs.Common.{◌≡◌, true, [], pos, Some, subst}
use Rattle.sqlobjects.proofs.Words.{addresses_of, AreAddressesPut, HasChanged, IsHostPut, IsHostRow, IsPlacedAt, named_hosts, reads-on}
use Rattle.sqlobjects.proofs.{HostLemmas.host-put, StepLemmas.asked-became}
use Rattle.sqlobjects.proofs.host_changes.put.Goals as goal

pub returns : goal.returns
returns g c =
    let old = c.args.store.now in
    let there = c.row_of.new.store in
    let middle = c.place_row.new.store in
    let new = c.put_addresses.new.store in
    let host = c.args.host.now in
    let found = c.in_ok-found.found in
    let bare = c.in_ok-bare.bare in
    let row = c.in_ok-row.row in
    let is_new = c.is_none-is_new.result in
    let asked = c.in_ok-found.ensures {u = tt} in
    let made = c.in_ok-bare.ensures {u = tt} in
    asked-became (IsPlacedAt named_hosts found bare row) (λ m e. (is_new ≡ true → addresses_of m row.id ≡ []) → AreAddressesPut row.id host.addresses m e) (IsHostPut host.name (Some host)) old there middle new
    (reads-on old c.row_to_change.new.store there asked.0 made.0) (c.in_ok-row.ensures {u = tt})
    (subst (λ texts. HasChanged (λ m e. (is_new ≡ true → addresses_of m row.id ≡ []) → AreAddressesPut row.id texts m e) middle new) c.as_slice.ensures (c.in_ok-put_addresses.ensures {u = tt}))
    (λ begun clean_there between clean placed all.
    let before = made.0.clean clean_there in
    host-put old.content middle.content new.content host found bare row is_new (c.show_consistent.ensures begun) (c.show_consistent-2.ensures between) (c.show_consistent-3.ensures clean)
    (c.is_host.ensures.0 c.if-not-is_host.false) (subst (λ xs. IsHostRow xs (pos 0) host bare) (asked.0.content before) (made.1 clean_there)) (asked.1 before) c.is_none-is_new.ensures placed all)
