use Rattle.std.proofs.Common.{[], ◌∷◌}
use Rattle.sqlobjects.proofs.{Words.{addresses, addresses_to, AreAddressesAdded}, AddressLemmas.one-added, StepLemmas.made}
use Rattle.sqlrows.specs.inner.Layouts.{appended}
use Rattle.sqlobjects.proofs.addresses.add_address.Goals as goal

pub returns : goal.returns
returns g c =
    let id = c.args.host.now.id in
    let text = c.args.address.now in
    let row = c.in_ok-row.row in
    made (AreAddressesAdded id (text ∷ [])) (addresses_to (appended addresses (λ k. record row { id = k }))) c.args.store.now c.append_address.new.self
    (c.in_ok-append_address.ensures {u = tt}) (one-added id text c.args.store.now.content row c.in_ok-row.ensures.host c.in_ok-row.ensures.address)
