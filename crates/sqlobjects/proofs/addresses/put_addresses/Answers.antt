use Rattle.std.proofs.Common.{◌≡◌, true, []}
use Rattle.sqlobjects.proofs.{Words.{addresses_of, AreAddressesAdded, AreAddressesPut, reads-same}, AddressLemmas.added-put}
use Rattle.sqlobjects.proofs.StepLemmas.{asked-turns}
use Rattle.sqlobjects.proofs.addresses.put_addresses.Goals as goal

pub returns-then-is_new : goal.returns-then-is_new
returns-then-is_new g c =
    let id = c.args.host.now.id in
    let is_new = c.args.is_new in
    let texts = c.args.addresses.now in
    let old = c.args.store.now in
    let new = c.add_addresses.new.store in
    asked-turns c.add_addresses.result (AreAddressesAdded id texts) (λ m e. (is_new ≡ true → addresses_of m id ≡ []) → AreAddressesPut id texts m e) old old new (reads-same old)
    c.add_addresses.ensures (λ clean add none. added-put id texts old.content new.content (none c.if-is_new.true) add)

pub returns : goal.returns
returns g c =
    let id = c.args.host.now.id in
    let is_new = c.args.is_new in
    let texts = c.args.addresses.now in
    let old = c.args.store.now in
    asked-turns c.replace_addresses.result (AreAddressesPut id texts) (λ m e. (is_new ≡ true → addresses_of m id ≡ []) → AreAddressesPut id texts m e) old old c.replace_addresses.new.store (reads-same old)
    c.replace_addresses.ensures (λ clean put none. put)
