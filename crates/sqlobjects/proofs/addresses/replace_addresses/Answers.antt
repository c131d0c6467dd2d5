use Rattle.std.proofs.Common.{[]}
use Rattle.sqlobjects.proofs.Words.{address_with_host, addresses_to, AreAddressesAdded, AreAddressesPut, delete_where, then-became, then-made}
use Rattle.sqlobjects.proofs.{AddressLemmas.{addresses-put, already-put, cleared}, StepLemmas.asked-stood}
use Rattle.sqlobjects.proofs.addresses.replace_addresses.Goals as goal

pub returns-then-is_there : goal.returns-then-is_there
returns-then-is_there g c =
    let id = c.args.host.now.id in
    let texts = c.args.addresses.now in
    let old = c.args.store.now in
    let found = c.in_ok-is_there.ensures in
    asked-stood (AreAddressesPut id texts) old c.has_addresses.new.store found.0 c.requires (λ clean. already-put id texts old.content (found.1 clean c.if-is_there.true))

pub returns : goal.returns
returns g c =
    let id = c.args.host.now.id in
    let number = c.number_of.result in
    let texts = c.args.addresses.now in
    let old = c.args.store.now in
    let middle = c.remove_addresses_by_host.new.self in
    let new = c.add_addresses.new.store in
    let clear = then-made (addresses_to (delete_where (address_with_host number))) (AreAddressesPut number []) old c.has_addresses.new.store middle c.in_ok-is_there.ensures.0 (c.in_ok-remove_addresses_by_host.ensures {u = tt}) (λ clean. cleared number old.content) in
    then-became (AreAddressesPut number []) (AreAddressesAdded id texts) (AreAddressesPut id texts) old middle new clear (c.in_ok-add_addresses.ensures {u = tt})
    (λ clean one two. addresses-put id number texts old.content middle.content new.content c.number_of.ensures one two)
