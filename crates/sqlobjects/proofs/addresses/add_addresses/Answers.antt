use Rattle.std.proofs.Common.{◌+◌, [], ◌∷◌, subst, take}
use Rattle.sqlobjects.proofs.{Words.{AreAddressesAdded, HasChanged, take_all, then-became}, AddressLemmas.{next-added, none-added}}
use Rattle.sqlobjects.proofs.StepLemmas.{stood}
use Rattle.sqlobjects.proofs.addresses.add_addresses.Goals as goal

pub loop-address-init : goal.loop-address-init
loop-address-init g c = stood (AreAddressesAdded c.args.host.now.id []) c.args.store.now c.requires (none-added c.args.host.now.id c.args.store.now.content)

pub loop-address-preserved : goal.loop-address-preserved
loop-address-preserved g c =
    let id = c.args.host.now.id in
    let texts = c.args.addresses.now in
    let i = c.loop-address.address-index in
    let text = c.address-item.result in
    let old = c.args.store.now in
    let middle = c.loop-address.store in
    let new = c.add_address.new.store in
    then-became (AreAddressesAdded id (take i texts)) (AreAddressesAdded id (text ∷ [])) (AreAddressesAdded id (take (i + 1) texts)) old middle new
    c.loop-address.invariant (c.in_ok-add_address.ensures {u = tt})
    (λ clean one two. next-added id texts i text old.content middle.content new.content c.loop-address-test.true c.address-item.is one two)

pub returns : goal.returns
returns g c =
    subst (λ texts. HasChanged (AreAddressesAdded c.args.host.now.id texts) c.args.store.now c.loop-address.store) (take_all c.loop-address.address-index c.args.addresses.now c.loop-address-test.false) c.loop-address.invariant
