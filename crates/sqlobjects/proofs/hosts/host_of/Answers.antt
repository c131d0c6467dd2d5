use Rattle.sqlobjects.proofs.FoundLemmas.{host-read}
use Rattle.sqlobjects.proofs.hosts.host_of.Goals as goal

pub returns : goal.returns
returns g c = host-read c.args.store.now c.addresses_by_host.new.self c.args.row c.number_of-number.result c.in_ok-addresses.addresses c.in_ok-addresses-2.addresses c.read_host.result c.in_ok-addresses.ensures c.number_of-number.ensures c.in_ok-addresses-2.ensures c.read_host.ensures
