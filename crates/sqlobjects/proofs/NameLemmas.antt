-- What stands under a name is what the first row of that name that reads, reads as.
use Rattle.std.proofs.Common.{◌≡◌, ℕ, List}
use Rattle.sqlobjects.proofs.Words.{contact_read, ContactRow, contacts_of, Content, filter, first_read, get, host_read, HostRow, hosts_of}
use Rattle.sqltables.specs.Contact as contact_table
use Rattle.sqltables.specs.Host as host_table
use Rattle.sqlrows.proofs.NameLemmas.{stands}

pub contact-named : (xs : Content) (name : List ℕ) → first_read (contact_read xs) (filter (contact_table.contact_with_name name) xs.contacts) ≡ get (contacts_of xs) name
contact-named xs name = stands (λ (r : ContactRow). r.name) (contact_read xs) name xs.contacts

pub host-named : (xs : Content) (name : List ℕ) → first_read (host_read xs) (filter (host_table.host_with_name name) xs.hosts) ≡ get (hosts_of xs) name
host-named xs name = stands (λ (r : HostRow). r.name) (host_read xs) name xs.hosts
