-- The contacts and hosts that rows mean.
use Rattle.std.specs.Prelude.{ℕ, ℤ, List, [], ◌∷◌, filter, map, Option, Some, None, option_map}
use Rattle.std.specs.Cmp.Lexicographic.{slice_cmp}
use Rattle.std.specs.FinMap.{FinMap, from_entries}
use Rattle.std.specs.List.{filter_map}
use Rattle.std.specs.Ordering.{nat_cmp}
use Rattle.objects.specs.declared.contact.Contact.{Contact}
use Rattle.objects.specs.declared.host.Host.{Host}
use Rattle.objects.specs.declared.transfer.Transfer.{Transfer}
use Rattle.sqlcolumns.specs.Contacts.{contact_of_columns}
use Rattle.sqlcolumns.specs.Hosts.{host_of_columns}
use Rattle.sqlcolumns.specs.Steps.{◌>>=◌}
use Rattle.sqlcolumns.specs.Transfers.{transfer_of_columns}
use Rattle.sqltables.specs.Address.{address_with_host}
use Rattle.sqltables.specs.declared.address.AddressRow.{AddressRow}
use Rattle.sqltables.specs.declared.contact.ContactRow.{ContactRow}
use Rattle.sqltables.specs.Content.{Content}
use Rattle.sqltables.specs.declared.host.HostRow.{HostRow}
use Rattle.sqltables.specs.Transfer.{transfer_with_contact}
use Rattle.sqltables.specs.declared.transfer.TransferRow.{TransferRow}
use Rattle.sqlrows.specs.Read.{named}

-- ---- contacts

-- of no row no transfer, of one the transfer that it reads as; an object has no more than one row
abbrev pub last_transfer : List TransferRow → Option (Option Transfer)
last_transfer [] = Some None
last_transfer (row ∷ []) = option_map Some (transfer_of_columns row)
last_transfer (row ∷ next ∷ rows) = None

-- the contact of a row, if it and its transfer read
abbrev pub contact_read : Content → ContactRow → Option Contact
contact_read xs row = last_transfer (filter (transfer_with_contact row.id) xs.transfers) >>= (λ transfer. contact_of_columns row transfer)

abbrev pub contact_entry : Content → ContactRow → Option (List ℕ × Contact)
contact_entry xs row = named row.name (contact_read xs row)

abbrev pub contacts_of : Content → FinMap (slice_cmp nat_cmp) Contact
contacts_of xs = from_entries (filter_map (contact_entry xs) xs.contacts)

-- ---- hosts

abbrev pub texts_of : List AddressRow → List (List ℕ)
texts_of rows = map (λ (a : AddressRow). a.address) rows

-- the addresses of the host with this number, in the order of their rows
abbrev pub addresses_of : Content → ℤ → List (List ℕ)
addresses_of xs id = texts_of (filter (address_with_host id) xs.addresses)

-- the host of a row, if it reads
abbrev pub host_read : Content → HostRow → Option Host
host_read xs row = host_of_columns row (addresses_of xs row.id)

abbrev pub host_entry : Content → HostRow → Option (List ℕ × Host)
host_entry xs row = named row.name (host_read xs row)

abbrev pub hosts_of : Content → FinMap (slice_cmp nat_cmp) Host
hosts_of xs = from_entries (filter_map (host_entry xs) xs.hosts)
