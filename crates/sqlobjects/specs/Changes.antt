-- What calls make of contacts and hosts.
use Rattle.std.specs.Prelude.{ℕ, ℤ, List, Option, option_map}
use Rattle.sqlite_keyed.specs.Keyed.{get_by}
use Rattle.sqltables.specs.Contact as contact_table
use Rattle.sqltables.specs.declared.contact.ContactRow.{ContactRow}
use Rattle.sqltables.specs.Content.{Content}
use Rattle.sqltables.specs.Host as host_table
use Rattle.sqltables.specs.declared.host.HostRow.{HostRow}

-- the name of the first contact, or host, with a number, if there is one
abbrev pub contact_name_by_number : Content → ℤ → Option (List ℕ)
contact_name_by_number xs id = option_map (λ (row : ContactRow). row.name) (get_by contact_table.contacts.key xs.contacts id)

abbrev pub host_name_by_number : Content → ℤ → Option (List ℕ)
host_name_by_number xs id =
    option_map (λ (row : HostRow). row.name) (get_by host_table.hosts.key xs.hosts id)
