-- What the eleven tables hold.
use Rattle.std.specs.Prelude.{◌≡◌, List}
use Rattle.sqlite.specs.Effect.{Database}
use Rattle.sqlrows.specs.inner.Layouts.{Holds}
use Rattle.sqltables.specs.Tables.{registry}
use Rattle.sqltables.specs.Meta.{MetaRow, metas as meta_layout}
use Rattle.sqltables.specs.Account.{AccountRow, accounts as account_layout}
use Rattle.sqltables.specs.Contact.{ContactRow, contacts as contact_layout}
use Rattle.sqltables.specs.Domain.{DomainRow, domains as domain_layout}
use Rattle.sqltables.specs.Host.{HostRow, hosts as host_layout}
use Rattle.sqltables.specs.Address.{AddressRow, addresses as address_layout}
use Rattle.sqltables.specs.Link.{LinkRow, links as link_layout}
use Rattle.sqltables.specs.Line.{LineRow, lines as line_layout}
use Rattle.sqltables.specs.Message.{MessageRow, messages as message_layout}
use Rattle.sqltables.specs.Transfer.{TransferRow, transfers as transfer_layout}
use Rattle.sqltables.specs.Day.{DayRow, days as day_layout}
use Rattle.sqltables.specs.Content.{Content}

-- the tables are those of the registry, and hold these rows
pub record IsContent (content : Content) (db : Database) : Type 0 where
  pub schema : db.schema ≡ registry
  pub metas : Holds meta_layout db.trees content.metas
  pub accounts : Holds account_layout db.trees content.accounts
  pub contacts : Holds contact_layout db.trees content.contacts
  pub domains : Holds domain_layout db.trees content.domains
  pub hosts : Holds host_layout db.trees content.hosts
  pub addresses : Holds address_layout db.trees content.addresses
  pub links : Holds link_layout db.trees content.links
  pub lines : Holds line_layout db.trees content.lines
  pub messages : Holds message_layout db.trees content.messages
  pub transfers : Holds transfer_layout db.trees content.transfers
  pub days : Holds day_layout db.trees content.days

abbrev pub metas_to : (List MetaRow → List MetaRow) → Content → Content
metas_to change xs = record xs { metas = change xs.metas }

abbrev pub accounts_to : (List AccountRow → List AccountRow) → Content → Content
accounts_to change xs = record xs { accounts = change xs.accounts }

abbrev pub contacts_to : (List ContactRow → List ContactRow) → Content → Content
contacts_to change xs = record xs { contacts = change xs.contacts }

abbrev pub domains_to : (List DomainRow → List DomainRow) → Content → Content
domains_to change xs = record xs { domains = change xs.domains }

abbrev pub hosts_to : (List HostRow → List HostRow) → Content → Content
hosts_to change xs = record xs { hosts = change xs.hosts }

abbrev pub addresses_to : (List AddressRow → List AddressRow) → Content → Content
addresses_to change xs = record xs { addresses = change xs.addresses }

abbrev pub links_to : (List LinkRow → List LinkRow) → Content → Content
links_to change xs = record xs { links = change xs.links }

abbrev pub lines_to : (List LineRow → List LineRow) → Content → Content
lines_to change xs = record xs { lines = change xs.lines }

abbrev pub messages_to : (List MessageRow → List MessageRow) → Content → Content
messages_to change xs = record xs { messages = change xs.messages }

abbrev pub transfers_to : (List TransferRow → List TransferRow) → Content → Content
transfers_to change xs = record xs { transfers = change xs.transfers }

abbrev pub days_to : (List DayRow → List DayRow) → Content → Content
days_to change xs = record xs { days = change xs.days }
