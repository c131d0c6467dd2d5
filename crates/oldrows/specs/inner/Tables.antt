-- The tables that are copied: the key of each, and its rows among a database's.
use Rattle.std.specs.Prelude.{◌≡◌, ℤ, List, map, refl}
use Rattle.sqltables.specs.Content.{Content}
use Rattle.sqltables.specs.inner.Content.{metas_to, accounts_to, contacts_to, domains_to, hosts_to, addresses_to, links_to, lines_to, messages_to, transfers_to}
use Rattle.sqltables.specs.Meta.{metas}
use Rattle.sqltables.specs.declared.meta.MetaRow.{MetaRow}
use Rattle.sqltables.specs.Account.{accounts}
use Rattle.sqltables.specs.declared.account.AccountRow.{AccountRow}
use Rattle.sqltables.specs.Contact.{contacts}
use Rattle.sqltables.specs.declared.contact.ContactRow.{ContactRow}
use Rattle.sqltables.specs.Domain.{domains}
use Rattle.sqltables.specs.declared.domain.DomainRow.{DomainRow}
use Rattle.sqltables.specs.Host.{hosts}
use Rattle.sqltables.specs.declared.host.HostRow.{HostRow}
use Rattle.sqltables.specs.Address.{addresses}
use Rattle.sqltables.specs.declared.address.AddressRow.{AddressRow}
use Rattle.sqltables.specs.Link.{links}
use Rattle.sqltables.specs.declared.link.LinkRow.{LinkRow}
use Rattle.sqltables.specs.Line.{lines}
use Rattle.sqltables.specs.declared.line.LineRow.{LineRow}
use Rattle.sqltables.specs.Message.{messages}
use Rattle.sqltables.specs.declared.message.MessageRow.{MessageRow}
use Rattle.sqltables.specs.Transfer.{transfers}
use Rattle.sqltables.specs.declared.transfer.TransferRow.{TransferRow}
use Rattle.oldrows.specs.Copies.{renumbered}

-- to change the rows twice is to change them once by both, and not at all changes nothing
pub record Table (R : Type 0) : Type 0 where
  pub key : R → ℤ
  pub rows_of : Content → List R
  pub rows_to : (List R → List R) → Content → Content
  pub together : (f g : List R → List R) (c : Content)
      → rows_to g (rows_to f c) ≡ rows_to (λ xs. g (f xs)) c
  pub none : (c : Content) → rows_to (λ xs. xs) c ≡ c

abbrev pub account_table : Table AccountRow
account_table = record { key = accounts.key; rows_of = λ c. c.accounts; rows_to = accounts_to; together = λ f g c. refl; none = λ c. refl }

abbrev pub contact_table : Table ContactRow
contact_table = record { key = contacts.key; rows_of = λ c. c.contacts; rows_to = contacts_to; together = λ f g c. refl; none = λ c. refl }

abbrev pub domain_table : Table DomainRow
domain_table = record { key = domains.key; rows_of = λ c. c.domains; rows_to = domains_to; together = λ f g c. refl; none = λ c. refl }

abbrev pub host_table : Table HostRow
host_table = record { key = hosts.key; rows_of = λ c. c.hosts; rows_to = hosts_to; together = λ f g c. refl; none = λ c. refl }

abbrev pub address_table : Table AddressRow
address_table = record { key = addresses.key; rows_of = λ c. c.addresses; rows_to = addresses_to; together = λ f g c. refl; none = λ c. refl }

abbrev pub link_table : Table LinkRow
link_table = record { key = links.key; rows_of = λ c. c.links; rows_to = links_to; together = λ f g c. refl; none = λ c. refl }

abbrev pub line_table : Table LineRow
line_table = record { key = lines.key; rows_of = λ c. c.lines; rows_to = lines_to; together = λ f g c. refl; none = λ c. refl }

abbrev pub message_table : Table MessageRow
message_table = record { key = messages.key; rows_of = λ c. c.messages; rows_to = messages_to; together = λ f g c. refl; none = λ c. refl }

abbrev pub transfer_table : Table TransferRow
transfer_table = record { key = transfers.key; rows_of = λ c. c.transfers; rows_to = transfers_to; together = λ f g c. refl; none = λ c. refl }

abbrev pub meta_table : Table MetaRow
meta_table = record { key = metas.key; rows_of = λ c. map renumbered c.metas; rows_to = metas_to; together = λ f g c. refl; none = λ c. refl }
