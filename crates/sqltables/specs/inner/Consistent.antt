-- What always holds of the rows: the database keeps it.
use Rattle.std.specs.Prelude.{◌≡◌, ℕ, ℤ, List, Option, Some}
use Rattle.sqlite_keyed.specs.Keyed.{IsKeyedBy}
use Rattle.sqlite_rules.specs.Lists.{Has}
use Rattle.sqltables.specs.Content.{Content}
use Rattle.sqltables.specs.Meta.{MetaRow}
use Rattle.sqltables.specs.Account.{AccountRow}
use Rattle.sqltables.specs.Contact.{ContactRow}
use Rattle.sqltables.specs.Domain.{DomainRow}
use Rattle.sqltables.specs.Host.{HostRow}
use Rattle.sqltables.specs.Address.{AddressRow}
use Rattle.sqltables.specs.Link.{LinkRow}
use Rattle.sqltables.specs.Line.{LineRow}
use Rattle.sqltables.specs.Message.{MessageRow}
use Rattle.sqltables.specs.Transfer.{TransferRow}
use Rattle.sqltables.specs.Day.{DayRow}

-- rows with the same name are the same row
abbrev pub IsNamedBy : {X : Type 0} → (X → List ℕ) → List X → Type 0
IsNamedBy {X} name xs = (a b : X) → Has xs a → Has xs b → name a ≡ name b → a ≡ b

-- a number in the column, if there is one, is that of a row of the other table
abbrev pub LeadsTo : {X Y : Type 0} → List X → (X → Option ℤ) → List Y → (Y → ℤ) → Type 0
LeadsTo {X} {Y} xs column ys key =
    (x : X) → Has xs x → (id : ℤ) → column x ≡ Some id → (y : Y) × Has ys y × (key y ≡ id)

-- the rows of each table are in the order of their numbers, of which none comes twice
pub record AreKeyed (content : Content) : Type 0 where
  pub metas : IsKeyedBy (λ (x : MetaRow). x.id) content.metas
  pub accounts : IsKeyedBy (λ (x : AccountRow). x.id) content.accounts
  pub contacts : IsKeyedBy (λ (x : ContactRow). x.id) content.contacts
  pub domains : IsKeyedBy (λ (x : DomainRow). x.id) content.domains
  pub hosts : IsKeyedBy (λ (x : HostRow). x.id) content.hosts
  pub addresses : IsKeyedBy (λ (x : AddressRow). x.id) content.addresses
  pub links : IsKeyedBy (λ (x : LinkRow). x.id) content.links
  pub lines : IsKeyedBy (λ (x : LineRow). x.id) content.lines
  pub messages : IsKeyedBy (λ (x : MessageRow). x.id) content.messages
  pub transfers : IsKeyedBy (λ (x : TransferRow). x.id) content.transfers
  pub days : IsKeyedBy (λ (x : DayRow). x.id) content.days

-- no name comes twice
pub record AreNamed (content : Content) : Type 0 where
  pub accounts : IsNamedBy (λ (x : AccountRow). x.ident) content.accounts
  pub contacts : IsNamedBy (λ (x : ContactRow). x.name) content.contacts
  pub domains : IsNamedBy (λ (x : DomainRow). x.name) content.domains
  pub hosts : IsNamedBy (λ (x : HostRow). x.name) content.hosts

-- each row that is referred to is there
pub record AreLinked (content : Content) : Type 0 where
  pub contact_sponsor : LeadsTo content.contacts (λ (x : ContactRow). Some x.sponsor) content.accounts (λ (x : AccountRow). x.id)
  pub domain_sponsor : LeadsTo content.domains (λ (x : DomainRow). Some x.sponsor) content.accounts (λ (x : AccountRow). x.id)
  pub domain_registrant : LeadsTo content.domains (λ (x : DomainRow). Some x.registrant) content.contacts (λ (x : ContactRow). x.id)
  pub host_external_sponsor : LeadsTo content.hosts (λ (x : HostRow). x.external_sponsor) content.accounts (λ (x : AccountRow). x.id)
  pub host_sponsor : LeadsTo content.hosts (λ (x : HostRow). x.sponsor) content.accounts (λ (x : AccountRow). x.id)
  pub address_host : LeadsTo content.addresses (λ (x : AddressRow). Some x.host) content.hosts (λ (x : HostRow). x.id)
  pub link_domain : LeadsTo content.links (λ (x : LinkRow). Some x.domain) content.domains (λ (x : DomainRow). x.id)
  pub link_contact : LeadsTo content.links (λ (x : LinkRow). x.contact) content.contacts (λ (x : ContactRow). x.id)
  pub link_host : LeadsTo content.links (λ (x : LinkRow). x.host) content.hosts (λ (x : HostRow). x.id)
  pub line_account : LeadsTo content.lines (λ (x : LineRow). Some x.account) content.accounts (λ (x : AccountRow). x.id)
  pub message_account : LeadsTo content.messages (λ (x : MessageRow). Some x.account) content.accounts (λ (x : AccountRow). x.id)
  pub transfer_contact : LeadsTo content.transfers (λ (x : TransferRow). x.contact) content.contacts (λ (x : ContactRow). x.id)
  pub transfer_domain : LeadsTo content.transfers (λ (x : TransferRow). x.domain) content.domains (λ (x : DomainRow). x.id)
  pub transfer_requester : LeadsTo content.transfers (λ (x : TransferRow). Some x.requester) content.accounts (λ (x : AccountRow). x.id)
  pub transfer_losing : LeadsTo content.transfers (λ (x : TransferRow). Some x.losing) content.accounts (λ (x : AccountRow). x.id)

pub record IsConsistent (content : Content) : Type 0 where
  pub keyed : AreKeyed content
  pub named : AreNamed content
  pub linked : AreLinked content
