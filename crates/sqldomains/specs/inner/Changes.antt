-- What calls make of domains.
use Rattle.std.specs.Prelude.{◌≡◌, ℕ, false, List, Option, Some, option_map}
use Rattle.sqlite_rules.specs.Lists.{Has}
use Rattle.sqlite_typed.specs.Tests.{bytes_eq}
use Rattle.objects.specs.declared.domain.Domain.{Domain}
use Rattle.sqlcolumns.specs.Numbers.{maybe_registrar_column, moment_column}
use Rattle.sqltables.specs.Content.{Content}
use Rattle.sqltables.specs.declared.domain.DomainRow.{DomainRow}
use Rattle.sqltables.specs.inner.Consistent.{IsConsistent}
use Rattle.sqlobjects.specs.inner.Changes.{with_named}
use Rattle.sqlobjects.specs.Objects.{contacts_of, hosts_of}
use Rattle.sqlobjects.specs.inner.Stages.{AreOtherNamesKept}
use Rattle.sqldomains.specs.Domains.{domain_read, domains_of}

-- who sponsors a domain, if there is one
abbrev pub sponsor_in : Option Domain → Option ℕ
sponsor_in value = option_map (λ (d : Domain). d.sponsor) value

-- Under a name is this domain, or none. No other domain is changed, no contact, no host, and no row
-- of another table but those of links and transfers. The row of the name, if there is one, is due then
-- and has the domain's sponsor, and each other row is as it was and reads as before.
pub record IsDomainPut (name : List ℕ) (value : Option Domain) (due : Option ℕ) (old new : Content) : Type 0 where
  pub domains : domains_of new ≡ with_named (domains_of old) name value
  pub contacts : contacts_of new ≡ contacts_of old
  pub hosts : hosts_of new ≡ hosts_of old
  pub metas : new.metas ≡ old.metas
  pub days : new.days ≡ old.days
  pub accounts : new.accounts ≡ old.accounts
  pub contact_rows : new.contacts ≡ old.contacts
  pub host_rows : new.hosts ≡ old.hosts
  pub addresses : new.addresses ≡ old.addresses
  pub lines : new.lines ≡ old.lines
  pub messages : new.messages ≡ old.messages
  pub others : AreOtherNamesKept (λ (r : DomainRow). r.name) name old.domains new.domains
  pub readings : (row : DomainRow) → Has old.domains row → Has new.domains row
      → bytes_eq row.name name ≡ false → domain_read new row ≡ domain_read old row
  pub due_is : (row : DomainRow) → Has new.domains row → row.name ≡ name
      → Some row.due ≡ option_map moment_column due
  pub sponsor_is : (row : DomainRow) → Has new.domains row → row.name ≡ name
      → Some row.sponsor ≡ maybe_registrar_column (sponsor_in value)
  pub consistent : IsConsistent old × IsConsistent new
