-- What is looked for where it is asked whether a domain names a contact or a host.
use Rattle.std.specs.Prelude.{◌≡◌, ℕ, ℤ, Bool, true, List, [], filter, Option, Some, None, option_map}
use Rattle.std.specs.FinMap.{values}
use Rattle.std.specs.List.{list_any}
use Rattle.sqlite_keyed.specs.Keyed.{get_by}
use Rattle.sqlite_rules.specs.Lists.{Has}
use Rattle.objects.specs.declared.domain.Domain.{Domain}
use Rattle.objects.specs.Links.{names_contact, names_host}
use Rattle.sqltables.specs.Content.{Content}
use Rattle.sqltables.specs.Domain.{domain_with_registrant}
use Rattle.sqltables.specs.declared.domain.DomainRow.{DomainRow}
use Rattle.sqltables.specs.Link.{link_with_contact, link_with_host}
use Rattle.sqlobjects.specs.inner.Stages.{NamedTable}
use Rattle.sqldomains.specs.Domains.{domain_read, domains_of}

-- a contact, or a host, is linked where some domain names it (RFC 5731, 2.2; RFC 5732, 2.3)
abbrev pub some_domain_names_contact : Content → List ℕ → Bool
some_domain_names_contact xs name = list_any (λ d. names_contact name d.links) (values (domains_of xs))

abbrev pub some_domain_names_host : Content → List ℕ → Bool
some_domain_names_host xs name = list_any (λ d. names_host name d.links) (values (domains_of xs))

-- the name of the row with a number, if there is one
abbrev pub name_at : {R : Type 0} → NamedTable R → Content → ℤ → Option (List ℕ)
name_at table xs id = option_map table.name (get_by table.key (table.rows xs) id)

-- no row refers to the contact with this number
pub record IsNoContact (xs : Content) (id : ℤ) : Type 0 where
  pub registrant : filter (domain_with_registrant id) xs.domains ≡ []
  pub links : filter (link_with_contact id) xs.links ≡ []

-- a domain's row, if any row refers to the contact with this number
abbrev pub IsUseOfContact : Content → ℤ → Option DomainRow → Type 0
IsUseOfContact xs id None = IsNoContact xs id
IsUseOfContact xs id (Some row) = Has xs.domains row

-- the same of a host
abbrev pub IsUseOfHost : Content → ℤ → Option DomainRow → Type 0
IsUseOfHost xs id None = filter (link_with_host id) xs.links ≡ []
IsUseOfHost xs id (Some row) = Has xs.domains row

-- the domain of a row passes
abbrev pub PassesTest : Content → (Domain → Bool) → DomainRow → Type 0
PassesTest xs test row = (d : Domain) × (domain_read xs row ≡ Some d) × (test d ≡ true)
