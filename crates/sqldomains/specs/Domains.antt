-- The domains that rows mean.
use Rattle.std.specs.Prelude.{ℕ, ℤ, Bool, if◌then◌else◌, List, [], ◌∷◌, ◌++◌, filter, fold, Option, Some, None}
use Rattle.std.specs.Cmp.Lexicographic.{slice_cmp}
use Rattle.std.specs.FinMap.{FinMap, from_entries}
use Rattle.std.specs.List.{filter_map, list_all}
use Rattle.std.specs.Ordering.{int_eq, nat_cmp}
use Rattle.basis.specs.Bag.{add, precedes}
use Rattle.objects.specs.declared.domain.Domain.{Domain}
use Rattle.objects.specs.declared.domain.Links.{Links}
use Rattle.objects.specs.Links.{has_name}
use Rattle.sqlcolumns.specs.declared.code.Role.{Role}
use Rattle.sqlcolumns.specs.declared.code.Role.TheVariants as roles
use Rattle.sqlcolumns.specs.Codes.{role_in}
use Rattle.sqlcolumns.specs.Domains.{domain_of_columns}
use Rattle.sqlcolumns.specs.Steps.{◌>>=◌}
use Rattle.sqltables.specs.Content.{Content}
use Rattle.sqltables.specs.declared.domain.DomainRow.{DomainRow}
use Rattle.sqltables.specs.Link.{link_with_domain}
use Rattle.sqltables.specs.declared.link.LinkRow.{LinkRow}
use Rattle.sqltables.specs.declared.transfer.TransferRow.{TransferRow}
use Rattle.sqltables.specs.Transfer.{transfer_with_domain}
use Rattle.sqlrows.specs.Read.{named}
use Rattle.sqlobjects.specs.Changes.{contact_name_by_number, host_name_by_number}
use Rattle.sqlobjects.specs.Objects.{last_transfer}

-- ---- what a domain names (RFC 5731, 1.1 and 2.2)

-- names in their order with one more in its place, unless it is there
abbrev pub placed : List ℕ → List (List ℕ) → List (List ℕ)
placed name names =
    if has_name names name then names else add (precedes (slice_cmp nat_cmp)) name names

-- each of these names in its place, and once
abbrev pub in_places : List (List ℕ) → List (List ℕ)
in_places names = fold (λ all name. placed name all) [] names

-- with one thing more, in this role: a contact after the others, and a host in the place of its name, so
-- that a host's new name is one row's and no domain's
abbrev pub with_linked_name : Links → Role → List ℕ → Links
with_linked_name l roles.Admin name = record l { admin = l.admin ++ name ∷ [] }
with_linked_name l roles.Tech name = record l { tech = l.tech ++ name ∷ [] }
with_linked_name l roles.Host name = record l { hosts = placed name l.hosts }

-- a number that stands in one of two columns, if nothing stands in the other
abbrev pub alone : Option ℤ → Option ℤ → Option ℤ
alone number None = number
alone number (Some other) = None

-- the name of what a row leads to: a host in the role of one, or else a contact
abbrev pub linked_name : Content → Role → Option ℤ → Option ℤ → Option (List ℕ)
linked_name xs roles.Host contact host = alone host contact >>= host_name_by_number xs
linked_name xs roles.Admin contact host = alone contact host >>= contact_name_by_number xs
linked_name xs roles.Tech contact host = alone contact host >>= contact_name_by_number xs

-- with what a row leads to, if it reads
abbrev pub with_link_read : Content → Links → LinkRow → Option Links
with_link_read xs l row = do
  role ← role_in row.role
  name ← linked_name xs role row.contact row.host
  Some (with_linked_name l role name)

-- with what rows lead to, in their order, if all read
abbrev pub with_links : Content → Links → List LinkRow → Option Links
with_links xs l [] = Some l
with_links xs l (row ∷ rows) = do
  l ← with_link_read xs l row
  with_links xs l rows

abbrev pub registrant_alone : List ℕ → Links
registrant_alone name = record { registrant = name; admin = []; tech = []; hosts = [] }

-- each row says when its domain is due
abbrev pub are_dated : ℤ → List LinkRow → Bool
are_dated due rows = list_all (λ (l : LinkRow). int_eq l.due due) rows

-- these rows, if each does
abbrev pub dated : ℤ → List LinkRow → Option (List LinkRow)
dated due rows = if are_dated due rows then Some rows else None

-- what the domain of a row names, by these rows of links, if all read
abbrev pub links_by : Content → DomainRow → List LinkRow → Option Links
links_by xs row links = do
  registrant ← contact_name_by_number xs row.registrant
  rows ← dated row.due links
  with_links xs (registrant_alone registrant) rows

-- the same by all rows of it
abbrev pub links_of : Content → DomainRow → Option Links
links_of xs row = links_by xs row (filter (link_with_domain row.id) xs.links)

-- ---- domains

-- the domain of a row, by these rows of its links and its transfers, if all read
abbrev pub domain_by : Content → DomainRow → List LinkRow → List TransferRow → Option Domain
domain_by xs row links transfers = do
  links ← links_by xs row links
  transfer ← last_transfer transfers
  domain_of_columns row links transfer

-- the domain of a row, if it, its links and its transfer read
abbrev pub domain_read : Content → DomainRow → Option Domain
domain_read xs row =
    domain_by xs row (filter (link_with_domain row.id) xs.links) (filter (transfer_with_domain row.id) xs.transfers)

abbrev pub domain_entry : Content → DomainRow → Option (List ℕ × Domain)
domain_entry xs row = named row.name (domain_read xs row)

abbrev pub domains_of : Content → FinMap (slice_cmp nat_cmp) Domain
domains_of xs = from_entries (filter_map (domain_entry xs) xs.domains)
