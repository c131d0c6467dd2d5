-- What a zone has of the domains that rows mean.
use Rattle.std.specs.Prelude.{◌≡◌, ℕ, ℤ, List, [], ◌∷◌, filter, map, Option, Some, None, option_map}
use Rattle.std.specs.FinMap.{empty, values}
use Rattle.objects.specs.declared.domain.Domain.{Domain}
use Rattle.objects.specs.declared.zone.Delegation.{Delegation}
use Rattle.objects.specs.Delegations.{delegation_of}
use Rattle.sqltables.specs.Content.{Content}
use Rattle.sqltables.specs.declared.domain.DomainRow.{DomainRow}
use Rattle.sqltables.specs.declared.link.LinkRow.{LinkRow}
use Rattle.sqltables.specs.Link.{link_of_domains, link_with_domain}
use Rattle.sqltables.specs.declared.transfer.TransferRow.{TransferRow}
use Rattle.sqltables.specs.Transfer.{transfer_of_domains, transfer_with_domain}
use Rattle.sqldomains.specs.Domains.{domain_by, domain_read, domains_of}
use Rattle.sqldomains.specs.inner.Names.{Named, with_one, with_read}

abbrev pub delegations_of_rows : Content → List Delegation
delegations_of_rows xs = map delegation_of (values (domains_of xs))

-- ---- read row by row

-- what it has of a domain, under the domain's name
abbrev pub delegated : Domain → List ℕ × Delegation
delegated d = (d.name, delegation_of d)

-- what it has of the domain of a row, if it reads
abbrev pub delegation_read : Content → DomainRow → Option (List ℕ × Delegation)
delegation_read xs row = option_map delegated (domain_read xs row)

-- what it has of all rows
abbrev pub IsAllOfRows : Content → Named Delegation → Type 0
IsAllOfRows xs all = with_read (delegation_read xs) empty xs.domains ≡ Some all

-- what it has of the domain of a row, whose links and transfers are among these
abbrev pub delegation_among : Content → List LinkRow → List TransferRow → DomainRow → Option (List ℕ × Delegation)
delegation_among xs links transfers row =
    option_map delegated (domain_by xs row (filter (link_with_domain row.id) links) (filter (transfer_with_domain row.id) transfers))

-- with that of one more, and of several
abbrev pub with_row : Content → List LinkRow → List TransferRow → Named Delegation → DomainRow → Option (Named Delegation)
with_row xs links transfers all row = with_one all (delegation_among xs links transfers row)

abbrev pub with_rows : Content → List LinkRow → List TransferRow → Named Delegation → List DomainRow → Option (Named Delegation)
with_rows xs links transfers = with_read (delegation_among xs links transfers)

-- with that of these, which are of the domains from the first number to the last
abbrev pub with_page : Content → ℤ × ℤ → Named Delegation → List DomainRow → Option (Named Delegation)
with_page xs ends =
    with_rows xs (filter (link_of_domains ends.0 ends.1) xs.links) (filter (transfer_of_domains ends.0 ends.1) xs.transfers)

-- ---- pages of rows

-- the number of the last of a row and those after it
abbrev pub last_id : DomainRow → List DomainRow → ℤ
last_id row [] = row.id
last_id row (next ∷ rows) = last_id next rows

-- the numbers of the first and the last of these rows, if there are any
abbrev pub ends_of : List DomainRow → Option (ℤ × ℤ)
ends_of [] = None
ends_of (row ∷ rows) = Some (row.id, last_id row rows)
