-- What single steps of a change of a domain make.
use Rattle.std.specs.Prelude.{◌≡◌, ℕ, ℤ, true, false, List, [], ◌∷◌, filter, Option, Some, ⊤}
use Rattle.std.specs.Ordering.{int_eq}
use Rattle.sqlite_keyed.specs.Lists.{update_where}
use Rattle.objects.specs.declared.domain.Domain.{Domain}
use Rattle.objects.specs.declared.domain.Links.{Links}
use Rattle.sqlcolumns.specs.declared.code.Role.{Role}
use Rattle.sqlcolumns.specs.Codes.{role_column}
use Rattle.sqlcolumns.specs.inner.Domains.{row_of_domain}
use Rattle.sqltables.specs.Content.{Content}
use Rattle.sqltables.specs.inner.Content.{links_to}
use Rattle.sqltables.specs.declared.domain.DomainRow.{DomainRow}
use Rattle.sqltables.specs.Link.{link_with_domain}
use Rattle.sqltables.specs.declared.link.LinkRow.{LinkRow}
use Rattle.sqltables.specs.Transfer.{transfer_with_contact, transfer_with_domain}
use Rattle.sqlobjects.specs.declared.transfers.Transferable.TheVariants as transferable
use Rattle.sqlobjects.specs.inner.Transfers.{IsTransferPut}
use Rattle.sqldomains.specs.declared.domain_changes.DerivedColumns.{DerivedColumns}
use Rattle.sqldomains.specs.declared.comparison.LinkComparison.{LinkComparison}
use Rattle.sqldomains.specs.declared.comparison.LinkComparison.TheVariants as comparisons
use Rattle.sqldomains.specs.Domains.{are_dated, in_places, linked_name, registrant_alone, with_linked_name, with_links}

-- ---- links

-- no domain but the one with this number names other things than before
pub record AreOtherLinksKept (id : ℤ) (old new : Content) : Type 0 where
  pub domains : (other : ℤ) → int_eq id other ≡ false
      → filter (link_with_domain other) new.links ≡ filter (link_with_domain other) old.links
  pub rest : new ≡ record old { links = new.links }

-- the rows of the domain with this number lead to this, and say that it is due then
pub record HasLinkRows (id due : ℤ) (links : Links) (xs : Content) : Type 0 where
  pub all : with_links xs (registrant_alone links.registrant) (filter (link_with_domain id) xs.links) ≡ Some links
  pub dated : are_dated due (filter (link_with_domain id) xs.links) ≡ true

-- with more in a role
abbrev pub with_names : Role → Links → List (List ℕ) → Links
with_names role links [] = links
with_names role links (name ∷ names) = with_names role (with_linked_name links role name) names

-- no row leads from the domain with this number
pub record AreLinksCleared (id : ℤ) (old new : Content) : Type 0 where
  pub none : filter (link_with_domain id) new.links ≡ []
  pub others : AreOtherLinksKept id old new

-- a row that leads from a domain, which is due then, to what has this name
pub record IsLinkTo (xs : Content) (id due : ℤ) (role : Role) (name : List ℕ) (row : LinkRow) : Type 0 where
  pub domain : row.domain ≡ id
  pub due_is : row.due ≡ due
  pub role_is : row.role ≡ role_column role
  pub leads : linked_name xs role row.contact row.host ≡ Some name

-- the domain with this number names these besides
pub record AreNamesAdded (id due : ℤ) (role : Role) (names : List (List ℕ)) (old new : Content) : Type 0 where
  pub here : (links : Links) → HasLinkRows id due links old
      → HasLinkRows id due (with_names role links names) new
  pub others : AreOtherLinksKept id old new

-- the domain with this number names this
pub record AreLinksPut (id due : ℤ) (links : Links) (old new : Content) : Type 0 where
  pub here : HasLinkRows id due links new
  pub others : AreOtherLinksKept id old new

-- these rows lead to this
abbrev pub LeadTo : Content → Links → List LinkRow → Type 0
LeadTo xs links rows = with_links xs (registrant_alone links.registrant) rows ≡ Some links

-- the rows that lead from a domain, which is due then, compared with what it is to name
abbrev pub AreCompared : Content → ℤ → Links → List LinkRow → LinkComparison → Type 0
AreCompared xs due links rows comparisons.Absent = rows ≡ []
AreCompared xs due links rows comparisons.Same = LeadTo xs links rows × (are_dated due rows ≡ true)
AreCompared xs due links rows comparisons.Misdated = LeadTo xs links rows
AreCompared xs due links rows comparisons.Different = ⊤

-- the rows that lead from the domain with this number say that it is due then
abbrev pub AreDuesSet : ℤ → ℤ → Content → Content → Type 0
AreDuesSet id due old new =
    new ≡ links_to (update_where (link_with_domain id) (λ (l : LinkRow). record l { due = due })) old

-- the domain with this number names this, if its hosts are in their order and the rows that led from it
-- compared so
abbrev pub AreLinksPutOver : ℤ → ℤ → Links → LinkComparison → Content → Content → Type 0
AreLinksPutOver id due links compared old new =
    in_places links.hosts ≡ links.hosts
    → AreCompared old due links (filter (link_with_domain id) old.links) compared → AreLinksPut id due links old new

-- ---- rows of domains

-- no domain but the one with this number has other rows of links and transfers, and no contact another
-- transfer; but for those and for domains each table is as it was
pub record AreOtherPartsKept (id : ℤ) (old new : Content) : Type 0 where
  pub links : (other : ℤ) → int_eq id other ≡ false
      → filter (link_with_domain other) new.links ≡ filter (link_with_domain other) old.links
  pub transfers : (other : ℤ) → int_eq id other ≡ false → filter (transfer_with_domain other) new.transfers ≡ filter (transfer_with_domain other) old.transfers
  pub contacts : (contact : ℤ) → filter (transfer_with_contact contact) new.transfers ≡ filter (transfer_with_contact contact) old.transfers
  pub rest : record new { domains = old.domains; links = old.links; transfers = old.transfers } ≡ old

-- the row of a domain, with these columns
abbrev pub row_beside : ℤ → DerivedColumns → Domain → Option DomainRow
row_beside id beside d = row_of_domain id beside.registrant beside.due d

-- no link and no transfer is of the domain with this number
pub record HasNoParts (id : ℤ) (xs : Content) : Type 0 where
  pub links : filter (link_with_domain id) xs.links ≡ []
  pub transfers : filter (transfer_with_domain id) xs.transfers ≡ []

-- the domain with this number has its links, and then its transfer
pub record ArePartsPut (id due : ℤ) (d : Domain) (old new : Content) : Type 0 where
  pub between : Content
  pub links : AreLinksPut id due d.links old between
  pub transfer : IsTransferPut (transferable.Domain id) d.transfer between new
