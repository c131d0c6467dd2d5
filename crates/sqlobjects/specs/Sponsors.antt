-- Who sponsors a host, by rows alone, and whether its row says so.
use Rattle.std.specs.Prelude.{◌≡◌, ℕ, ℤ, Bool, true, false, not, ◌&&◌, List, [], ◌∷◌, filter, map, Option, Some, None, is_some, if◌then◌else◌}
use Rattle.std.specs.List.{list_all}
use Rattle.sqlite_rules.specs.Lists.{Has}
use Rattle.sqlcolumns.specs.Numbers.{maybe_registrar_column}
use Rattle.sqlcolumns.specs.Transfers.{is_same}
use Rattle.sqltables.specs.Content.{Content}
use Rattle.sqltables.specs.Domain.{domain_with_name}
use Rattle.sqltables.specs.declared.domain.DomainRow.{DomainRow}
use Rattle.sqltables.specs.Host.{host_with_above}
use Rattle.sqltables.specs.declared.host.HostRow.{HostRow}
use Rattle.sqltables.specs.inner.Consistent.{IsConsistent}
use Rattle.sqlrows.specs.Read.{or_else}
use Rattle.sqlobjects.specs.Objects.{hosts_of}

abbrev pub first_sponsor : List DomainRow → Option ℤ
first_sponsor [] = None
first_sponsor (row ∷ rows) = Some row.sponsor

-- the account that sponsors the domain of this name, if there is one
abbrev pub sponsor_by_name : Content → List ℕ → Option ℤ
sponsor_by_name xs name = first_sponsor (filter (domain_with_name name) xs.domains)

-- the account that sponsors a host outside the zone, or else the domain that the host lies below
abbrev pub sponsor_of : Content → HostRow → Option ℤ
sponsor_of xs row = or_else row.external_sponsor (sponsor_by_name xs row.above)

abbrev pub is_sponsor_right : Content → HostRow → Bool
is_sponsor_right xs row = is_same row.sponsor (sponsor_of xs row)

abbrev pub sponsors_are_right : Content → Bool
sponsors_are_right xs = list_all (is_sponsor_right xs) xs.hosts

-- ---- hosts that take a domain's sponsor

-- a host lies below this domain, and nobody sponsors it outside the zone
abbrev pub takes_sponsor : List ℕ → HostRow → Bool
takes_sponsor above row = host_with_above above row && not (is_some row.external_sponsor)

-- with this sponsor, if it takes the domain's
abbrev pub with_sponsor : List ℕ → Option ℤ → HostRow → HostRow
with_sponsor above sponsor row = if takes_sponsor above row then record row { sponsor = sponsor } else row

-- each host that takes the domain's sponsor had one, and has the other; no other column and no other
-- row is changed
pub record AreMoved (above : List ℕ) (before after : Option ℤ) (old new : List HostRow) : Type 0 where
  pub had : (row : HostRow) → Has old row → takes_sponsor above row ≡ true
      → is_same row.sponsor before ≡ true
  pub has : new ≡ map (with_sponsor above after) old

-- The hosts that take the sponsor of the domain of this name have this registrar as their sponsor, or
-- none, in place of the domain's. Where the two are the same no row is changed, whatever it has.
pub record IsSponsorSetBelow (above : List ℕ) (after : Option ℕ) (old new : Content) : Type 0 where
  pub stays : is_same (sponsor_by_name old above) (maybe_registrar_column after) ≡ true
      → new.hosts ≡ old.hosts
  pub moves : is_same (sponsor_by_name old above) (maybe_registrar_column after) ≡ false
      → AreMoved above (sponsor_by_name old above) (maybe_registrar_column after) old.hosts new.hosts
  pub hosts : hosts_of new ≡ hosts_of old
  pub rest : new ≡ record old { hosts = new.hosts }
  pub consistent : IsConsistent old × IsConsistent new
