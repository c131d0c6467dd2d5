-- How a host lies in its row. Its addresses lie in rows of their own.
use Rattle.std.specs.Prelude.{ℕ, List, Option, Some, None, if◌then◌else◌}
use Rattle.std.specs.Str.{bytes_eq}
use Rattle.objects.specs.declared.host.Host.{Host}
use Rattle.objects.specs.declared.status.Status.{Status}
use Rattle.objects.specs.declared.roid.ObjectKind.TheVariants as kinds
use Rattle.sqltables.specs.declared.host.HostRow.{HostRow}
use Rattle.sqlcolumns.specs.declared.host.HostColumns.{HostColumns}
use Rattle.sqlcolumns.specs.Above.{above}
use Rattle.sqlcolumns.specs.Numbers.{maybe_moment_in, maybe_registrar_in, moment_in_column}
use Rattle.sqlcolumns.specs.Roids.{roid_in}
use Rattle.sqlcolumns.specs.Steps.{◌>>=◌}
use Rattle.sqlcolumns.specs.Texts.{statuses_in}

-- ---- read

-- which host it is, who sponsors it outside the zone, and since when, if each column reads
abbrev pub columns_in : HostRow → Option HostColumns
columns_in row = do
  roid ← roid_in kinds.Host row.creator row.serial
  external_sponsor ← maybe_registrar_in row.external_sponsor
  created ← moment_in_column row.created
  updated ← maybe_moment_in row.updated
  Some (record { roid = roid; external_sponsor = external_sponsor; created = created; updated = updated })

abbrev pub host_with : HostRow → HostColumns → List Status → List (List ℕ) → Host
host_with row columns statuses addresses = record {
  name = row.name;
  roid = columns.roid;
  external_sponsor = columns.external_sponsor;
  created = columns.created;
  updated = columns.updated;
  statuses = statuses;
  addresses = addresses;
}

-- the host of these parts, if all are there, and it lies below the last two labels of its name
abbrev pub host_made : HostRow → Option (List Status) → List ℕ → List (List ℕ) → Option Host
host_made row statuses above addresses = do
  columns ← columns_in row
  s ← statuses
  if bytes_eq row.above above then Some (host_with row columns s addresses) else None

-- the host of a row, if each column reads, with these addresses
abbrev pub host_of_columns : HostRow → List (List ℕ) → Option Host
host_of_columns row addresses = host_made row (statuses_in row.statuses) (above row.name) addresses
