-- How a host lies in its row. Its addresses lie in rows of their own.
use Rattle.std.specs.Prelude.{ℤ, Option, Some, IfSome}
use Rattle.calendar.specs.Moment.{IsMoment}
use Rattle.objects.specs.declared.host.Host.{Host}
use Rattle.objects.specs.declared.roid.ObjectKind.TheVariants as kinds
use Rattle.sqltables.specs.declared.host.HostRow.{HostRow}
use Rattle.sqlcolumns.specs.declared.roid.RoidColumns.{RoidColumns}
use Rattle.sqlcolumns.specs.Above.{above}
use Rattle.sqlcolumns.specs.Numbers.{IsPlace, maybe_moment_column, maybe_registrar_column, moment_column}
use Rattle.sqlcolumns.specs.Roids.{IsRoid, roid_columns}
use Rattle.sqlcolumns.specs.Steps.{◌>>=◌}
use Rattle.sqlcolumns.specs.Texts.{statuses_column}

pub record IsHost (h : Host) : Type 0 where
  pub roid : IsRoid h.roid
  pub external_sponsor : IfSome h.external_sponsor IsPlace
  pub created : IsMoment h.created
  pub updated : IfSome h.updated IsMoment

-- ---- written

abbrev pub host_row_with : ℤ → Option ℤ → Host → RoidColumns → HostRow
host_row_with id sponsor h roid = record {
  id = id;
  name = h.name;
  creator = roid.creator;
  serial = roid.serial;
  above = above h.name;
  external_sponsor = maybe_registrar_column h.external_sponsor;
  sponsor = sponsor;
  created = moment_column h.created;
  updated = maybe_moment_column h.updated;
  statuses = statuses_column h.statuses;
}

-- the row of a host, under its number, which this account sponsors
abbrev pub row_of_host : ℤ → Option ℤ → Host → Option HostRow
row_of_host id sponsor h = do
  roid ← roid_columns kinds.Host h.roid
  Some (host_row_with id sponsor h roid)
