-- How the columns lie that contacts and domains have in common.
use Rattle.std.specs.Prelude.{Option, Some, IfSome}
use Rattle.calendar.specs.Moment.{IsMoment}
use Rattle.objects.specs.declared.roid.ObjectKind.{ObjectKind}
use Rattle.sqlcolumns.specs.declared.registration.Registration.{Registration}
use Rattle.sqlcolumns.specs.declared.registration.RegistrationColumns.{RegistrationColumns}
use Rattle.sqlcolumns.specs.declared.roid.RoidColumns.{RoidColumns}
use Rattle.sqlcolumns.specs.Numbers.{IsPlace, maybe_moment_column, maybe_moment_in, moment_column, moment_in_column, registrar_column, registrar_in}
use Rattle.sqlcolumns.specs.Roids.{IsRoid, roid_columns, roid_in}
use Rattle.sqlcolumns.specs.Steps.{◌>>=◌}

pub record IsRegistration (r : Registration) : Type 0 where
  pub roid : IsRoid r.roid
  pub sponsor : IsPlace r.sponsor
  pub created : IsMoment r.created
  pub transferred : IfSome r.transferred IsMoment
  pub updated : IfSome r.updated IsMoment

abbrev pub columns_with : Registration → RoidColumns → RegistrationColumns
columns_with r roid = record {
  creator = roid.creator;
  serial = roid.serial;
  sponsor = registrar_column r.sponsor;
  created = moment_column r.created;
  transferred = maybe_moment_column r.transferred;
  updated = maybe_moment_column r.updated;
}

-- the columns in the table of objects of this kind
abbrev pub registration_columns : ObjectKind → Registration → Option RegistrationColumns
registration_columns kind r = do
  roid ← roid_columns kind r.roid
  Some (columns_with r roid)

-- ---- read

abbrev pub registration_in : ObjectKind → RegistrationColumns → Option Registration
registration_in kind columns = do
  roid ← roid_in kind columns.creator columns.serial
  sponsor ← registrar_in columns.sponsor
  created ← moment_in_column columns.created
  transferred ← maybe_moment_in columns.transferred
  updated ← maybe_moment_in columns.updated
  Some (record { roid = roid; sponsor = sponsor; created = created; transferred = transferred; updated = updated })
