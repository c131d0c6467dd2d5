-- How a domain lies in its row. Its links and its transfer lie in rows of their own.
use Rattle.std.specs.Prelude.{ℕ, ◌<◌, ◌^◌, ℤ, Option, Some, None, IfSome}
use Rattle.calendar.specs.Moment.{IsMoment}
use Rattle.objects.specs.declared.domain.Deletion.{Deletion}
use Rattle.objects.specs.declared.domain.Domain.{Domain}
use Rattle.objects.specs.declared.roid.ObjectKind.TheVariants as kinds
use Rattle.sqltables.specs.declared.domain.DomainRow.{DomainRow}
use Rattle.sqlcolumns.specs.declared.domain.DeletionColumns.{DeletionColumns}
use Rattle.sqlcolumns.specs.declared.registration.Registration.{Registration}
use Rattle.sqlcolumns.specs.declared.registration.RegistrationColumns.{RegistrationColumns}
use Rattle.sqlcolumns.specs.Numbers.{maybe_moment_column, moment_column, years_column}
use Rattle.sqlcolumns.specs.Registrations.{IsRegistration, registration_columns}
use Rattle.sqlcolumns.specs.Steps.{◌>>=◌}
use Rattle.sqlcolumns.specs.Texts.{statuses_column}

abbrev pub domain_registration : Domain → Registration
domain_registration d = record { roid = d.roid; sponsor = d.sponsor; created = d.created; transferred = d.transferred; updated = d.updated }

pub record IsStorableDeletion (d : Deletion) : Type 0 where
  pub deleted : IsMoment d.deleted
  pub restore_requested : IfSome d.restore_requested IsMoment

pub record IsDomain (d : Domain) : Type 0 where
  pub registration : IsRegistration (domain_registration d)
  pub years : d.years < 2 ^ 32
  pub deletion : IfSome d.deletion IsStorableDeletion

-- ---- written

-- both NULL of a domain that wasn't deleted
abbrev pub deletion_columns : Option Deletion → DeletionColumns
deletion_columns None = record { deleted = None; restore_requested = None }
deletion_columns (Some d) = record { deleted = Some (moment_column d.deleted); restore_requested = maybe_moment_column d.restore_requested }

abbrev pub domain_row_with : ℤ → ℤ → ℕ → Domain → RegistrationColumns → DeletionColumns → DomainRow
domain_row_with id registrant due d columns deletion = record {
  id = id;
  name = d.name;
  creator = columns.creator;
  serial = columns.serial;
  sponsor = columns.sponsor;
  created = columns.created;
  years = years_column d.years;
  transferred = columns.transferred;
  updated = columns.updated;
  statuses = statuses_column d.statuses;
  secret = d.secret;
  registrant = registrant;
  deleted = deletion.deleted;
  restore_requested = deletion.restore_requested;
  due = moment_column due;
}

-- the row of a domain, under its number, whose registrant has this one, and for which something is due then
abbrev pub row_of_domain : ℤ → ℤ → ℕ → Domain → Option DomainRow
row_of_domain id registrant due d = do
  columns ← registration_columns kinds.Domain (domain_registration d)
  Some (domain_row_with id registrant due d columns (deletion_columns d.deletion))
