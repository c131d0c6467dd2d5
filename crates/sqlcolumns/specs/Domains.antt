-- How a domain lies in its row. Its links and its transfer lie in rows of their own.
use Rattle.std.specs.Prelude.{ℕ, ℤ, List, Option, Some, None}
use Rattle.objects.specs.declared.domain.Deletion.{Deletion}
use Rattle.objects.specs.declared.domain.Domain.{Domain}
use Rattle.objects.specs.declared.domain.Links.{Links}
use Rattle.objects.specs.declared.status.Status.{Status}
use Rattle.objects.specs.declared.transfer.Transfer.{Transfer}
use Rattle.objects.specs.declared.roid.ObjectKind.TheVariants as kinds
use Rattle.sqltables.specs.declared.domain.DomainRow.{DomainRow}
use Rattle.sqlcolumns.specs.declared.registration.Registration.{Registration}
use Rattle.sqlcolumns.specs.declared.registration.RegistrationColumns.{RegistrationColumns}
use Rattle.sqlcolumns.specs.Numbers.{maybe_moment_in, moment_in_column, years_in_column}
use Rattle.sqlcolumns.specs.Registrations.{registration_in}
use Rattle.sqlcolumns.specs.Steps.{◌>>=◌}
use Rattle.sqlcolumns.specs.Texts.{statuses_in}

-- ---- read

abbrev pub domain_registration_columns : DomainRow → RegistrationColumns
domain_registration_columns row = record { creator = row.creator; serial = row.serial; sponsor = row.sponsor; created = row.created; transferred = row.transferred; updated = row.updated }

-- none is restored that wasn't deleted
abbrev pub deletion_in : Option ℤ → Option ℤ → Option (Option Deletion)
deletion_in None None = Some None
deletion_in None (Some restore_requested) = None
deletion_in (Some deleted) restore_requested = do
  m ← moment_in_column deleted
  r ← maybe_moment_in restore_requested
  Some (Some (record { deleted = m; restore_requested = r }))

abbrev pub domain_with : DomainRow → Registration → ℕ → List Status → Option Deletion → Links
    → Option Transfer → Domain
domain_with row r years statuses deletion links transfer = record {
  name = row.name;
  roid = r.roid;
  sponsor = r.sponsor;
  created = r.created;
  years = years;
  transferred = r.transferred;
  updated = r.updated;
  statuses = statuses;
  secret = row.secret;
  links = links;
  transfer = transfer;
  deletion = deletion;
}

-- the domain of these parts, if all are there
abbrev pub domain_made : DomainRow → Option (List Status) → Links → Option Transfer
    → Option Domain
domain_made row statuses links transfer = do
  r ← registration_in kinds.Domain (domain_registration_columns row)
  y ← years_in_column row.years
  s ← statuses
  d ← deletion_in row.deleted row.restore_requested
  Some (domain_with row r y s d links transfer)

-- the domain of a row, if each column reads, which names these and whose last transfer is this
abbrev pub domain_of_columns : DomainRow → Links → Option Transfer → Option Domain
domain_of_columns row links transfer = domain_made row (statuses_in row.statuses) links transfer
