-- How a contact lies in its row. Its transfer lies in a row of its own.
use Rattle.std.specs.Prelude.{ℕ, List, Option, Some, None, if◌then◌else◌}
use Rattle.objects.specs.declared.contact.Contact.{Contact}
use Rattle.objects.specs.declared.contact.Postal.{Postal}
use Rattle.objects.specs.declared.status.Status.{Status}
use Rattle.objects.specs.declared.transfer.Transfer.{Transfer}
use Rattle.objects.specs.declared.roid.ObjectKind.TheVariants as kinds
use Rattle.sqltables.specs.declared.contact.ContactRow.{ContactRow}
use Rattle.sqltables.specs.declared.contact.PostalRow.{PostalRow}
use Rattle.sqlcolumns.specs.declared.registration.Registration.{Registration}
use Rattle.sqlcolumns.specs.declared.registration.RegistrationColumns.{RegistrationColumns}
use Rattle.sqlcolumns.specs.Registrations.{registration_in}
use Rattle.sqlcolumns.specs.Steps.{◌>>=◌}
use Rattle.sqlcolumns.specs.Texts.{statuses_in, street_in}
use Rattle.sqlcolumns.specs.Transfers.{is_same, maybe_due_column}

-- ---- read

abbrev pub contact_registration_columns : ContactRow → RegistrationColumns
contact_registration_columns row = record { creator = row.creator; serial = row.serial; sponsor = row.sponsor; created = row.created; transferred = row.transferred; updated = row.updated }

abbrev pub postal_in : PostalRow → List (List ℕ) → Postal
postal_in p street = record { name = p.name; org = p.org; street = street; city = p.city; sp = p.state; pc = p.postal_code; cc = p.country }

abbrev pub contact_with : ContactRow → Registration → List Status → List (List ℕ)
    → Option Transfer → Contact
contact_with row r statuses street transfer = record {
  name = row.name;
  roid = r.roid;
  sponsor = r.sponsor;
  created = r.created;
  transferred = r.transferred;
  updated = r.updated;
  statuses = statuses;
  secret = row.secret;
  postal = postal_in row.postal street;
  voice = row.voice;
  mail = row.mail;
  transfer = transfer;
}

-- the contact of these parts, if all are there, and it is due when its transfer says
abbrev pub contact_made : ContactRow → Option (List Status) → List (List ℕ) → Option Transfer
    → Option Contact
contact_made row statuses street transfer = do
  r ← registration_in kinds.Contact (contact_registration_columns row)
  s ← statuses
  if is_same (maybe_due_column transfer) row.due then Some (contact_with row r s street transfer) else None

-- the contact of a row, if each column reads, whose last transfer is this
abbrev pub contact_of_columns : ContactRow → Option Transfer → Option Contact
contact_of_columns row transfer =
    contact_made row (statuses_in row.statuses) (street_in row.postal.street) transfer
