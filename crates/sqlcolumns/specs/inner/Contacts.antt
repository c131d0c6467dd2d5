-- How a contact lies in its row. Its transfer lies in a row of its own.
use Rattle.std.specs.Prelude.{ℕ, ℤ, List, Option, Some}
use Rattle.objects.specs.declared.contact.Contact.{Contact}
use Rattle.objects.specs.declared.contact.Postal.{Postal}
use Rattle.objects.specs.declared.roid.ObjectKind.TheVariants as kinds
use Rattle.sqltables.specs.declared.contact.ContactRow.{ContactRow}
use Rattle.sqltables.specs.declared.contact.PostalRow.{PostalRow}
use Rattle.sqlcolumns.specs.declared.registration.Registration.{Registration}
use Rattle.sqlcolumns.specs.declared.registration.RegistrationColumns.{RegistrationColumns}
use Rattle.sqlcolumns.specs.Registrations.{IsRegistration, registration_columns}
use Rattle.sqlcolumns.specs.Steps.{◌>>=◌}
use Rattle.sqlcolumns.specs.Texts.{statuses_column, street_column}
use Rattle.sqlcolumns.specs.Transfers.{maybe_due_column}

abbrev pub contact_registration : Contact → Registration
contact_registration c = record { roid = c.roid; sponsor = c.sponsor; created = c.created; transferred = c.transferred; updated = c.updated }

abbrev pub IsContact : Contact → Type 0
IsContact c = IsRegistration (contact_registration c)

-- ---- written

abbrev pub postal_with : Postal → List ℕ → PostalRow
postal_with p street = record { name = p.name; org = p.org; street = street; city = p.city; state = p.sp; postal_code = p.pc; country = p.cc }

-- the postal columns, if the street can be written
abbrev pub postal_row : Postal → Option PostalRow
postal_row p = do
  street ← street_column p.street
  Some (postal_with p street)

abbrev pub contact_row_with : ℤ → Contact → RegistrationColumns → PostalRow → ContactRow
contact_row_with id c columns postal = record {
  id = id;
  name = c.name;
  creator = columns.creator;
  serial = columns.serial;
  sponsor = columns.sponsor;
  created = columns.created;
  transferred = columns.transferred;
  updated = columns.updated;
  statuses = statuses_column c.statuses;
  secret = c.secret;
  voice = c.voice;
  mail = c.mail;
  due = maybe_due_column c.transfer;
  postal = postal;
}

-- the row of a contact, under its number
abbrev pub row_of_contact : ℤ → Contact → Option ContactRow
row_of_contact id c = do
  columns ← registration_columns kinds.Contact (contact_registration c)
  postal ← postal_row c.postal
  Some (contact_row_with id c columns postal)
