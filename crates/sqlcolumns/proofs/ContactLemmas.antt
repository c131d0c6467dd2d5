-- A contact is read back from its row and its transfer.
use Rattle.std.proofs.Common.{arith, ◌≡◌, ℤ, Some, sym, ap, ◌∙◌}
use Rattle.objects.specs.declared.contact.Contact.{Contact}
use Rattle.objects.specs.declared.roid.ObjectKind.TheVariants as kinds
use Rattle.sqltables.specs.declared.contact.ContactRow.{ContactRow}
use Rattle.sqlcolumns.specs.inner.Contacts.{IsContact, contact_registration, contact_row_with, postal_row, postal_with, row_of_contact}
use Rattle.sqlcolumns.specs.{Contacts.{contact_of_columns}, Registrations.registration_columns, Steps.◌>>=◌}
use Rattle.sqlcolumns.specs.{Texts.street_column, Transfers.{maybe_due_column}}
use Rattle.sqlcolumns.proofs.{ReadLemmas.{same_some, step}, RegistrationLemmas.registration_back}
use Rattle.sqlcolumns.proofs.{TextLemmas.{statuses_back, street_back}, TransferLemmas.same_as_itself}

-- what was written is read back
pub contact_back : (id : ℤ) (c : Contact) (row : ContactRow) → IsContact c → row_of_contact id c ≡ Some row → contact_of_columns row c.transfer ≡ Some c
contact_back id c row is e =
    let columns = step (registration_columns kinds.Contact (contact_registration c)) (λ x. postal_row c.postal >>= (λ p. Some (contact_row_with id c x p))) row e in
    let postal = step (postal_row c.postal) (λ p. Some (contact_row_with id c columns.given p)) row columns.rest in
    let street = step (street_column c.postal.street) (λ s. Some (postal_with c.postal s)) postal.given postal.is in
    let written : ContactRow = contact_row_with id c columns.given (postal_with c.postal street.given) in
    let same : written ≡ row = ap (contact_row_with id c columns.given) (same_some (postal_with c.postal street.given) postal.given street.rest) ∙ same_some (contact_row_with id c columns.given postal.given) row postal.rest in
    let read = registration_back kinds.Contact (contact_registration c) columns.given is columns.is in
    let due = maybe_due_column c.transfer in
    sym (ap (λ (x : ContactRow). contact_of_columns x c.transfer) same)
    ∙ grind (arith, read, statuses_back c.statuses, street_back c.postal.street street.given street.is, same_as_itself due)
