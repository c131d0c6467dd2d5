-- What rows of contacts mean after a change.
use Rattle.std.proofs.Common.{◌≡◌, ℕ, ℤ, pos, Bool, true, not, List, [], ◌∷◌, filter, Option, Some, None, is_some, refl, sym, ap, subst, ◌∙◌, int_eq, false}
use Rattle.sqlobjects.proofs.Words.{AreOtherTransfersKept, contact_read, contact_registration, contact_row_with, ContactRow, contacts_to}
use Rattle.sqlobjects.proofs.Words.{Content, delete_where, hosts_of, is_transfer_of, IsConsistent, IsContact, IsContactPut, IsPlaced, IsPlacedAt}
use Rattle.sqlobjects.proofs.Words.{IsRowPlaced, IsTransferCleared, IsTransferPut, last_transfer, named_contacts, postal_row, row_of_contact}
use Rattle.sqlobjects.proofs.{Words.{rows_named, rows_of, same_some, step}, NamedRowLemmas.placed-as}
use Rattle.sqlobjects.proofs.NewRowLemmas.{no-transfer, none-found}
use Rattle.sqlobjects.proofs.PutLemmas.{changed-drop, changed-put, IsChanged, names_kept, not-changed}
use Rattle.objects.specs.declared.{contact.Contact.Contact, transfer.Transfer.Transfer}
use Rattle.objects.specs.declared.roid.ObjectKind.TheVariants as kinds
use Rattle.sqlcolumns.specs.{Contacts.contact_of_columns, Registrations.registration_columns, Steps.◌>>=◌}
use Rattle.sqlcolumns.proofs.ContactLemmas.{contact_back}
use Rattle.sqltables.specs.Contact as contact_table
use Rattle.sqlobjects.specs.declared.transfers.Transferable.TheVariants as transferable

abbrev name_of : ContactRow → List ℕ
name_of row = row.name

abbrev key : ContactRow → ℤ
key = contact_table.contacts.key

-- a contact whose row and transfer are as they were is read as before
reads-alike : (xs ys : Content) (id : ℤ) → AreOtherTransfersKept (transferable.Contact id) xs (record ys { contacts = xs.contacts }) → (r : ContactRow) → int_eq id r.id ≡ false → contact_read ys r ≡ contact_read xs r
reads-alike xs ys id kept r other = λ i. last_transfer (kept.others (transferable.Contact r.id) other i) >>= (λ transfer. contact_of_columns r transfer)

-- what else a change of contacts leaves
assembled : (xs ys : Content) (name : List ℕ) (value : Option Contact) (id : ℤ) → IsChanged name_of (contact_read xs) (contact_read ys) name value xs.contacts ys.contacts
    → AreOtherTransfersKept (transferable.Contact id) xs (record ys { contacts = xs.contacts }) → IsConsistent xs → IsConsistent ys → IsContactPut name value xs ys
assembled xs ys name value id it kept consistent after = record {
  contacts = it.stands;
  hosts = ap hosts_of kept.rest;
  metas = ap (λ (x : Content). x.metas) kept.rest;
  days = ap (λ (x : Content). x.days) kept.rest;
  accounts = ap (λ (x : Content). x.accounts) kept.rest;
  domains = ap (λ (x : Content). x.domains) kept.rest;
  host_rows = ap (λ (x : Content). x.hosts) kept.rest;
  addresses = ap (λ (x : Content). x.addresses) kept.rest;
  links = ap (λ (x : Content). x.links) kept.rest;
  lines = ap (λ (x : Content). x.lines) kept.rest;
  messages = ap (λ (x : Content). x.messages) kept.rest;
  transfers = λ domain. kept.others (transferable.Domain domain) refl;
  names = names_kept key name_of name xs.contacts ys.contacts consistent.keyed.contacts after.keyed.contacts it.others;
  consistent = (consistent, after);
}

-- ---- dropped

pub none-dropped : (xs : Content) (name : List ℕ) → IsConsistent xs → rows_named named_contacts name xs ≡ [] → IsContactPut name None xs xs
none-dropped xs name consistent none =
    assembled xs xs name None (pos 0) (not-changed name_of (contact_read xs) name xs.contacts none) (record { others = λ other e. refl; rest = refl }) consistent consistent

module _ (xs m : Content) (name : List ℕ) (row : ContactRow) (consistent : IsConsistent xs) (found : rows_named named_contacts name xs ≡ row ∷ []) (clear : IsTransferCleared (transferable.Contact row.id) xs m) where
  abbrev left : Content
  left = contacts_to (delete_where (contact_table.contact_with_id row.id)) m

  kept_then : AreOtherTransfersKept (transferable.Contact row.id) xs (record left { contacts = xs.contacts })
  kept_then = record { others = clear.kept.others; rest = ap (λ (x : Content). record x { contacts = xs.contacts }) clear.kept.rest }

  pub one-dropped : (ys : Content) → ys ≡ left → IsConsistent ys → IsContactPut name None xs ys
  one-dropped ys gone = subst (λ z. IsConsistent z → IsContactPut name None xs z) (sym gone) (assembled xs left name None row.id
      (changed-drop key name_of (contact_read xs) (contact_read left) name row xs.contacts left.contacts (reads-alike xs left row.id kept_then) found consistent.keyed.contacts consistent.named.contacts
      (ap (λ (x : Content). delete_where (contact_table.contact_with_id row.id) x.contacts) clear.kept.rest))
      kept_then consistent)

-- ---- put

record IsWritten (c : Contact) (row : ContactRow) : Type 0 where
  pub name : row.name ≡ c.name
  pub again : (k : ℤ) → row_of_contact k c ≡ Some (record row { id = k })

written : (id : ℤ) (c : Contact) (row : ContactRow) → row_of_contact id c ≡ Some row → IsWritten c row
written id c row e =
    let columns = step (registration_columns kinds.Contact (contact_registration c)) (λ x. postal_row c.postal >>= (λ p. Some (contact_row_with id c x p))) row e in
    let postal = step (postal_row c.postal) (λ p. Some (contact_row_with id c columns.given p)) row columns.rest in
    let same : contact_row_with id c columns.given postal.given ≡ row = same_some (contact_row_with id c columns.given postal.given) row postal.rest in
    record {
      name = sym (ap (λ (r : ContactRow). r.name) same);
      again = λ k. (λ i. columns.is i >>= (λ x. postal.is i >>= (λ p. Some (contact_row_with k c x p)))) ∙ ap (λ (r : ContactRow). Some (record r { id = k })) same;
    }

-- a contact in this row, but for its number and its transfer, which is placed, and then its transfer is put
module _ (xs m ys : Content) (c : Contact) (found : Option ContactRow) (bare row : ContactRow) (is_new : Bool) (consistent : IsConsistent xs) (between : IsConsistent m) (after : IsConsistent ys) (is : IsContact c)
    (made : row_of_contact (pos 0) c ≡ Some bare) (there : rows_named named_contacts c.name xs ≡ rows_of found) (new : is_some found ≡ not is_new) (put : IsPlacedAt named_contacts found bare row xs m)
    (last : (is_new ≡ true → filter (is_transfer_of (transferable.Contact row.id)) m.transfers ≡ []) → IsTransferPut (transferable.Contact row.id) c.transfer m ys) where
  placed : IsRowPlaced named_contacts (λ (r : ContactRow). row_of_contact r.id c ≡ Some r) c.name row xs m
  placed =
      let so = written (pos 0) c bare made in
      placed-as named_contacts (λ (r : ContactRow). row_of_contact r.id c ≡ Some r) c.name found bare row xs m so.name so.again there put consistent

  with : IsTransferPut (transferable.Contact row.id) c.transfer m ys
  with = last (λ e. no-transfer c.name row xs m consistent between placed.rows (ap (λ (x : Content). x.transfers) placed.rest) (there ∙ none-found found is_new new e))

  rows_now : IsPlaced name_of c.name row xs.contacts ys.contacts
  rows_now = subst (IsPlaced name_of c.name row xs.contacts) (sym (ap (λ (x : Content). x.contacts) with.kept.rest)) placed.rows

  kept_now : AreOtherTransfersKept (transferable.Contact row.id) xs (record ys { contacts = xs.contacts })
  kept_now = record {
    others = λ other e. with.kept.others other e ∙ ap (λ (x : Content). filter (is_transfer_of other) x.transfers) placed.rest;
    rest = ap (λ (x : Content). record x { contacts = xs.contacts }) with.kept.rest ∙ ap (λ (x : Content). record x { contacts = xs.contacts; transfers = ys.transfers }) placed.rest;
  }

  pub contact-put : IsContactPut c.name (Some c) xs ys
  contact-put = assembled xs ys c.name (Some c) row.id
      (changed-put key name_of (contact_read xs) (contact_read ys) c.name row xs.contacts ys.contacts (reads-alike xs ys row.id kept_now) c rows_now after.keyed.contacts after.named.contacts
      (ap (λ (t : Option (Option Transfer)). t >>= (λ transfer. contact_of_columns row transfer)) with.last ∙ contact_back row.id c row is placed.is))
      kept_now consistent after
