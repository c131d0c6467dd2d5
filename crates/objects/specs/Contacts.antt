-- Contacts (RFC 5733).
use Rattle.std.specs.Prelude.{Bool, false, not, ◌&&◌, List, filter}
use Rattle.objects.specs.declared.status.Status.{Status}
use Rattle.objects.specs.declared.status.Status.TheVariants.{Inactive, Linked, Fine, PendingDelete, PendingTransfer}
use Rattle.objects.specs.declared.contact.Contact.{Contact}
use Rattle.objects.specs.declared.contact.ContactFace.{ContactFace}
use Rattle.objects.specs.Domains.{is_empty}
use Rattle.objects.specs.Statuses.{all_statuses, has_status}
use Rattle.objects.specs.Transfers.{is_pending}

-- A contact shows the statuses that were set and those that follow: linked while a domain names it,
-- pendingTransfer, and ok where there is none but linked.
abbrev pub contact_shows : Bool → Contact → Status → Bool
contact_shows linked c Inactive = false
contact_shows linked c Linked = linked
contact_shows linked c Fine = is_empty c.statuses && not (is_pending c.transfer)
contact_shows linked c PendingDelete = false
contact_shows linked c PendingTransfer = is_pending c.transfer
contact_shows linked c status = has_status c.statuses status

abbrev pub contact_shown : Bool → Contact → List Status
contact_shown linked c = filter (contact_shows linked c) all_statuses

-- what everyone may know of a contact; that it is linked is seen at the domains
abbrev pub contact_face_of : Contact → ContactFace
contact_face_of c = record {
  name = c.name;
  roid = c.roid;
  sponsor = c.sponsor;
  created = c.created;
  transferred = c.transferred;
  updated = c.updated;
  statuses = contact_shown false c;
}
