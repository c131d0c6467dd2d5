-- The text of a reply (RFC 5730, 2.6): compact JSON, the members of each object in the order of their names' bytes.
use Rattle.std.specs.Fmt.{signed_decimal}
use Rattle.std.specs.Prelude.{ℕ, List, [], ◌∷◌, ◌++◌, map, Option, Some, option_map, option_and_then, is_none, codes, decimal, ℤ}
use Rattle.serde_json.specs.Data.{Data, boolean, number, unsigned, string, array, object}
use Rattle.serde_json.specs.View.{items_of}
use Rattle.serde_json.specs.Written.{compact_text}
use Rattle.objects.specs.declared.contact.Postal.{Postal}
use Rattle.objects.specs.declared.domain.Deletion.{Deletion}
use Rattle.objects.specs.declared.transfer.TransferState.{TransferState}
use Rattle.objects.specs.declared.transfer.TransferState.TheVariants.{Pending, ClientApproved, ClientRejected, ClientCancelled, ServerApproved}
use Rattle.objects.specs.StatusTexts.{status_text, rgp_text}
use Rattle.objects.specs.Graces.{states_of}
use Rattle.objects.specs.Roid.{roid_text}
use Rattle.protocol.specs.Codes.{number_of, message_of}
use Rattle.protocol.specs.declared.reply.Reply.{Reply}
use Rattle.protocol.specs.declared.reply.SvTrid.{SvTrid}
use Rattle.protocol.specs.declared.reply.Data as the_data
use Rattle.protocol.specs.declared.reply.Data.TheVariants.{Checked, Created, Balance, Renewed, Deleted, Transferred, Polled, Acked, Contact, Domain, Host}
use Rattle.protocol.specs.declared.reply.CheckResult.{CheckResult}
use Rattle.protocol.specs.declared.reply.Reason.{Reason}
use Rattle.protocol.specs.declared.reply.Reason.TheVariants.{Policy, InUse}
use Rattle.protocol.specs.declared.reply.Created as the_created
use Rattle.protocol.specs.declared.reply.Renewed as the_renewed
use Rattle.protocol.specs.declared.reply.Deleted as the_deleted
use Rattle.protocol.specs.declared.reply.Transferred as the_transferred
use Rattle.protocol.specs.declared.reply.Polled as the_polled
use Rattle.protocol.specs.Texts.{notice_text, object_text}
use Rattle.protocol.specs.declared.reply.ContactInfo.{ContactInfo}
use Rattle.protocol.specs.declared.reply.DomainInfo.{DomainInfo}
use Rattle.protocol.specs.declared.reply.HostInfo.{HostInfo}
use Rattle.protocol.specs.declared.reply.TransferInfo.{TransferInfo}
use Rattle.jsonobjects.specs.Members.{members_with, texts_value, moment_value}

-- ---- check (RFC 5731, 3.1.1; RFC 5732, 3.1.1; RFC 5733, 3.1.1)

abbrev pub reason_text : Reason → List ℕ
reason_text Policy = codes "policy"
reason_text InUse = codes "in use"

abbrev pub checked_members : CheckResult → List (List ℕ × Option Data)
checked_members c =
    (codes "avail", Some (boolean (is_none c.reason)))
    ∷ (codes "name", Some (string c.name))
    ∷ (codes "reason", option_map (λ r. string (reason_text r)) c.reason) ∷ []

abbrev pub checked_value : CheckResult → Data
checked_value c = object (members_with (checked_members c))

abbrev pub checks_value : List CheckResult → Data
checks_value results = array (items_of (map checked_value results))

-- ---- create (RFC 5731, 3.2.1; RFC 5732, 3.2.1; RFC 5733, 3.2.1)

abbrev pub created_members : the_created.Created → List (List ℕ × Option Data)
created_members c =
    (codes "charge", option_map (λ cents. string (decimal cents)) c.charge)
    ∷ (codes "crDate", Some (moment_value c.created))
    ∷ (codes "exDate", option_map moment_value c.expires)
    ∷ (codes "name", Some (string c.name)) ∷ []

abbrev pub created_value : the_created.Created → Data
created_value c = object (members_with (created_members c))

-- ---- money, which is shown as a text of whole cents

abbrev pub cents_value : ℤ → Data
cents_value cents = string (signed_decimal cents)

abbrev pub balance_members : ℤ → List (List ℕ × Option Data)
balance_members cents = (codes "balance", Some (cents_value cents)) ∷ []

abbrev pub balance_value : ℤ → Data
balance_value cents = object (members_with (balance_members cents))

-- ---- renew, and the report of a restoration (RFC 5731, 3.2.3; RFC 3915, 4.2.5)

abbrev pub renewed_members : the_renewed.Renewed → List (List ℕ × Option Data)
renewed_members r =
    (codes "charge", Some (string (decimal r.charge)))
    ∷ (codes "exDate", Some (moment_value r.expires))
    ∷ (codes "name", Some (string r.name)) ∷ []

abbrev pub renewed_value : the_renewed.Renewed → Data
renewed_value r = object (members_with (renewed_members r))

-- ---- delete of a domain (RFC 5731, 3.2.2)

abbrev pub deleted_members : the_deleted.Deleted → List (List ℕ × Option Data)
deleted_members d =
    (codes "name", Some (string d.name))
    ∷ (codes "refund", Some (string (decimal d.refund))) ∷ []

abbrev pub deleted_value : the_deleted.Deleted → Data
deleted_value d = object (members_with (deleted_members d))

-- ---- transfers (RFC 5730, 2.9.3.4)

abbrev pub state_text : TransferState → List ℕ
state_text Pending = codes "pending"
state_text ClientApproved = codes "clientApproved"
state_text ClientRejected = codes "clientRejected"
state_text ClientCancelled = codes "clientCancelled"
state_text ServerApproved = codes "serverApproved"

abbrev pub transfer_members : TransferInfo → List (List ℕ × Option Data)
transfer_members t =
    (codes "acDate", Some (moment_value t.transfer.ac_date))
    ∷ (codes "acID", Some (string t.losing_registrar))
    ∷ (codes "reDate", Some (moment_value t.transfer.requested))
    ∷ (codes "reID", Some (string t.requester))
    ∷ (codes "status", Some (string (state_text t.transfer.state))) ∷ []

abbrev pub transfer_value : TransferInfo → Data
transfer_value t = object (members_with (transfer_members t))

-- the same as data of its own, with what a request charged
abbrev pub transferred_members : the_transferred.Transferred → List (List ℕ × Option Data)
transferred_members t =
    (codes "acDate", Some (moment_value t.transfer.transfer.ac_date))
    ∷ (codes "acID", Some (string t.transfer.losing_registrar))
    ∷ (codes "charge", option_map (λ cents. string (decimal cents)) t.charge)
    ∷ (codes "name", Some (string t.name))
    ∷ (codes "reDate", Some (moment_value t.transfer.transfer.requested))
    ∷ (codes "reID", Some (string t.transfer.requester))
    ∷ (codes "status", Some (string (state_text t.transfer.transfer.state))) ∷ []

abbrev pub transferred_value : the_transferred.Transferred → Data
transferred_value t = object (members_with (transferred_members t))

-- ---- poll (RFC 5730, 2.9.2.3)

abbrev pub polled_members : the_polled.Polled → List (List ℕ × Option Data)
polled_members p =
    (codes "count", Some (number (unsigned p.count)))
    ∷ (codes "id", Some (string p.id))
    ∷ (codes "msg", Some (string (notice_text p.notice)))
    ∷ (codes "name", Some (string p.name))
    ∷ (codes "obj", Some (string (object_text p.kind)))
    ∷ (codes "qDate", Some (moment_value p.queued)) ∷ []

abbrev pub polled_value : the_polled.Polled → Data
polled_value p = object (members_with (polled_members p))

abbrev pub acked_members : ℕ → List (List ℕ × Option Data)
acked_members count = (codes "count", Some (number (unsigned count))) ∷ []

abbrev pub acked_value : ℕ → Data
acked_value count = object (members_with (acked_members count))

-- ---- info of a contact (RFC 5733, 3.1.2)

abbrev pub postal_members : Postal → List (List ℕ × Option Data)
postal_members p =
    (codes "cc", Some (string p.cc))
    ∷ (codes "city", Some (string p.city))
    ∷ (codes "name", Some (string p.name))
    ∷ (codes "org", option_map string p.org)
    ∷ (codes "pc", option_map string p.pc)
    ∷ (codes "sp", option_map string p.sp)
    ∷ (codes "street", Some (texts_value p.street)) ∷ []

abbrev pub postal_value : Postal → Data
postal_value p = object (members_with (postal_members p))

abbrev pub contact_transfer_of : ContactInfo → Option TransferInfo
contact_transfer_of c = option_and_then (λ h. h.transfer) c.hidden

-- what the face leaves out has no member where it isn't given
abbrev pub contact_members : ContactInfo → List (List ℕ × Option Data)
contact_members c =
    (codes "clID", Some (string c.sponsor))
    ∷ (codes "crDate", Some (moment_value c.face.created))
    ∷ (codes "mail", option_map (λ h. string h.mail) c.hidden)
    ∷ (codes "name", Some (string c.face.name))
    ∷ (codes "postal", option_map (λ h. postal_value h.postal) c.hidden)
    ∷ (codes "roid", Some (string (roid_text c.face.roid)))
    ∷ (codes "secret", option_map string (option_and_then (λ h. h.secret) c.hidden))
    ∷ (codes "status", Some (texts_value (map status_text c.face.statuses)))
    ∷ (codes "trDate", option_map moment_value c.face.transferred)
    ∷ (codes "transfer", option_map transfer_value (contact_transfer_of c))
    ∷ (codes "upDate", option_map moment_value c.face.updated)
    ∷ (codes "voice", option_map string (option_and_then (λ h. h.voice) c.hidden)) ∷ []

abbrev pub contact_value : ContactInfo → Data
contact_value c = object (members_with (contact_members c))

-- ---- info of a host (RFC 5732, 3.1.2)

abbrev pub host_members : HostInfo → List (List ℕ × Option Data)
host_members h =
    (codes "addrs", Some (texts_value h.face.addresses))
    ∷ (codes "clID", Some (string h.sponsor))
    ∷ (codes "crDate", Some (moment_value h.face.created))
    ∷ (codes "name", Some (string h.face.name))
    ∷ (codes "roid", Some (string (roid_text h.face.roid)))
    ∷ (codes "status", Some (texts_value (map status_text h.face.statuses)))
    ∷ (codes "upDate", option_map moment_value h.face.updated) ∷ []

abbrev pub host_value : HostInfo → Data
host_value h = object (members_with (host_members h))

-- ---- info of a domain (RFC 5731, 3.1.2; RFC 3915, 3.1)

abbrev pub secret_of : DomainInfo → Option (List ℕ)
secret_of d = option_and_then (λ h. h.secret) d.hidden

abbrev pub transfer_of : DomainInfo → Option TransferInfo
transfer_of d = option_and_then (λ h. h.transfer) d.hidden

abbrev pub deletion_of : DomainInfo → Option Deletion
deletion_of d = option_and_then (λ h. h.deletion) d.hidden

abbrev pub deleted_of : DomainInfo → Option ℕ
deleted_of d = option_map (λ x. x.deleted) (deletion_of d)

abbrev pub restore_requested_of : DomainInfo → Option ℕ
restore_requested_of d = option_and_then (λ x. x.restore_requested) (deletion_of d)

abbrev pub domain_members : DomainInfo → List (List ℕ × Option Data)
domain_members d =
    (codes "admin", Some (texts_value d.face.links.admin))
    ∷ (codes "clID", Some (string d.sponsor))
    ∷ (codes "crDate", Some (moment_value d.face.created))
    ∷ (codes "delDate", option_map moment_value (deleted_of d))
    ∷ (codes "exDate", Some (moment_value d.face.expires))
    ∷ (codes "hosts", Some (texts_value d.face.links.hosts))
    ∷ (codes "name", Some (string d.face.name))
    ∷ (codes "registrant", Some (string d.face.links.registrant))
    ∷ (codes "resDate", option_map moment_value (restore_requested_of d))
    ∷ (codes "rgp", Some (texts_value (map rgp_text (states_of d.face.standing))))
    ∷ (codes "roid", Some (string (roid_text d.face.roid)))
    ∷ (codes "secret", option_map string (secret_of d))
    ∷ (codes "status", Some (texts_value (map status_text d.face.statuses)))
    ∷ (codes "subordinate", Some (texts_value d.subordinate))
    ∷ (codes "tech", Some (texts_value d.face.links.tech))
    ∷ (codes "trDate", option_map moment_value d.face.transferred)
    ∷ (codes "transfer", option_map transfer_value (transfer_of d))
    ∷ (codes "upDate", option_map moment_value d.face.updated) ∷ []

abbrev pub domain_value : DomainInfo → Data
domain_value d = object (members_with (domain_members d))

-- ---- the reply

abbrev pub data_value : the_data.Data → Data
data_value (Checked results) = object (members_with ((codes "results", Some (checks_value results)) ∷ []))
data_value (Created c) = created_value c
data_value (Balance cents) = balance_value cents
data_value (Renewed r) = renewed_value r
data_value (Deleted d) = deleted_value d
data_value (Transferred t) = transferred_value t
data_value (Polled p) = polled_value p
data_value (Acked count) = acked_value count
data_value (Contact c) = contact_value c
data_value (Domain d) = domain_value d
data_value (Host h) = host_value h

-- the caller's id and the number of its command
abbrev pub sv_trid_text : SvTrid → List ℕ
sv_trid_text t = t.id ++ codes "-" ++ decimal t.number

abbrev pub reply_members : Reply → List (List ℕ × Option Data)
reply_members r =
    (codes "clTRID", option_map string r.cl_trid)
    ∷ (codes "code", Some (number (unsigned (number_of r.code))))
    ∷ (codes "data", option_map data_value r.content)
    ∷ (codes "msg", Some (string (message_of r.code)))
    ∷ (codes "svTRID", Some (string (sv_trid_text r.sv_trid))) ∷ []

abbrev pub reply_value : Reply → Data
reply_value r = object (members_with (reply_members r))

abbrev pub reply_text : Reply → List ℕ
reply_text r = compact_text (reply_value r)
