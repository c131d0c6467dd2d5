-- The texts of messages to registrars (RFC 5730, 2.9.2.3), and of the kinds of objects.
use Rattle.std.specs.Prelude.{ℕ, List, codes}
use Rattle.objects.specs.declared.roid.ObjectKind.{ObjectKind}
use Rattle.objects.specs.declared.roid.ObjectKind.TheVariants.{Contact, Domain, Host}
use Rattle.protocol.specs.declared.notice.Notice.{Notice}
use Rattle.protocol.specs.declared.notice.Notice.TheVariants.{TransferRequested, TransferApproved, TransferRejected, TransferCancelled, TransferApprovedByServer, DomainRenewed, DomainPurged}

abbrev pub notice_text : Notice → List ℕ
notice_text TransferRequested = codes "Transfer requested."
notice_text TransferApproved = codes "Transfer approved."
notice_text TransferRejected = codes "Transfer rejected."
notice_text TransferCancelled = codes "Transfer cancelled."
notice_text TransferApprovedByServer = codes "Transfer approved by the server."
notice_text DomainRenewed = codes "Domain renewed automatically."
notice_text DomainPurged = codes "Domain purged."

abbrev pub object_text : ObjectKind → List ℕ
object_text Contact = codes "contact"
object_text Domain = codes "domain"
object_text Host = codes "host"
