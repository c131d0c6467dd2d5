-- What one registrar sees of one object.
use Rattle.std.specs.Prelude.{ℕ, Bool, false, ◌||◌, ◌==◌, if◌then◌else◌, List, Option, Some, None}
use Rattle.std.specs.Str.{bytes_eq}
use Rattle.objects.specs.declared.contact.Contact.{Contact}
use Rattle.objects.specs.declared.contact.ContactFace.{ContactFace}
use Rattle.objects.specs.declared.domain.Domain.{Domain}
use Rattle.objects.specs.declared.domain.DomainFace.{DomainFace}
use Rattle.objects.specs.declared.domain.FullDomain.{FullDomain}
use Rattle.objects.specs.declared.grace.Standing.{Standing}
use Rattle.objects.specs.declared.transfer.Transfer.{Transfer}
use Rattle.objects.specs.declared.sight.Seen.{Seen}
use Rattle.objects.specs.declared.sight.Seen.TheVariants.{Full, TransferParty, Public}
use Rattle.objects.specs.Contacts.{contact_face_of}
use Rattle.objects.specs.Domains.{face_of}
use Rattle.objects.specs.Transfers.{is_incoming, names}

-- a secret was presented, and is this one
abbrev pub authorizes : Option (List ℕ) → List ℕ → Bool
authorizes None secret = false
authorizes (Some presented) secret = bytes_eq presented secret

-- the registrar sponsors the object, or a pending transfer brings it there
abbrev pub is_party : ℕ → ℕ → Option Transfer → Bool
is_party r sponsor transfer = (sponsor == r) || is_incoming r transfer

-- the face, with the last transfer where that names the registrar
abbrev pub seen_by_outsider : {O F : Type 0} → ℕ → F → Option Transfer → Seen O F
seen_by_outsider r face None = Public face
seen_by_outsider r face (Some t) = if names r t then TransferParty face t else Public face

-- A registrar sees an object in full where it is a party to it or presents its secret; the face and
-- the last transfer where that names it; and the face otherwise.
abbrev pub domain_as : ℕ → Option (List ℕ) → Standing → Domain → Seen FullDomain DomainFace
domain_as r presented standing d =
    if is_party r d.sponsor d.transfer || authorizes presented d.secret then Full (record { domain = d; standing = standing })
    else seen_by_outsider r (face_of standing d) d.transfer

abbrev pub contact_as : ℕ → Option (List ℕ) → Contact → Seen Contact ContactFace
contact_as r presented c = if is_party r c.sponsor c.transfer || authorizes presented c.secret then Full c else seen_by_outsider r (contact_face_of c) c.transfer
