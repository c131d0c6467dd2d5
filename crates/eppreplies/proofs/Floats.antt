-- A reply has no float.
use Rattle.std.proofs.Common.{ℕ, List, [], ◌∷◌, Option, Some, refl, map, codes}
use Rattle.std.specs.Prelude.{option_and_then, decimal}
use Rattle.serde_json.specs.Data.{string}
use Rattle.protocol.specs.declared.{code.Code.Code, reply.Reply.Reply}
use Rattle.protocol.specs.declared.reply.Data.TheVariants.{Checked, Created, Balance, Renewed, Deleted, Transferred, Polled, Acked, Contact, Domain, Host}
use Rattle.protocol.specs.declared.reply.{CheckResult.CheckResult, ContactInfo.ContactInfo, DomainInfo.DomainInfo, HostInfo.HostInfo}
use Rattle.protocol.specs.declared.reply.TransferInfo.{TransferInfo}
use Rattle.protocol.specs.declared.reply.Data as the_data
use Rattle.objects.specs.{declared.contact.Postal.Postal, Graces.states_of, StatusTexts.{status_text, rgp_text}}
use Rattle.jsonobjects.proofs.Floats.{ArePlain, IsPlain, items_plain, maybe_moment, maybe_plain, maybe_text, members_plain, texts}
use Rattle.eppreplies.specs.{Answer.{settled_value, answer_members, answer_value}, Session.{anonymous_members, anonymous_value}}
use Rattle.eppreplies.specs.Greeting.{greeting_value}
use Rattle.eppreplies.specs.Reply.{reason_text, checked_members, checked_value, checks_value, created_members, balance_members, renewed_members, deleted_members, transferred_members, polled_members, acked_members, transfer_members, transfer_value, postal_members, postal_value, contact_transfer_of, contact_members, host_members, domain_members, data_value, reply_members, reply_value, deleted_of, restore_requested_of, secret_of, transfer_of}

checked_plain : (c : CheckResult) → IsPlain (checked_value c)
checked_plain c = members_plain (checked_members c) (refl, (refl, (maybe_plain (λ r. string (reason_text r)) c.reason (λ r. refl), tt)))

transfer_plain : (t : TransferInfo) → IsPlain (transfer_value t)
transfer_plain t = members_plain (transfer_members t) (refl, (refl, (refl, (refl, (refl, tt)))))

postal_plain : (p : Postal) → IsPlain (postal_value p)
postal_plain p = members_plain (postal_members p) (refl, (refl, (refl, (maybe_text p.org, (maybe_text p.pc, (maybe_text p.sp, (texts p.street, tt)))))))

-- the first is, and so are the others
infixr 2 ◌&◌
◌&◌ : {A B : Type 0} → A → B → A × B
a & b = (a, b)

contact_plain : (c : ContactInfo) → ArePlain (contact_members c)
contact_plain c =
    refl & refl & maybe_plain (λ h. string h.mail) c.hidden (λ h. refl) & refl
    & maybe_plain (λ h. postal_value h.postal) c.hidden (λ h. postal_plain h.postal) & refl
    & maybe_text (option_and_then (λ h. h.secret) c.hidden) & texts (map status_text c.face.statuses) & maybe_moment c.face.transferred
    & maybe_plain transfer_value (contact_transfer_of c) transfer_plain & maybe_moment c.face.updated
    & maybe_text (option_and_then (λ h. h.voice) c.hidden) & tt

host_plain : (h : HostInfo) → ArePlain (host_members h)
host_plain h =
    texts h.face.addresses & refl & refl & refl & refl & texts (map status_text h.face.statuses) & maybe_moment h.face.updated & tt

domain_plain : (d : DomainInfo) → ArePlain (domain_members d)
domain_plain d =
    texts d.face.links.admin & refl & refl & maybe_moment (deleted_of d) & refl & texts d.face.links.hosts & refl & refl
    & maybe_moment (restore_requested_of d) & texts (map rgp_text (states_of d.face.standing)) & refl & maybe_text (secret_of d)
    & texts (map status_text d.face.statuses) & texts d.subordinate & texts d.face.links.tech & maybe_moment d.face.transferred
    & maybe_plain transfer_value (transfer_of d) transfer_plain & maybe_moment d.face.updated & tt

data_plain : (d : the_data.Data) → IsPlain (data_value d)
data_plain (Checked results) = members_plain ((codes "results", Some (checks_value results)) ∷ []) (items_plain checked_value results checked_plain, tt)
data_plain (Created c) = members_plain (created_members c) (maybe_plain (λ cents. string (decimal cents)) c.charge (λ n. refl), (refl, (maybe_moment c.expires, (refl, tt))))
data_plain (Balance cents) = members_plain (balance_members cents) (refl, tt)
data_plain (Renewed r) = members_plain (renewed_members r) (refl, (refl, (refl, tt)))
data_plain (Deleted d) = members_plain (deleted_members d) (refl, (refl, tt))
data_plain (Transferred t) = members_plain (transferred_members t) (refl, (refl, (maybe_plain (λ cents. string (decimal cents)) t.charge (λ n. refl), (refl, (refl, (refl, (refl, tt)))))))
data_plain (Polled p) = members_plain (polled_members p) (refl, (refl, (refl, (refl, (refl, (refl, tt))))))
data_plain (Acked count) = members_plain (acked_members count) (refl, tt)
data_plain (Contact c) = members_plain (contact_members c) (contact_plain c)
data_plain (Host h) = members_plain (host_members h) (host_plain h)
data_plain (Domain d) = members_plain (domain_members d) (domain_plain d)

pub reply_plain : (r : Reply) → IsPlain (reply_value r)
reply_plain r = members_plain (reply_members r) (maybe_text r.cl_trid, (refl, (maybe_plain data_value r.content data_plain, (refl, (refl, tt)))))

pub answer_plain : (code : Code) (done : Option ℕ) → IsPlain (answer_value code done)
answer_plain code done = members_plain (answer_members code done) (refl, (maybe_plain settled_value done (λ n. refl), (refl, tt)))

pub greeting_plain : (date : ℕ) → IsPlain (greeting_value date)
greeting_plain date = refl

pub anonymous_plain : (cl_trid : Option (List ℕ)) (code : Code) → IsPlain (anonymous_value cl_trid code)
anonymous_plain cl_trid code = members_plain (anonymous_members cl_trid code) (maybe_text cl_trid, (refl, (refl, (refl, tt))))
