-- What is seen without a secret, of what was seen with one.
use Rattle.std.proofs.Common.{◌≡◌, ℕ, arith, Bool, true, false, cond, not, ◌&&◌, Option, Some, None, List, [], ◌∷◌, filter, refl, sym, ap, ◌∙◌}
use Rattle.decisions.proofs.Words.{add, all_statuses, bytes_eq, cond_both, Contact, contact_as, contact_face_of, Domain, DomainFace, face_of, Full, FullDomain}
use Rattle.decisions.proofs.Words.{Graces, has_name, has_status, is_empty, is_party, is_pending, is_some, links_with_host_renamed, names, nat_cmp}
use Rattle.decisions.proofs.Words.{precedes, Public, renamed, Roid, Seen, shows, slice_cmp, Standing, Status, Superordinate, superordinate_of_domain}
use Rattle.decisions.proofs.Words.{nat_tests, Transfer, TransferParty, with_host_renamed, ◌||◌}
use Rattle.objects.specs.Sight.{authorizes, seen_by_outsider, domain_as}
use Rattle.objects.specs.declared.status.Status.TheVariants as statuses
use Rattle.objects.proofs.StatusLemmas.{has_status-filter}
use Rattle.decisions.proofs.OrderedSetLemmas.{length-add}

-- what is so of a face with its transfer, and of a face alone, is so of what an outsider sees
pub outside : {O F : Type 0} (P : Seen O F → Type 0) (r : ℕ) (face : F) (t : Option Transfer) → ((x : Transfer) → P (TransferParty face x)) → P (Public face)
    → P (seen_by_outsider r face t)
outside P r face None party public = public
outside {O} {F} P r face (Some x) party public = cond_both {A = Seen O F} (names r x) (TransferParty face x) (Public face) P (λ e. party x) (λ e. public)

-- what is seen in full is looked at again, without a secret
abbrev pub forget : {O F : Type 0} → (O → Seen O F) → Seen O F → Seen O F
forget again (Full o) = again o
forget again (TransferParty face t) = TransferParty face t
forget again (Public face) = Public face

forget-seen : {O F : Type 0} (again : O → Seen O F) (r : ℕ) (o : O) (face : F) (t : Option Transfer) (party opened : Bool)
    → again o ≡ cond (party || false) (Full o) (seen_by_outsider r face t)
    → forget again (cond (party || opened) (Full o) (seen_by_outsider r face t)) ≡ cond (party || false) (Full o) (seen_by_outsider r face t)
forget-seen again r o face t true opened e = e
forget-seen again r o face t false true e = e
forget-seen {O} {F} again r o face t false false e = outside (λ (seen : Seen O F). forget again seen ≡ seen) r face t (λ x. refl) refl

-- a domain that stands so, in full
abbrev pub full_as : Standing → Domain → FullDomain
full_as standing d = record { domain = d; standing = standing }

-- what is seen of it without a secret
abbrev pub domain_again : ℕ → FullDomain → Seen FullDomain DomainFace
domain_again r known = domain_as r None known.standing known.domain

pub forget-domain : (r : ℕ) (presented : Option (List ℕ)) (standing : Standing) (d : Domain) → forget (domain_again r) (domain_as r presented standing d) ≡ domain_as r None standing d
forget-domain r presented standing d = forget-seen (domain_again r) r (full_as standing d) (face_of standing d) d.transfer (is_party r d.sponsor d.transfer) (authorizes presented d.secret) refl

pub forget-contact : (r : ℕ) (presented : Option (List ℕ)) (c : Contact) → forget (contact_as r None) (contact_as r presented c) ≡ contact_as r None c
forget-contact r presented c = forget-seen (contact_as r None) r c (contact_face_of c) c.transfer (is_party r c.sponsor c.transfer) (authorizes presented c.secret) refl

-- ---- what is alike in every sight of a domain: its face

abbrev pub face_seen : Seen FullDomain DomainFace → DomainFace
face_seen (Full known) = face_of known.standing known.domain
face_seen (TransferParty face t) = face
face_seen (Public face) = face

pub face-seen : (r : ℕ) (presented : Option (List ℕ)) (standing : Standing) (d : Domain) → face_seen (domain_as r presented standing d) ≡ face_of standing d
face-seen r presented standing d = cond_both {A = Seen FullDomain DomainFace} (is_party r d.sponsor d.transfer || authorizes presented d.secret) (Full (full_as standing d)) (seen_by_outsider r (face_of standing d) d.transfer)
    (λ seen. face_seen seen ≡ face_of standing d) (λ e. refl) (λ e. outside (λ (seen : Seen FullDomain DomainFace). face_seen seen ≡ face_of standing d) r (face_of standing d) d.transfer (λ x. refl) refl)

-- of a face, what a domain's hosts hang on
abbrev pub superordinate_of_face : DomainFace → Superordinate
superordinate_of_face face = record { sponsor = face.sponsor; is_deleted = has_status face.statuses statuses.PendingDelete }

pub superordinate-seen : (r : ℕ) (presented : Option (List ℕ)) (standing : Standing) (d : Domain) → superordinate_of_face (face_seen (domain_as r presented standing d)) ≡ superordinate_of_domain d
superordinate-seen r presented standing d = ap superordinate_of_face (face-seen r presented standing d)
    ∙ ap (λ (b : Bool). record (superordinate_of_domain d) { is_deleted = b }) (has_status-filter (shows d) statuses.PendingDelete)

-- the registrar holds what it sees, or gets it
abbrev pub holds_seen : ℕ → Seen FullDomain DomainFace → Bool
holds_seen r (Full known) = is_party r known.domain.sponsor known.domain.transfer
holds_seen r _ = false

held-by : (r : ℕ) (standing : Standing) (d : Domain) (party opened : Bool) → is_party r d.sponsor d.transfer ≡ party
    → holds_seen r (cond (party || opened) (Full (full_as standing d)) (seen_by_outsider r (face_of standing d) d.transfer)) ≡ party
held-by r standing d true opened e = e
held-by r standing d false true e = e
held-by r standing d false false e = outside (λ (seen : Seen FullDomain DomainFace). holds_seen r seen ≡ false) r (face_of standing d) d.transfer (λ x. refl) refl

pub holds-seen : (r : ℕ) (presented : Option (List ℕ)) (standing : Standing) (d : Domain) → holds_seen r (domain_as r presented standing d) ≡ is_party r d.sponsor d.transfer
holds-seen r presented standing d = held-by r standing d (is_party r d.sponsor d.transfer) (authorizes presented d.secret) refl

-- ---- to change each sight of an object is to see the changed object

abbrev pub seen_with : {O F : Type 0} → (O → O) → (F → F) → Seen O F → Seen O F
seen_with f g (Full o) = Full (f o)
seen_with f g (TransferParty face t) = TransferParty (g face) t
seen_with f g (Public face) = Public (g face)

seen-with : {O F : Type 0} (f : O → O) (g : F → F) (r : ℕ) (o : O) (face : F) (b : Bool) (t : Option Transfer)
    → seen_with f g (cond b (Full o) (seen_by_outsider r face t)) ≡ cond b (Full (f o)) (seen_by_outsider r (g face) t)
seen-with f g r o face true t = refl
seen-with f g r o face false None = refl
seen-with {O} {F} f g r o face false (Some t) =
    let seen : Bool → F → Seen O F = λ b x. cond b (TransferParty x t) (Public x) in
    elim (names r t) as (λ (b : Bool). seen_with f g (seen b face) ≡ seen b (g face)) [ true ↦ refl | false ↦ refl ]

-- ---- a domain that names a host by its new name

-- it names hosts afterwards where it did before
found-some : (xs : List (List ℕ)) (x : List ℕ) → has_name xs x ≡ true → is_empty xs ≡ false
found-some [] x e = absurd cc
found-some (y ∷ ys) x e = grind (arith, nat_tests)

is_empty-renamed : (old new : List ℕ) (hosts : List (List ℕ)) → is_empty (renamed old new hosts) ≡ is_empty hosts
is_empty-renamed old new hosts =
    let others : List (List ℕ) = filter (λ host. not (bytes_eq host old)) hosts in
    cond_both (has_name hosts old) (add (precedes (slice_cmp nat_cmp)) new others) hosts
    (λ names. is_empty names ≡ is_empty hosts)
    (λ e. let some : is_empty (add (precedes (slice_cmp nat_cmp)) new others) ≡ false = grind (arith, nat_tests, length-add new others) in some ∙ sym (found-some hosts old e)) (λ e. refl)

shows-relinked : (old new : List ℕ) (d : Domain) (s : Status) → shows (with_host_renamed old new d) s ≡ shows d s
shows-relinked old new d statuses.Inactive = is_empty-renamed old new d.links.hosts
shows-relinked old new d statuses.Fine = ap (λ (b : Bool). is_empty d.statuses && not b && not (is_some d.deletion) && not (is_pending d.transfer)) (is_empty-renamed old new d.links.hosts)
shows-relinked old new d _ = refl

abbrev relinked_face : List ℕ → List ℕ → DomainFace → DomainFace
relinked_face old new face = record face { links = links_with_host_renamed old new face.links }

abbrev pub relinked_seen : List ℕ → List ℕ → Seen FullDomain DomainFace → Seen FullDomain DomainFace
relinked_seen old new = seen_with (λ (known : FullDomain). full_as known.standing (with_host_renamed old new known.domain)) (relinked_face old new)

face-relinked : (old new : List ℕ) (standing : Standing) (d : Domain) → face_of standing (with_host_renamed old new d) ≡ relinked_face old new (face_of standing d)
face-relinked old new standing d = ap (λ (f : Status → Bool). record (relinked_face old new (face_of standing d)) { statuses = filter f all_statuses }) (λ i s. shows-relinked old new d s i)

-- to relink a domain and to look is to look and to see it relinked
pub seen-relinked : (r : ℕ) (presented : Option (List ℕ)) (old new : List ℕ) (standing : Standing) (d : Domain)
    → domain_as r presented standing (with_host_renamed old new d) ≡ relinked_seen old new (domain_as r presented standing d)
seen-relinked r presented old new standing d =
    let full : Bool = is_party r d.sponsor d.transfer || authorizes presented d.secret in
    ap (λ (face : DomainFace). let seen : Seen FullDomain DomainFace = cond full (Full (full_as standing (with_host_renamed old new d))) (seen_by_outsider r face d.transfer) in seen) (face-relinked old new standing d)
    ∙ sym (seen-with (λ (known : FullDomain). full_as known.standing (with_host_renamed old new known.domain)) (relinked_face old new) r (full_as standing d) (face_of standing d) full d.transfer)

-- ---- a domain with other graces

abbrev pub with_graces : Standing → Graces → Standing
with_graces standing g = record standing { graces = g }

-- Other graces, by what all see of a domain: its sponsor, its ROID, its last completed transfer and its
-- graces.
abbrev pub Regrace : Type 0
Regrace = ℕ → Roid → Option ℕ → Graces → Graces

-- the standing of a domain with other graces
abbrev restood : Regrace → ℕ → Roid → Option ℕ → Standing → Standing
restood regrace sponsor roid transferred standing = with_graces standing (regrace sponsor roid transferred standing.graces)

abbrev restood_face : Regrace → DomainFace → DomainFace
restood_face regrace face = record face { standing = restood regrace face.sponsor face.roid face.transferred face.standing }

abbrev restood_full : Regrace → FullDomain → FullDomain
restood_full regrace known = full_as (restood regrace known.domain.sponsor known.domain.roid known.domain.transferred known.standing) known.domain

abbrev pub regraced : Regrace → Seen FullDomain DomainFace → Seen FullDomain DomainFace
regraced regrace = seen_with (restood_full regrace) (restood_face regrace)

-- to give a domain other graces and to look is to look and to see other graces
pub regraced-seen : (regrace : Regrace) (r : ℕ) (standing : Standing) (d : Domain) (presented : Option (List ℕ))
    → regraced regrace (domain_as r presented standing d) ≡ domain_as r presented (restood regrace d.sponsor d.roid d.transferred standing) d
regraced-seen regrace r standing d presented =
    seen-with (restood_full regrace) (restood_face regrace) r (full_as standing d) (face_of standing d) (is_party r d.sponsor d.transfer || authorizes presented d.secret) d.transfer
