-- Two objects that are one but for what is redacted: what is seen of them, and what is put in their place.
use Rattle.std.proofs.Common.{◌≡◌, ℕ, Bool, true, false, cond, ◌||◌, ◌==◌, List, [], ◌∷◌, Option, Some, None, option_and_then, option_map, refl, sym, ap, subst, ◌∙◌}
use Rattle.rules.specs.Conditions.{is_anothers, is_authorized, last_seen}
use Rattle.isolation.proofs.{ChangeLemmas.{AreAlikeChanges, IsAlikeChange, same-changes}, OwnLemmas.standing-left}
use Rattle.isolation.proofs.RedactionLemmas.{same-contact, same-domain}
use Rattle.isolation.proofs.Words.{get, and_from, false≢true, or_left, or_right, true≢false, same_Some, Registry, standing_of, domain_sight, Contact}
use Rattle.isolation.proofs.Words.{ContactFace, Domain, DomainFace, FullDomain, Seen, Full, TransferParty, Public, Transfer, contact_face_of, face_of}
use Rattle.isolation.proofs.Words.{authorizes, contact_as, is_party, seen_by_outsider, is_incoming, is_pending, is_pending_state, names, PolicyRules}
use Rattle.isolation.proofs.Words.{holds_of, Change, full_as, Objects, AreOne, redacted_contact, redacted_domain}

-- ---- lists of changes that are alike

module _ (p : PolicyRules) (r : ℕ) (touched : Objects) where
  pub alike-turned : (x y : Change) → IsAlikeChange p r touched x y → IsAlikeChange p r touched y x
  alike-turned x y alike = record { leaves = λ s t one. sym (alike.leaves t s (sym one)) }

  pub alike-then : (x y z : Change) → IsAlikeChange p r touched x y → IsAlikeChange p r touched y z → IsAlikeChange p r touched x z
  alike-then x y z first second = record { leaves = λ s t one. first.leaves s t one ∙ second.leaves t t refl }

  pub lists-turned : (xs ys : List Change) → AreAlikeChanges p r touched xs ys → AreAlikeChanges p r touched ys xs
  lists-turned [] [] alike = tt
  lists-turned (x ∷ xs) (y ∷ ys) alike = (alike-turned x y alike.0, lists-turned xs ys alike.1)
  lists-turned xs ys alike = absurd alike

  pub lists-then : (xs ys zs : List Change) → AreAlikeChanges p r touched xs ys → AreAlikeChanges p r touched ys zs → AreAlikeChanges p r touched xs zs
  lists-then [] [] zs first second = second
  lists-then (x ∷ xs) (y ∷ ys) (z ∷ zs) first second = (alike-then x y z first.0 second.0, lists-then xs ys zs first.1 second.1)
  lists-then (x ∷ xs) (y ∷ ys) zs first second = absurd second
  lists-then xs ys zs first second = absurd first

  pub equal-lists : (xs ys : List Change) → xs ≡ ys → AreAlikeChanges p r touched xs ys
  equal-lists xs ys same = subst (λ (zs : List Change). AreAlikeChanges p r touched xs zs) same (same-changes p r touched xs)

  pub no-changes : (xs ys : List Change) → xs ≡ [] → ys ≡ [] → AreAlikeChanges p r touched xs ys
  no-changes xs ys first second = equal-lists xs ys (first ∙ sym second)

  -- what is alike for an object and for what is left of it is alike for two of which the same is left
  pub across : {X : Type 0} (out : X → X) (mine yours : X → List Change) (a b : X) → out a ≡ out b
      → AreAlikeChanges p r touched (mine a) (yours (out a)) → AreAlikeChanges p r touched (yours b) (yours (out b)) → AreAlikeChanges p r touched (mine a) (yours b)
  across out mine yours a b same here there =
      lists-then (mine a) (yours (out b)) (yours b)
      (subst (λ (zs : List Change). AreAlikeChanges p r touched (mine a) zs) (ap yours same) here)
      (lists-turned (yours b) (yours (out b)) there)

  pub through : {X : Type 0} (out : X → X) (changes : X → List Change) (a b : X) → out a ≡ out b
      → AreAlikeChanges p r touched (changes a) (changes (out a)) → AreAlikeChanges p r touched (changes b) (changes (out b)) → AreAlikeChanges p r touched (changes a) (changes b)
  through out changes = across out changes changes

-- ---- what is seen of an object

-- an object, in full or by an outsider
abbrev pub seen_if : {O F : Type 0} → ℕ → Bool → O → F → Option Transfer → Seen O F
seen_if q whole o face last = cond whole (Full o) (seen_by_outsider q face last)

-- nothing is changed of what isn't seen in full
pub record IsClosed {O F : Type 0} (changes : Option (Seen O F) → List Change) : Type 0 where
  pub none : changes None ≡ []
  pub party : (face : F) (x : Transfer) → changes (Some (TransferParty face x)) ≡ []
  pub public : (face : F) → changes (Some (Public face)) ≡ []

pub outside-closed : {O F : Type 0} (changes : Option (Seen O F) → List Change) → IsClosed changes → (q : ℕ) (face : F) (last : Option Transfer) → changes (Some (seen_by_outsider q face last)) ≡ []
outside-closed changes closed q face None = closed.public face
outside-closed {O} {F} changes closed q face (Some x) = by (names q x)
  where
    by : (b : Bool) → (let seen : Seen O F = cond b (TransferParty face x) (Public face) in changes (Some seen)) ≡ []
    by true = closed.party face x
    by false = closed.public face

module _ {O F : Type 0} (q : ℕ) (o : O) (face : F) (last : Option Transfer) where
  outside-anothers : (sponsor : O → ℕ) (l : Option Transfer) → is_anothers sponsor q (Some (let seen : Seen O F = seen_by_outsider q face l in seen)) ≡ true
  outside-anothers sponsor None = refl
  outside-anothers sponsor (Some x) = elim (names q x) as (λ (b : Bool). let seen : Seen O F = cond b (TransferParty face x) (Public face) in is_anothers sponsor q (Some seen) ≡ true) [ true ↦ refl | false ↦ refl ]

  outside-unauthorized : (secret_of : O → List ℕ) (secret : Option (List ℕ)) (l : Option Transfer) → holds_of (is_authorized secret_of secret) (Some (let seen : Seen O F = seen_by_outsider q face l in seen)) ≡ false
  outside-unauthorized secret_of secret None = refl
  outside-unauthorized secret_of secret (Some x) = elim (names q x) as (λ (b : Bool). let seen : Seen O F = cond b (TransferParty face x) (Public face) in holds_of (is_authorized secret_of secret) (Some seen) ≡ false) [ true ↦ refl | false ↦ refl ]

  -- what a registrar sponsors it sees in full
  pub own-open : (sponsor : O → ℕ) (whole : Bool) → is_anothers sponsor q (Some (let seen : Seen O F = seen_if q whole o face last in seen)) ≡ false → whole ≡ true
  own-open sponsor true e = refl
  own-open sponsor false e = absurd (true≢false (sym (outside-anothers sponsor last) ∙ e))

  -- and what its secret opens
  pub authorized-open : (secret_of : O → List ℕ) (secret : Option (List ℕ)) (whole : Bool) → holds_of (is_authorized secret_of secret) (Some (let seen : Seen O F = seen_if q whole o face last in seen)) ≡ true → whole ≡ true
  authorized-open secret_of secret true e = refl
  authorized-open secret_of secret false e = absurd (false≢true (sym (outside-unauthorized secret_of secret last) ∙ e))

-- and what a pending transfer brings to it
module _ {O F : Type 0} (q : ℕ) (o : O) (face : F) (transfer_of : O → Option Transfer) where
  requested-by : (l : Option Transfer) → holds_of (λ x. x.requester == q) (option_and_then (last_seen transfer_of) (Some (let seen : Seen O F = seen_by_outsider q face l in seen))) ≡ true
      → is_pending (option_and_then (last_seen transfer_of) (Some (let seen : Seen O F = seen_by_outsider q face l in seen))) ≡ true → is_incoming q l ≡ true
  requested-by None e pending = absurd cc
  requested-by (Some x) e pending = by (names q x) e pending
    where
      by : (b : Bool) → holds_of (λ x. x.requester == q) (option_and_then (last_seen transfer_of) (Some (let seen : Seen O F = cond b (TransferParty face x) (Public face) in seen))) ≡ true
          → is_pending (option_and_then (last_seen transfer_of) (Some (let seen : Seen O F = cond b (TransferParty face x) (Public face) in seen))) ≡ true → is_incoming q (Some x) ≡ true
      by true e pending = and_from (is_pending_state x.state) (x.requester == q) pending e
      by false e pending = absurd cc

  pub requester-open : (sponsor : ℕ) (opened whole : Bool) → (is_party q sponsor (transfer_of o) || opened) ≡ whole
      → holds_of (λ x. x.requester == q) (option_and_then (last_seen transfer_of) (Some (let seen : Seen O F = seen_if q whole o face (transfer_of o) in seen))) ≡ true
      → is_pending (option_and_then (last_seen transfer_of) (Some (let seen : Seen O F = seen_if q whole o face (transfer_of o) in seen))) ≡ true → whole ≡ true
  requester-open sponsor opened true is e pending = refl
  requester-open sponsor opened false is e pending = sym is ∙ or_left _ opened (or_right (sponsor == q) _ (requested-by (transfer_of o) e pending))

-- ---- pairs of objects under one name

-- of which the same is left, where both are seen in full or neither is
module _ (p : PolicyRules) (r q : ℕ) (touched : Objects) {X O F : Type 0} (out : X → X) (last : X → Option Transfer) (o o_too : X → O) (face face_too : X → F) (whole whole_too : X → Bool)
    (xs ys : Option (Seen O F) → List Change) (closed : IsClosed xs) (closed_too : IsClosed ys) (seen seen_too : Option (Seen O F))
    (opens : (c d : X) → out c ≡ out d → seen ≡ Some (seen_if q (whole c) (o c) (face c) (last c)) → seen_too ≡ Some (seen_if q (whole_too d) (o_too d) (face_too d) (last d)) → whole c ≡ whole_too d)
    (full : (c d : X) → out c ≡ out d → seen ≡ Some (Full (o c)) → seen_too ≡ Some (Full (o_too d)) → AreAlikeChanges p r touched (xs (Some (Full (o c)))) (ys (Some (Full (o_too d))))) where
  pair-by : (c d : X) → out c ≡ out d → (w v : Bool) → seen ≡ Some (seen_if q w (o c) (face c) (last c)) → seen_too ≡ Some (seen_if q v (o_too d) (face_too d) (last d)) → w ≡ v
      → AreAlikeChanges p r touched (xs seen) (ys seen_too)
  pair-by c d same true true e f both =
      subst (λ (x : Option (Seen O F)). AreAlikeChanges p r touched (xs x) (ys seen_too)) (sym e)
      (subst (λ (y : Option (Seen O F)). AreAlikeChanges p r touched (xs (Some (Full (o c)))) (ys y)) (sym f) (full c d same e f))
  pair-by c d same false false e f both = no-changes p r touched _ _ (ap xs e ∙ outside-closed xs closed q (face c) (last c)) (ap ys f ∙ outside-closed ys closed_too q (face_too d) (last d))
  pair-by c d same w v e f both = absurd cc

  pair : (a b : Option X) → option_map out a ≡ option_map out b → seen ≡ option_map (λ c. seen_if q (whole c) (o c) (face c) (last c)) a
      → seen_too ≡ option_map (λ d. seen_if q (whole_too d) (o_too d) (face_too d) (last d)) b → AreAlikeChanges p r touched (xs seen) (ys seen_too)
  pair None None same e f = no-changes p r touched _ _ (ap xs e ∙ closed.none) (ap ys f ∙ closed_too.none)
  pair (Some c) (Some d) same e f = let alike : out c ≡ out d = same_Some _ _ same in pair-by c d alike (whole c) (whole_too d) e f (opens c d alike e f)
  pair a b same e f = absurd cc

module _ (p : PolicyRules) (r q : ℕ) (touched : Objects) (s t : Registry) (one : AreOne r touched s t) (name : List ℕ) where
  -- standings are the same
  pub same-standing : (d e : Domain) → redacted_domain r touched d ≡ redacted_domain r touched e → standing_of p s d ≡ standing_of p t e
  same-standing d e same =
      sym (standing-left p r touched s d)
      ∙ (λ i. standing_of p (one i) (same i))
      ∙ standing-left p r touched t e

  module _ (mine yours : Option (List ℕ)) where
    pub contact-pair : (xs ys : Option (Seen Contact ContactFace) → List Change) → IsClosed xs → IsClosed ys → (seen seen_too : Option (Seen Contact ContactFace))
        → seen ≡ option_map (contact_as q mine) (get s.contacts name) → seen_too ≡ option_map (contact_as q yours) (get t.contacts name)
        → ((c d : Contact) → redacted_contact r touched c ≡ redacted_contact r touched d → seen ≡ Some (contact_as q mine c) → seen_too ≡ Some (contact_as q yours d)
        → (is_party q c.sponsor c.transfer || authorizes mine c.secret) ≡ (is_party q d.sponsor d.transfer || authorizes yours d.secret))
        → ((c d : Contact) → redacted_contact r touched c ≡ redacted_contact r touched d → seen ≡ Some (Full c) → seen_too ≡ Some (Full d)
        → AreAlikeChanges p r touched (xs (Some (Full c))) (ys (Some (Full d)))) → AreAlikeChanges p r touched (xs seen) (ys seen_too)
    contact-pair xs ys closed closed_too seen seen_too is is_too opens full =
        pair p r q touched (redacted_contact r touched) (λ c. c.transfer) (λ c. c) (λ d. d) contact_face_of contact_face_of
        (λ c. is_party q c.sponsor c.transfer || authorizes mine c.secret) (λ d. is_party q d.sponsor d.transfer || authorizes yours d.secret)
        xs ys closed closed_too seen seen_too opens full (get s.contacts name) (get t.contacts name) (same-contact r touched s t one name) is is_too

    pub domain-pair : (xs ys : Option (Seen FullDomain DomainFace) → List Change) → IsClosed xs → IsClosed ys → (seen seen_too : Option (Seen FullDomain DomainFace))
        → seen ≡ option_map (domain_sight p q s mine) (get s.domains name) → seen_too ≡ option_map (domain_sight p q t yours) (get t.domains name)
        → ((c d : Domain) → redacted_domain r touched c ≡ redacted_domain r touched d → seen ≡ Some (domain_sight p q s mine c) → seen_too ≡ Some (domain_sight p q t yours d)
        → (is_party q c.sponsor c.transfer || authorizes mine c.secret) ≡ (is_party q d.sponsor d.transfer || authorizes yours d.secret))
        → ((c d : Domain) → redacted_domain r touched c ≡ redacted_domain r touched d → seen ≡ Some (Full (full_as (standing_of p s c) c)) → seen_too ≡ Some (Full (full_as (standing_of p t d) d))
        → AreAlikeChanges p r touched (xs (Some (Full (full_as (standing_of p s c) c)))) (ys (Some (Full (full_as (standing_of p t d) d))))) → AreAlikeChanges p r touched (xs seen) (ys seen_too)
    domain-pair xs ys closed closed_too seen seen_too is is_too opens full =
        pair p r q touched (redacted_domain r touched) (λ d. d.transfer) (λ d. full_as (standing_of p s d) d) (λ d. full_as (standing_of p t d) d) (λ d. face_of (standing_of p s d) d) (λ d. face_of (standing_of p t d) d)
        (λ c. is_party q c.sponsor c.transfer || authorizes mine c.secret) (λ d. is_party q d.sponsor d.transfer || authorizes yours d.secret)
        xs ys closed closed_too seen seen_too opens full (get s.domains name) (get t.domains name) (same-domain r touched s t one name) is is_too
