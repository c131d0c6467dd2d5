-- What holds of no change, and of what each command changes that isn't refused, holds of what a command changes.
use Rattle.std.proofs.Common.{◌≡◌, ◌≢◌, ◌⊎◌, inl, inr, ℕ, Bool, true, false, not, ◌&&◌, ◌||◌, nat_lt, List, [], ◌∷◌, Option, Some, None, is_none, is_some, option_and_then, option_map, refl, sym, ap, subst, ◌∙◌, if◌then◌else◌}
use Rattle.std.proofs.Common.{◌+◌, ◌≤◌, length, cond, arith}
use Rattle.decisions.proofs.Words.{ClientCancelled, domain_seen, is_pending_state, PendingTransfer, restored_domain, restoring_domain, superordinate_of_domain}
use Rattle.decisions.proofs.Words.{ClientApproved, ClientRejected, deleted_domain, domain_sponsor, DomainFacts, renewed_domain, transfer_after, updated_domain}
use Rattle.decisions.proofs.Words.{Asked, ContactFacts, ContactUpdate, domain_sight, PendingDelete, RefundRunning, RequestedName, Superordinate, TransferState}
use Rattle.decisions.proofs.Words.{Change, DomainUpdate, DropContact, DropDomain, FullDomain, goes_at_once, HostUpdate, keeps_domain, last_two_of, PolicyRules}
use Rattle.decisions.proofs.Words.{charge_of, Full, is_pending, keeps_host, new_domain, NewContact, plus_years, PutContact, RenameHost, TakeSerial, TransferOp}
use Rattle.decisions.proofs.Words.{Ack, DropHost, eqb-false, HostFacts, is_locked, NewDomain, not-false, presented, PutDomain, refund_at, requested, unrefused}
use Rattle.decisions.proofs.Words.{charge, Contact, holds_of, is_empty, LineKind, list_any, lookups, name_of, or_parts, Registry, StandsIn, table_of, Transfer}
use Rattle.decisions.proofs.Words.{Domain, ended, Facts, facts, get, Host, judged, NewHost, Post, PutHost, Request, Roid}
use Rattle.decisions.proofs.CommandLemmas.{Covers, DomainSight, IsTaken, contact-at, domain-at, domain-full, host-at, known, owned, where-contact, where-domain, where-seen}
use Rattle.decisions.proofs.Words.{cents_of, Charge, cond_both, deposit_line, deposited, deposited_to, has_id, is_accepted}
use Rattle.decisions.proofs.Words.{IsRegistrar, ltb-true, ObjectKind, Order, order_changes, order_decision, ordered, place_of, position_or_len}
use Rattle.accounts.specs.declared.line.LineKind.TheVariants as lines
use Rattle.facts.specs.Facts.{domain_at, domain_facts, host_facts, host_seen, is_inside, is_linked_contact, is_linked_host, subordinate}
use Rattle.objects.specs.declared.roid.ObjectKind.TheVariants as kinds
use Rattle.protocol.specs.declared.command.Request.TheVariants as requests
use Rattle.protocol.specs.declared.transfer.TransferOp.TheVariants as ops
use Rattle.protocol.specs.Requests.{asks_of, domains_asked, final_name, hosts_asked, of_domain, of_host}
use Rattle.protocol.specs.{declared.order.StatusOrder.StatusOrder, Orders.name_ordered}
use Rattle.decisions.specs.Changes.{in_full}
use Rattle.decisions.specs.Decisions.{changes_after, changes_of, deletion_at, ending, external_sponsor_after, host_changes, new_contact, new_host, new_roid, renaming, updated_contact, updated_host}
use Rattle.decisions.specs.Transfers.{contact_transferred, contact_transferred_if, contact_with_transfer}
use Rattle.decisions.specs.Transfers.{domain_transferred, domain_transferred_if, domain_with_transfer, give_back, tell}
use Rattle.accounts.specs.declared.message.CommandNotice.{CommandNotice}
use Rattle.accounts.specs.declared.message.CommandNotice.TheVariants as notices
use Rattle.accounts.specs.declared.message.Subject.TheVariants as subjects
use Rattle.decisions.proofs.{AcceptedLemmas.where-accepted, NamedLemmas.none-is}
use Rattle.rules.specs.declared.rules.Condition.{Condition}
use Rattle.rules.specs.Conditions.{any_host_refused, are_too_long, contact_is_linked, domain_has, domain_in_full, domain_is_over, domain_is_refused, domain_seen_shows, domain_transfer, has_no_superordinate, holds, host_has, host_is_over, host_is_refused, is_anothers, is_own, is_shown, last_seen, leaves_too_many, list_repeats, renewed_expiry, superordinate_is_deleted}
use Rattle.rules.specs.Orders.{order_code}
use Rattle.rules.specs.declared.rules.Condition.TheVariants as conditions
use Rattle.model.specs.{Objects.{object_at, object_ordered}}
use Rattle.model.specs.declared.object.Object.TheVariants as objects
use Rattle.protocol.specs.declared.order.Order.TheVariants as orders

-- what holds where nothing is, and of what is there, holds
some-or : {X : Type 0} (Q : Option X → Type 0) → Q None → (o : Option X) → ((x : X) → o ≡ Some x → Q (Some x)) → Q o
some-or Q none None some = none
some-or Q none (Some x) some = some x refl

-- ---- what holds of no change, and of what each order changes that is carried out, holds of what an order changes

module _ (p : PolicyRules) (s : Registry) (P : List Change → Type 0) where
  pub record OrderCases : Type 0 where
    pub none : P []
    pub contact_set : (o : StatusOrder) (name : List ℕ) (c : Contact) → get s.contacts name ≡ Some c → P (PutContact (record c { statuses = ordered o c.statuses }) ∷ [])
    pub domain_set : (o : StatusOrder) (name : List ℕ) (d : Domain) → get s.domains name ≡ Some d → P (PutDomain (record d { statuses = ordered o d.statuses }) ∷ [])
    pub host_set : (o : StatusOrder) (name : List ℕ) (h : Host) → get s.hosts name ≡ Some h → P (PutHost (record h { statuses = ordered o h.statuses }) ∷ [])
    pub paid_in : (r cents : ℕ) → IsRegistrar p r → P (Post r (Charge (deposit_line s.clock cents)) ∷ [])

placed : (k n r : ℕ) (b : Bool) → nat_lt k n ≡ b → option_map (λ (i : ℕ). i + 1) (cond b (Some k) None) ≡ Some r → (1 ≤ r) × (r ≤ n)
placed k n r true e f = let is : k + 1 ≡ r = cc in (omega (arith, is), omega (arith, is, ltb-true k n e))
placed k n r false e f = absurd cc

-- a registrar that is found by its id is one
place_of-is : (p : PolicyRules) (id : List ℕ) (r : ℕ) → place_of id p ≡ Some r → IsRegistrar p r
place_of-is p id r e = placed (position_or_len (has_id id) p.ids) (length p.ids) r (nat_lt (position_or_len (has_id id) p.ids) (length p.ids)) refl e

module _ (p : PolicyRules) (s : Registry) (P : List Change → Type 0) (cases : OrderCases p s P) where
  set-at : (o : StatusOrder) (kind : ObjectKind) (name : Option (List ℕ)) → P (order_changes o (option_and_then (object_at s kind) name))
  set-at o kind None = cases.none
  set-at o kinds.Contact (Some name) = some-or (λ found. P (order_changes o (option_map objects.Contact found))) cases.none (get s.contacts name) (cases.contact_set o name)
  set-at o kinds.Domain (Some name) = some-or (λ found. P (order_changes o (option_map objects.Domain found))) cases.none (get s.domains name) (cases.domain_set o name)
  set-at o kinds.Host (Some name) = some-or (λ found. P (order_changes o (option_map objects.Host found))) cases.none (get s.hosts name) (cases.host_set o name)

  pub order-cases : (order : Order) → P (order_decision p order s).changes
  order-cases (orders.Status o) =
      let found = object_ordered p.zone o s in
      cond_both (is_accepted (order_code o found)) (order_changes o found) [] P
      (λ e. set-at o o.kind (name_ordered p.zone o)) (λ e. cases.none)
  order-cases (orders.Deposit id cents) =
      some-or (λ cents. P (deposited p s.clock id cents).changes) cases.none (cents_of cents) (λ cents e.
      some-or (λ place. P (deposited_to s.clock cents place).changes) cases.none (place_of id p) (λ r e. cases.paid_in r cents (place_of-is p id r e)))

-- ---- what is so of a request that isn't refused

-- the lists that a request adds name nothing twice, and none is longer than may be
pub record AreListsFit (q : Request) : Type 0 where
  pub once : list_repeats (asks_of q).adds ≡ false
  pub short : are_too_long (asks_of q).adds ≡ false

-- the superordinate domain of a host that is to have a name
abbrev pub found_above : Registry → Option (List ℕ) → Option Superordinate
found_above s domain = option_and_then (λ n. option_map superordinate_of_domain (get s.domains n)) domain

-- it is there where the zone asks for one, and isn't deleted (RFC 5732, 3.2.1; RFC 5731, 2.3)
pub record IsBased (p : PolicyRules) (s : Registry) (name : List ℕ) : Type 0 where
  pub based : (is_inside p.zone name && is_none (found_above s (last_two_of name))) ≡ false
  pub alive : (is_inside p.zone name && holds_of (λ (above : Superordinate). above.is_deleted) (found_above s (last_two_of name))) ≡ false

-- a domain that is deleted is the registrar's own, and has neither subordinate hosts nor a pending transfer
pub record IsDeletable (r : ℕ) (s : Registry) (name : List ℕ) (d : Domain) : Type 0 where
  pub at : get s.domains name ≡ Some d
  pub own : r ≡ d.sponsor
  pub alone : is_empty (subordinate s name) ≡ true
  pub still : is_pending d.transfer ≡ false

-- an update of a domain adds what isn't there, and leaves no more than may be
pub record IsUpdateOf (s : Registry) (u : DomainUpdate) (d : Domain) : Type 0 where
  pub at : get s.domains (name_of u.name) ≡ Some d
  pub once : list_repeats (of_domain u.add) ≡ false
  pub new : domain_has (of_domain u.add) d ≡ false
  pub few : domain_is_over (of_domain u.rem) (of_domain u.add) d ≡ false

-- so does one of a host, whose name the zone keeps afterwards
pub record IsHostUpdateOf (p : PolicyRules) (s : Registry) (u : HostUpdate) (given : Option RequestedName) (h : Host) : Type 0 where
  pub at : get s.hosts (name_of u.name) ≡ Some h
  pub is : u.new_name ≡ given
  pub kept : keeps_host p.zone (final_name u given) ≡ true
  pub once : list_repeats (of_host u.add) ≡ false
  pub new : host_has (of_host u.add) h ≡ false
  pub few : host_is_over (of_host u.rem) (of_host u.add) h ≡ false

-- a domain that is charged for is the registrar's own, which has the money
pub record IsPayable (p : PolicyRules) (r : ℕ) (cl_trid : Option (List ℕ)) (s : Registry) (q : Request) (name : List ℕ) (d : Domain) : Type 0 where
  pub at : get s.domains name ≡ Some d
  pub own : r ≡ d.sponsor
  pub paid : Covers r s (charge_of p s.clock q (known p r cl_trid s q))

-- A domain that can be asked for: another sponsors it, no transfer of it is pending, it isn't deleted, and its lock is over.
pub record IsAskable (p : PolicyRules) (r t : ℕ) (d : Domain) : Type 0 where
  pub other : r ≢ d.sponsor
  pub over : is_pending d.transfer ≡ false
  pub undeleted : d.deletion ≡ None
  pub unlocked : is_locked p t d ≡ false

-- one of the two sides of a transfer
abbrev pub IsSide : Transfer → ℕ → Type 0
IsSide x to = (to ≡ x.requester) ⊎ (to ≡ x.losing_registrar)

-- a host after an update, where this new name is given
abbrev pub host_with : PolicyRules → ℕ → ℕ → HostUpdate → Option RequestedName → Host → Host
host_with p r t u given h = record (updated_host p.zone r t u h) { name = final_name u given; external_sponsor = external_sponsor_after p.zone r given h.external_sponsor }

-- ---- the cases

module _ (p : PolicyRules) (r : ℕ) (cl_trid : Option (List ℕ)) (s : Registry) (P : Request → List Change → Type 0) where
  abbrev facts_of : Request → Facts
  facts_of q = known p r cl_trid s q

  -- what is charged to the registrar, and what a deletion gives it back
  abbrev charged : LineKind → Request → Roid → Change
  charged kind q roid = charge kind p r s.clock roid q (facts_of q)

  abbrev refunded : Domain → Change
  refunded d = Post r (RefundRunning (refund_at s.clock d))

  -- what an operation on a domain's transfer changes, where it leaves this transfer
  abbrev left : TransferOp → Request → Transfer → Domain → List Change
  left op q x d = domain_transferred p r s.clock op q (facts_of q) x d

  -- of contacts, and of hosts
  pub record ContactCases : Type 0 where
    pub created : (new : NewContact) → let q : Request = requests.CreateContact new in
        P q (PutContact (new_contact r s.clock (facts_of q) new) ∷ Post r TakeSerial ∷ [])
    pub dropped : (name : List ℕ) → is_linked_contact s name ≡ false → P (requests.DeleteContact name) (DropContact name ∷ [])
    pub updated : (u : ContactUpdate) (c : Contact) → get s.contacts u.name ≡ Some c
        → P (requests.UpdateContact u) (PutContact (updated_contact s.clock u c) ∷ [])
    pub asked : (q : Request) (name : List ℕ) (c : Contact) → get s.contacts name ≡ Some c
        → P q (contact_transferred s.clock ops.Request (requested p r c.sponsor s.clock) c)
    pub approved : (q : Request) (name : List ℕ) (c : Contact) → get s.contacts name ≡ Some c → (y : Transfer) → c.transfer ≡ Some y
        → P q (contact_transferred s.clock ops.Approve (ended ClientApproved s.clock y) c)
    -- rejected or withdrawn, of which the other side is told
    pub turned_down : (q : Request) (name : List ℕ) (c : Contact) → get s.contacts name ≡ Some c → (y : Transfer) → c.transfer ≡ Some y
        → (state : TransferState) (to : ℕ) (notice : CommandNotice) → is_pending_state state ≡ false → IsSide y to
        → P q (PutContact (contact_with_transfer (ended state s.clock y) c) ∷ tell to s.clock notice c.name subjects.Contact ∷ [])

  pub record HostCases : Type 0 where
    pub created : (new : NewHost) → let q : Request = requests.CreateHost new in
        keeps_host p.zone (name_of new.name) ≡ true → AreListsFit q → IsBased p s (name_of new.name)
        → P q (PutHost (new_host p.zone r s.clock (facts_of q) new) ∷ Post r TakeSerial ∷ [])
    pub dropped : (name : RequestedName) → is_linked_host s (name_of name) ≡ false
        → P (requests.DeleteHost name) (DropHost (name_of name) ∷ [])
    pub updated : (u : HostUpdate) (h : Host) → IsHostUpdateOf p s u None h
        → P (requests.UpdateHost u) (PutHost (host_with p r s.clock u None h) ∷ [])
    pub renamed : (u : HostUpdate) (name : RequestedName) (h : Host) → IsHostUpdateOf p s u (Some name) h
        → is_some (get s.hosts (name_of name)) ≡ false → IsBased p s (name_of name)
        → P (requests.UpdateHost u) (RenameHost (name_of u.name) (host_with p r s.clock u (Some name) h) ∷ [])

  pub record CommandCases : Type 0 where
    pub contacts : ContactCases
    pub hosts : HostCases
    pub none : (q : Request) → P q []
    pub acknowledged : (id : List ℕ) → P (requests.PollAck id) (Post r (Ack id) ∷ [])
    pub domain_created : (new : NewDomain) → let q : Request = requests.CreateDomain new in
        keeps_domain p.zone (name_of new.name) ≡ true → AreListsFit q → (facts_of q).reference_missing ≡ false
        → Covers r s (charge_of p s.clock q (facts_of q))
        → P q (PutDomain (new_domain r s.clock (facts_of q) new) ∷ Post r TakeSerial ∷ charged lines.Create q (new_roid kinds.Domain r (facts_of q)) ∷ [])
    pub domain_dropped : (name : RequestedName) (d : Domain) → IsDeletable r s (name_of name) d
        → P (requests.DeleteDomain name) (DropDomain (name_of name) ∷ refunded d ∷ [])
    pub domain_deleted : (name : RequestedName) (d : Domain) (years : ℕ) → IsDeletable r s (name_of name) d
        → P (requests.DeleteDomain name) (PutDomain (deleted_domain s.clock years d) ∷ refunded d ∷ [])
    pub domain_updated : (u : DomainUpdate) (d : Domain) → IsUpdateOf s u d → (facts_of (requests.UpdateDomain u)).reference_missing ≡ false
        → P (requests.UpdateDomain u) (PutDomain (updated_domain s.clock u d) ∷ [])
    pub renewed : (name : RequestedName) (expires : List ℕ) (years : ℕ) (d : Domain) → let q : Request = requests.RenewDomain name expires years in
        IsPayable p r cl_trid s q (name_of name) d → nat_lt (plus_years s.clock 10) (renewed_expiry years d) ≡ false
        → P q (PutDomain (renewed_domain s.clock years d) ∷ charged lines.Renew q d.roid ∷ [])
    pub restoring : (name : RequestedName) (d : Domain) → get s.domains (name_of name) ≡ Some d
        → P (requests.RequestRestore name) (PutDomain (restoring_domain s.clock d) ∷ [])
    pub restored : (name : RequestedName) (del_time res_time : ℕ) (d : Domain) → let q : Request = requests.ReportRestore name del_time res_time in
        IsPayable p r cl_trid s q (name_of name) d → P q (PutDomain (restored_domain s.clock d) ∷ charged lines.Restore q d.roid ∷ [])
    pub domain_asked : (q : Request) (name : List ℕ) (d : Domain) → get s.domains name ≡ Some d → IsAskable p r s.clock d
        → Covers r s (charge_of p s.clock q (facts_of q))
        → P q (left ops.Request q (requested p r d.sponsor s.clock) d)
    pub domain_approved : (q : Request) (name : List ℕ) (d : Domain) → get s.domains name ≡ Some d → (y : Transfer)
        → d.transfer ≡ Some y → is_pending_state y.state ≡ true → r ≡ d.sponsor
        → P q (left ops.Approve q (ended ClientApproved s.clock y) d)
    pub domain_turned_down : (q : Request) (name : List ℕ) (d : Domain) → get s.domains name ≡ Some d → (y : Transfer) → d.transfer ≡ Some y → is_pending_state y.state ≡ true
        → (state : TransferState) (to : ℕ) (notice : CommandNotice) → is_pending_state state ≡ false → (state ≡ ClientRejected) ⊎ (state ≡ ClientCancelled) → IsSide y to
        → P q (PutDomain (domain_with_transfer (ended state s.clock y) d) ∷ give_back y.requester s.clock d.roid ∷ tell to s.clock notice d.name subjects.Domain ∷ [])

-- a transfer that is pending is there
pending-is : (o : Option Transfer) (A : Type 0) → is_pending o ≡ true → ((y : Transfer) → o ≡ Some y → is_pending_state y.state ≡ true → A) → A
pending-is None A pending h = absurd (let never : false ≡ true = pending in cc)
pending-is (Some y) A pending h = h y refl pending

-- ---- each command

module _ (p : PolicyRules) (r : ℕ) (cl_trid : Option (List ℕ)) (s : Registry) (P : Request → List Change → Type 0) (cases : CommandCases p r cl_trid s P) where
  abbrev facts_for : Request → Facts
  facts_for q = known p r cl_trid s q

  abbrev Took : Request → Type 0
  Took q = IsTaken p r cl_trid s q

  -- a condition of the table of a request that isn't refused doesn't hold
  free : (q : Request) → Took q → (condition : Condition) → StandsIn (table_of q) condition → holds p r s.clock q (facts_for q) condition ≡ false
  free q taken = unrefused p r s.clock q (facts_for q) taken

  -- what a request changes of a domain that it sees in full
  in-full : (q : Request) (name : RequestedName) (changes : FullDomain → List Change) → domains_asked q ≡ name ∷ []
      → ((full : FullDomain) → get s.domains (name_of name) ≡ Some full.domain → domain_seen (facts_for q) (name_of name) ≡ Some (Full full) → P q (changes full))
      → P q (in_full changes (domain_seen (facts_for q) (name_of name)))
  in-full q name changes only full = where-domain p r cl_trid s q (P q) changes name only (cases.none q) full

  -- ---- new objects

  lists-fit : (q : Request) → (list_repeats (asks_of q).adds || list_repeats (asks_of q).removes) ≡ false → leaves_too_many q (facts_for q) ≡ false → AreListsFit q
  lists-fit q repeats many = record { once = (or_parts (list_repeats (asks_of q).adds) _ repeats).0; short = (or_parts (are_too_long (asks_of q).adds) _ many).0 }

  -- ---- deletes

  module _ (name : RequestedName) (taken : Took (requests.DeleteDomain name)) where
    abbrev deletion : Request
    deletion = requests.DeleteDomain name

    -- what is known at the name
    abbrev it : DomainFacts
    it = domain_facts (lookups p r (Asked cl_trid deletion) s) (Asked cl_trid deletion) (name_of name)

    it-is : domain_at (facts_for deletion) (name_of name) ≡ Some it
    it-is = domain-at p r cl_trid s deletion name refl

    deletable : (full : FullDomain) → it.seen ≡ Some (Full full) → IsDeletable r s (name_of name) full.domain
    unfolding domain_seen_shows
    deletable full e =
        let at : get s.domains (name_of name) ≡ Some full.domain = domain-full p r s (presented (Asked cl_trid deletion) (name_of name)) (get s.domains (name_of name)) full e in
        let seen : domain_seen (facts_for deletion) (name_of name) ≡ Some (Full full) = ap (option_and_then (λ (known : DomainFacts). known.seen)) it-is ∙ e in
        let below : it.subordinate ≡ subordinate s (name_of name) =
        ap (λ (o : Option Domain). if is_some (option_map (domain_sight p r s (presented (Asked cl_trid deletion) (name_of name))) o) then subordinate s (name_of name) else []) at in
        record {
          at = at;
          own = owned r (domain_seen (facts_for deletion) (name_of name)) full seen _ (free deletion taken conditions.IsAnothers (search (inl, inr) depth 20));
          alone = not-false (is_empty (subordinate s (name_of name))) (sym (ap (λ (names : List (List ℕ)). not (is_empty names)) below)
              ∙ sym (ap (holds_of (λ (known : DomainFacts). not (is_empty known.subordinate))) it-is) ∙ free deletion taken conditions.HasSubordinates (search (inl, inr) depth 20));
          still = (or_parts (domain_seen_shows (Full full) PendingTransfer) false
              (sym (ap (λ (o : DomainSight). is_shown domain_seen_shows PendingTransfer o || false) seen) ∙ free deletion taken (conditions.Shows PendingTransfer) (search (inl, inr) depth 20))).0;
        }

    by-phase : (full : FullDomain) → it.seen ≡ Some (Full full) → (at_once : Bool) → P deletion (ending at_once s.clock it full.domain ∷ Post r (RefundRunning (refund_at s.clock full.domain)) ∷ [])
    by-phase full e true = cases.domain_dropped name full.domain (deletable full e)
    by-phase full e false = cases.domain_deleted name full.domain it.given_back.years (deletable full e)

  -- ---- updates

  module _ (u : HostUpdate) (taken : Took (requests.UpdateHost u)) where
    abbrev update : Request
    update = requests.UpdateHost u

    -- what is known at a new name
    abbrev at_new : Option RequestedName → Option HostFacts
    at_new given = option_map (λ (name : RequestedName). host_facts (lookups p r (Asked cl_trid update) s) (Asked cl_trid update) (name_of name)) given

    abbrev IsFree : Option RequestedName → Type 0
    IsFree given = is_some (option_and_then (λ (it : HostFacts). it.host) (at_new given)) ≡ false

    seen-is : host_seen (facts_for update) (name_of u.name) ≡ get s.hosts (name_of u.name)
    seen-is = ap (option_and_then (λ (it : HostFacts). it.host)) (host-at p r cl_trid s update u.name refl)

    kept-name : (given : Option RequestedName) → host_is_refused p.zone u.name ≡ false → holds_of (host_is_refused p.zone) given ≡ false → keeps_host p.zone (final_name u given) ≡ true
    kept-name None old new = not-false _ old
    kept-name (Some name) old new = not-false _ new

    fits : (h : Host) → host_seen (facts_for update) (name_of u.name) ≡ Some h → (given : Option RequestedName) → u.new_name ≡ given → IsHostUpdateOf p s u given h
    fits h e given is =
        let names = or_parts (list_any (domain_is_refused p.zone) (domains_asked update)) _ (free update taken conditions.NameIsRefused (inl refl)) in
        let hosts = or_parts (any_host_refused p.zone (hosts_asked update)) _ names.1 in
        let new_kept : holds_of (host_is_refused p.zone) given ≡ false = subst (λ (o : Option RequestedName). holds_of (host_is_refused p.zone) o ≡ false) is (or_parts (holds_of (host_is_refused p.zone) u.new_name) _ hosts.1).0 in
        let many = or_parts (are_too_long (of_host u.add)) _ (free update taken conditions.LeavesTooMany (search (inl, inr) depth 20)) in
        record {
          at = sym seen-is ∙ e;
          is = is;
          kept = kept-name given (or_parts (host_is_refused p.zone u.name) false hosts.0).0 new_kept;
          once = (or_parts (list_repeats (of_host u.add)) (list_repeats (of_host u.rem)) (free update taken conditions.ListRepeats (search (inl, inr) depth 20))).0;
          new = sym (ap (holds_of (host_has (of_host u.add))) e) ∙ free update taken conditions.AddsWhatIsThere (search (inl, inr) depth 20);
          few = sym (ap (holds_of (host_is_over (of_host u.rem) (of_host u.add))) e) ∙ many.1;
        }

    by-name : (h : Host) → host_seen (facts_for update) (name_of u.name) ≡ Some h → (given : Option RequestedName) → u.new_name ≡ given → IsFree given
        → holds_of (has_no_superordinate p.zone) (at_new given) ≡ false → holds_of (superordinate_is_deleted p.zone) (at_new given) ≡ false
        → P update (renaming (name_of u.name) (host_with p r s.clock u given h) given)
    by-name h e None is unused based alive = cases.hosts.updated u h (fits h e None is)
    by-name h e (Some name) is unused based alive = cases.hosts.renamed u name h (fits h e (Some name) is) unused (record { based = based; alive = alive })

  -- ---- what is charged for

  payable : (q : Request) (name : RequestedName) (full : FullDomain) → get s.domains (name_of name) ≡ Some full.domain → domain_seen (facts_for q) (name_of name) ≡ Some (Full full)
      → (b : Bool) → (is_anothers domain_sponsor r (domain_seen (facts_for q) (name_of name)) || b) ≡ false → Covers r s (charge_of p s.clock q (facts_for q)) → IsPayable p r cl_trid s q (name_of name) full.domain
  payable q name full at e b own covered = record { at = at; own = owned r (domain_seen (facts_for q) (name_of name)) full e b own; paid = covered }

  -- ---- transfers of contacts (RFC 5730, 2.9.3.4)

  contact-op : (q : Request) (name : List ℕ) (op : TransferOp) (c : Contact) → get s.contacts name ≡ Some c → (last : Option Transfer) → c.transfer ≡ last
      → P q (contact_transferred_if s.clock op (transfer_after p r s.clock op c.sponsor last) c)
  contact-op q name ops.Request c at last is = cases.contacts.asked q name c at
  contact-op q name ops.Approve c at (Some y) is = cases.contacts.approved q name c at y is
  contact-op q name ops.Reject c at (Some y) is = cases.contacts.turned_down q name c at y is ClientRejected y.requester notices.TransferRejected refl (inl refl)
  contact-op q name ops.Cancel c at (Some y) is = cases.contacts.turned_down q name c at y is ClientCancelled y.losing_registrar notices.TransferCancelled refl (inr refl)
  contact-op q name ops.Query c at (Some y) is = cases.none q
  contact-op q name op c at last is = cases.none q

  -- ---- transfers of domains

  module _ (name : RequestedName) (secret : Option (List ℕ)) where
    -- the request for an operation, what is seen at its name, and what it changes there
    abbrev asks : TransferOp → Request
    asks op = requests.TransferDomain name op secret

    abbrev seen : TransferOp → DomainSight
    seen op = domain_seen (facts_for (asks op)) (name_of name)

    abbrev changed_in : TransferOp → FullDomain → List Change
    changed_in op full = domain_transferred_if p r s.clock op (asks op) (facts_for (asks op)) (transfer_after p r s.clock op full.domain.sponsor full.domain.transfer) full.domain

    abbrev Done : TransferOp → Type 0
    Done op = P (asks op) (in_full (changed_in op) (seen op))

    askable : (full : FullDomain) → seen ops.Request ≡ Some (Full full) → Took (asks ops.Request) → IsAskable p r s.clock full.domain
    unfolding domain_seen_shows
    askable full e taken =
        let found = free (asks ops.Request) taken in
        record {
          other = λ same. eqb-false full.domain.sponsor r
              (sym (ap (λ (o : DomainSight). holds_of (is_own domain_sponsor r) o) e)
              ∙ found conditions.IsOwn (search (inl, inr) depth 20)) (sym same);
          over = (or_parts (domain_seen_shows (Full full) PendingTransfer) false
              (sym (ap (λ (o : DomainSight). is_shown domain_seen_shows PendingTransfer o || false) e) ∙ found conditions.IsPending (search (inl, inr) depth 20))).0;
          undeleted = none-is full.domain.deletion (or_parts (domain_seen_shows (Full full) PendingDelete) false
              (sym (ap (λ (o : DomainSight). is_shown domain_seen_shows PendingDelete o || false) e) ∙ found (conditions.Shows PendingDelete) (search (inl, inr) depth 20))).0;
          unlocked = sym (ap (λ (o : DomainSight). holds_of (is_locked p s.clock) (option_and_then domain_in_full o)) e) ∙ found conditions.IsLocked (search (inl, inr) depth 20);
        }

    -- one that ends a transfer, of a domain of which one is pending
    over : (op : TransferOp) (state : TransferState) → ((sponsor : ℕ) (last : Option Transfer) → transfer_after p r s.clock op sponsor last ≡ option_map (ended state s.clock) last)
        → not (is_pending (option_and_then (last_seen domain_transfer) (seen op))) ≡ false
        → ((full : FullDomain) → get s.domains (name_of name) ≡ Some full.domain → seen op ≡ Some (Full full) → (y : Transfer) → full.domain.transfer ≡ Some y → is_pending_state y.state ≡ true
        → P (asks op) (left p r cl_trid s P op (asks op) (ended state s.clock y) full.domain))
        → Done op
    over op state after runs ends = in-full (asks op) name (changed_in op) refl (λ full at e.
        let pending : is_pending full.domain.transfer ≡ true = not-false (is_pending full.domain.transfer) (sym (ap (λ (o : DomainSight). not (is_pending (option_and_then (last_seen domain_transfer) o))) e) ∙ runs) in
        let changed : Option Transfer → Type 0 = λ last. P (asks op) (domain_transferred_if p r s.clock op (asks op) (facts_for (asks op)) last full.domain) in
        pending-is full.domain.transfer (changed (transfer_after p r s.clock op full.domain.sponsor full.domain.transfer)) pending (λ y is state_is.
        subst changed (sym (after full.domain.sponsor full.domain.transfer ∙ ap (option_map (ended state s.clock)) is)) (ends full at e y is state_is)))

    queried : (d : Domain) (last : Option Transfer) → P (asks ops.Query) (domain_transferred_if p r s.clock ops.Query (asks ops.Query) (facts_for (asks ops.Query)) last d)
    queried d None = cases.none (asks ops.Query)
    queried d (Some y) = cases.none (asks ops.Query)

    domain-op : (op : TransferOp) → Took (asks op) → Done op
    domain-op ops.Request taken = in-full (asks ops.Request) name (changed_in ops.Request) refl (λ full at e.
        cases.domain_asked (asks ops.Request) (name_of name) full.domain at (askable full e taken) (free (asks ops.Request) taken conditions.LacksMoney (search (inl, inr) depth 20)))
    domain-op ops.Query taken = in-full (asks ops.Query) name (changed_in ops.Query) refl (λ full at e. queried full.domain full.domain.transfer)
    domain-op ops.Approve taken = over ops.Approve ClientApproved (λ sponsor last. refl) (free (asks ops.Approve) taken conditions.IsNotPending (search (inl, inr) depth 20)) (λ full at e y is state_is.
        cases.domain_approved (asks ops.Approve) (name_of name) full.domain at y is state_is (owned r (seen ops.Approve) full e _ (free (asks ops.Approve) taken conditions.IsAnothers (search (inl, inr) depth 20))))
    domain-op ops.Reject taken = over ops.Reject ClientRejected (λ sponsor last. refl) (free (asks ops.Reject) taken conditions.IsNotPending (search (inl, inr) depth 20)) (λ full at e y is state_is.
        cases.domain_turned_down (asks ops.Reject) (name_of name) full.domain at y is state_is ClientRejected y.requester notices.TransferRejected refl (inl refl) (inl refl))
    domain-op ops.Cancel taken = over ops.Cancel ClientCancelled (λ sponsor last. refl) (free (asks ops.Cancel) taken conditions.IsNotPending (search (inl, inr) depth 20)) (λ full at e y is state_is.
        cases.domain_turned_down (asks ops.Cancel) (name_of name) full.domain at y is state_is ClientCancelled y.losing_registrar notices.TransferCancelled refl (inr refl) (inr refl))

  -- ---- every command

  pub command-cases : (q : Request) → IsTaken p r cl_trid s q → P q (changes_of p r s.clock q (known p r cl_trid s q))
  unfolding changes_of
  command-cases (requests.CreateContact new) taken = cases.contacts.created new
  command-cases (requests.CreateDomain new) taken =
      let q : Request = requests.CreateDomain new in
      let names = or_parts (list_any (domain_is_refused p.zone) (domains_asked q)) _ (free q taken conditions.NameIsRefused (inl refl)) in
      cases.domain_created new
      (not-false _ (or_parts (domain_is_refused p.zone new.name) false names.0).0)
      (lists-fit q (free q taken conditions.ListRepeats (search (inl, inr) depth 20)) (free q taken conditions.LeavesTooMany (search (inl, inr) depth 20)))
      (free q taken conditions.ReferenceIsMissing (search (inl, inr) depth 20))
      (free q taken conditions.LacksMoney (search (inl, inr) depth 20))
  command-cases (requests.CreateHost new) taken =
      let q : Request = requests.CreateHost new in
      let at = host-at p r cl_trid s q new.name refl in
      let names = or_parts (list_any (domain_is_refused p.zone) (domains_asked q)) _ (free q taken conditions.NameIsRefused (inl refl)) in
      let hosts = or_parts (any_host_refused p.zone (hosts_asked q)) _ names.1 in
      cases.hosts.created new
      (not-false _ (or_parts (host_is_refused p.zone new.name) false hosts.0).0)
      (lists-fit q (free q taken conditions.ListRepeats (search (inl, inr) depth 20)) (free q taken conditions.LeavesTooMany (search (inl, inr) depth 20)))
      (record {
        based = sym (ap (holds_of (has_no_superordinate p.zone)) at) ∙ free q taken conditions.SuperordinateIsMissing (search (inl, inr) depth 20);
        alive = sym (ap (holds_of (superordinate_is_deleted p.zone)) at) ∙ free q taken conditions.SuperordinateIsDeleted (search (inl, inr) depth 20);
      })
  command-cases (requests.DeleteContact name) taken =
      let q : Request = requests.DeleteContact name in
      cases.contacts.dropped name (sym (ap (holds_of (λ (it : ContactFacts). it.linked)) (contact-at p r cl_trid s q name refl))
      ∙ (or_parts (contact_is_linked q (facts_for q)) false (free q taken conditions.IsLinked (search (inl, inr) depth 20))).0)
  command-cases (requests.DeleteDomain name) taken =
      let q : Request = requests.DeleteDomain name in
      subst (λ (o : Option DomainFacts). P q (deletion_at r s.clock o)) (sym (it-is name taken))
      (where-seen (P q) (λ full. ending (goes_at_once (Some (Full full))) s.clock (it name taken) full.domain ∷ Post r (RefundRunning (refund_at s.clock full.domain)) ∷ []) (cases.none q)
      (it name taken).seen (λ full e. by-phase name taken full e (goes_at_once (Some (Full full)))))
  command-cases (requests.DeleteHost name) taken =
      let q : Request = requests.DeleteHost name in
      cases.hosts.dropped name (sym (ap (holds_of (λ (it : HostFacts). it.linked)) (host-at p r cl_trid s q name refl)) ∙ free q taken conditions.IsLinked (search (inl, inr) depth 20))
  command-cases (requests.UpdateContact u) taken =
      let q : Request = requests.UpdateContact u in
      where-contact p r cl_trid s q (P q) (λ c. PutContact (updated_contact s.clock u c) ∷ []) u.name refl (cases.none q) (cases.contacts.updated u)
  command-cases (requests.UpdateDomain u) taken =
      let q : Request = requests.UpdateDomain u in
      let has : DomainSight → Bool = λ seen. holds_of (domain_has (of_domain u.add)) (option_and_then domain_in_full seen) in
      let is_over : DomainSight → Bool = λ seen. holds_of (domain_is_over (of_domain u.rem) (of_domain u.add)) (option_and_then domain_in_full seen) in
      let many = or_parts (are_too_long (of_domain u.add)) _ (free q taken conditions.LeavesTooMany (search (inl, inr) depth 20)) in
      in-full q u.name (λ full. PutDomain (updated_domain s.clock u full.domain) ∷ []) refl (λ full at e.
      cases.domain_updated u full.domain
      (record {
        at = at;
        once = (or_parts (list_repeats (of_domain u.add)) (list_repeats (of_domain u.rem)) (free q taken conditions.ListRepeats (search (inl, inr) depth 20))).0;
        new = sym (ap has e) ∙ (or_parts (has (domain_seen (facts_for q) (name_of u.name))) false (free q taken conditions.AddsWhatIsThere (search (inl, inr) depth 20))).0;
        few = sym (ap is_over e) ∙ (or_parts (is_over (domain_seen (facts_for q) (name_of u.name))) false many.1).0;
      })
      (free q taken conditions.ReferenceIsMissing (search (inl, inr) depth 20)))
  command-cases (requests.UpdateHost u) taken =
      let q : Request = requests.UpdateHost u in
      some-or (λ seen. P q (host_changes p.zone r s.clock u seen)) (cases.none q) (host_seen (facts_for q) (name_of u.name)) (λ h e.
      by-name u taken h e u.new_name refl (free q taken conditions.NewNameIsTaken (search (inl, inr) depth 20))
      (free q taken conditions.SuperordinateIsMissing (search (inl, inr) depth 20)) (free q taken conditions.SuperordinateIsDeleted (search (inl, inr) depth 20)))
  command-cases (requests.RenewDomain name expires years) taken =
      let q : Request = requests.RenewDomain name expires years in
      in-full q name (λ full. PutDomain (renewed_domain s.clock years full.domain) ∷ charge lines.Renew p r s.clock full.domain.roid q (facts_for q) ∷ []) refl (λ full at e.
      cases.renewed name expires years full.domain
      (payable q name full at e _ (free q taken conditions.IsAnothers (search (inl, inr) depth 20)) (free q taken conditions.LacksMoney (search (inl, inr) depth 20)))
      (sym (ap (λ (o : DomainSight). holds_of (λ (d : Domain). nat_lt (plus_years s.clock 10) (renewed_expiry years d)) (option_and_then domain_in_full o)) e)
      ∙ free q taken conditions.PassesTenYears (search (inl, inr) depth 20)))
  command-cases (requests.RequestRestore name) taken =
      in-full (requests.RequestRestore name) name (λ full. PutDomain (restoring_domain s.clock full.domain) ∷ []) refl (λ full at e. cases.restoring name full.domain at)
  command-cases (requests.ReportRestore name del_time res_time) taken =
      let q : Request = requests.ReportRestore name del_time res_time in
      in-full q name (λ full. PutDomain (restored_domain s.clock full.domain) ∷ charge lines.Restore p r s.clock full.domain.roid q (facts_for q) ∷ []) refl (λ full at e.
      cases.restored name del_time res_time full.domain
      (payable q name full at e _ (free q taken conditions.IsAnothers (search (inl, inr) depth 20)) (free q taken conditions.LacksMoney (search (inl, inr) depth 20))))
  command-cases (requests.TransferContact name op secret) taken =
      let q : Request = requests.TransferContact name op secret in
      where-contact p r cl_trid s q (P q) (λ c. contact_transferred_if s.clock op (transfer_after p r s.clock op c.sponsor c.transfer) c) name refl (cases.none q) (λ c at. contact-op q name op c at c.transfer refl)
  command-cases (requests.TransferDomain name op secret) taken = domain-op name secret op taken
  command-cases (requests.PollAck id) taken = cases.acknowledged id
  command-cases q taken = cases.none q

  -- and of what it changes where it may be refused
  pub request-cases : (q : Request) → let f : Facts = facts p r (Asked cl_trid q) s in P q (changes_after p r s.clock (Asked cl_trid q) f (judged p r s.clock (Asked cl_trid q) f).code)
  unfolding changes_after
  request-cases q = where-accepted p r s.clock q (facts p r (Asked cl_trid q) s) (P q) (cases.none q) (command-cases q) cl_trid
