-- Each step of the rules keeps a registry well formed, in its objects.
use Rattle.std.proofs.Common.{ap, ap₂, arith, Bool, cond, drop, eqb-true, false, get_or, inl, inr, is_none, is_some, IsSome, length, List, nat_eq, None, Option}
use Rattle.std.proofs.Common.{option_map, refl, slice_index, Some, subst, sym, true, ℕ, ⊎_elim, ◌&&◌, ◌++◌, ◌+◌, ◌-◌, ◌<◌, ◌==◌, ◌∙◌, ◌∷◌, ◌≡◌, ◌≢◌, ◌≤◌}
use Rattle.std.proofs.{Math.Seq.drop-append-add, Math.Seq.get_or-append_seam, lemmas.Cmp.nat_list_eq_equiv}
use Rattle.decisions.proofs.Words.{contact_handed_over, deposit_line, domain_with_transfer, false_from_ne_true, superordinate_of_domain, with_running_refunded}
use Rattle.decisions.proofs.Words.{is_pending_state, restored_domain, restoring_domain, saturating_next, superordinate_of, transfer_refunded, updated_contact}
use Rattle.decisions.proofs.Words.{changes_after, ClientApproved, deleted_domain, length-append, names_contact, renewed_domain, updated_domain}
use Rattle.decisions.proofs.Words.{Deletion, Notification, order_effect, Superordinate, transfer_line, with_account, with_command}
use Rattle.decisions.proofs.Words.{Account, account_of, changed_all, charge_line, handed_over, IsContactOf, IsRegistrar, last_two_of, PolicyRules, with_serial}
use Rattle.decisions.proofs.Words.{add, HasObjects, is_pending, IsDeletion, IsDomainOf, IsTransfer, last_clock, names_host, new_domain, ObjectKind}
use Rattle.decisions.proofs.Words.{BelongsTo, cond_both, day-count, ends_with, pointwise, PutContact, PutDomain, with_acked, with_lines}
use Rattle.decisions.proofs.Words.{bag_add, changed, holds_of, in_order, is_below, IsHostOf, notified, refund_at, Registry, requested, Transfer, ZoneRules}
use Rattle.decisions.proofs.Words.{Command, Contact, Domain, entered, HasBeen, HasRoid, IsAfter, IsSound, name_of, ordered, PutHost, Request}
use Rattle.decisions.proofs.Words.{Asked, Bad, effect, ended, gained, get, Host, Line, lt-ltb, Order, remade, Roid, Start}
use Rattle.decisions.proofs.Lemmas.{CommandCases, drop-contact, drop-domain, drop-host, found_above, host_with, is-there, IsBased, IsDeletable}
use Rattle.decisions.proofs.Lemmas.{kept-account, known, name-fails, new-contacts, new-hosts, order-cases, OrderCases, own-account, put-contact}
use Rattle.decisions.proofs.Lemmas.{put-domain, put-host, rename-host, request-cases, serial-rises, updated-contacts, updated-hosts, value-fails}
use Rattle.decisions.proofs.KeepingLemmas.{IsUndeleted}
use Rattle.protocol.specs.declared.command.Request.TheVariants as requests
use Rattle.names.proofs.{SuperordinateLemmas.spells-superordinate_of, LastTwoLemmas.last_two-superordinate}
use Rattle.policy.specs.declared.days.Period.TheVariants as periods
use Rattle.decisions.specs.{Transfers.contact_with_transfer, Decisions.{external_sponsor_of, new_contact, new_host, new_roid}}
use Rattle.accounts.specs.declared.line.LineKind.TheVariants as lines
use Rattle.objects.specs.declared.roid.ObjectKind.TheVariants as kinds

-- ---- an object that stands in for another at its name, and agrees with it in what a registry asks

module _ (p : PolicyRules) (s : Registry) (is : HasObjects p s) (name : List ℕ) where
  pub kept-put-contact : (c other : Contact) → get s.contacts name ≡ Some c → other.roid ≡ c.roid → IsContactOf p s name other → HasObjects p (changed p (PutContact other) s)
  kept-put-contact c other at same fits = put-contact p s is name other fits (λ n x at-n alike. is.identities.contact_roids n name x c at-n at (alike ∙ same))

  pub kept-put-domain : (d other : Domain) → get s.domains name ≡ Some d → other.roid ≡ d.roid → IsDomainOf p s name other → HasObjects p (changed p (PutDomain other) s)
  kept-put-domain d other at same fits = put-domain p s is name other fits (λ n x at-n alike. is.identities.domain_roids n name x d at-n at (alike ∙ same))

  pub kept-put-host : (h other : Host) → get s.hosts name ≡ Some h → other.roid ≡ h.roid → IsHostOf p s name other → HasObjects p (changed p (PutHost other) s)
  kept-put-host h other at same fits = put-host p s is name other fits (λ n x at-n alike. is.identities.host_roids n name x h at-n at (alike ∙ same)) (inl (is-there (get s.hosts name) h at))

-- a deletion of a domain is one of another of its name, whose transfer is over if the domain's is
deletion-as : (p : PolicyRules) (s : Registry) (d e : Domain) (deletion : Option Deletion) → e.name ≡ d.name → (IsSome deletion → is_pending d.transfer ≡ false → is_pending e.transfer ≡ false) → IsDeletion p s d deletion → IsDeletion p s e deletion
deletion-as p s d e None name over k = tt
deletion-as p s d e (Some deletion) name over k =
    let hosts : (host : List ℕ) → IsSome (get s.hosts host) → superordinate_of p.zone host ≢ Some e.name = λ host there. rw name (k.hosts host there) in
    let still : is_pending e.transfer ≡ false = over refl k.transfer in
    search

-- ---- an object with another transfer, or in other hands

module _ (p : PolicyRules) (t : Registry) (is : HasObjects p t) (name : List ℕ) where
  been-after : (o : Option ℕ) → HasBeen t o → IsAfter t.clock o
  been-after None k = tt
  been-after (Some moment) k = k

  -- one that is asked for by the clock
  pub transfer-asked : (r sponsor created : ℕ) (transferred : Option ℕ) → IsSound p → t.clock ≤ last_clock → IsRegistrar p r → IsRegistrar p sponsor → created ≤ t.clock → HasBeen t transferred → IsTransfer p t created transferred (requested p r sponsor t.clock)
  transfer-asked r sponsor created transferred sound early place losing begun been =
      search (arith, been-after, (day-count periods.Answer t.clock p.days sound.days_in_range).1)

  pub kept-contact-transfer : (c : Contact) → get t.contacts name ≡ Some c → (x : Transfer) → IsTransfer p t c.created c.transferred x → (is_pending_state x.state ≡ true → x.losing_registrar ≡ c.sponsor) → HasObjects p (changed p (PutContact (contact_with_transfer x c)) t)
  kept-contact-transfer c at x fits losing = kept-put-contact p t is name c (contact_with_transfer x c) at refl (let k = is.contacts name c at in search)

  -- a domain is given another transfer, which is pending of none that is deleted
  pub kept-domain-transfer : (d : Domain) → get t.domains name ≡ Some d → (x : Transfer) → IsTransfer p t d.created d.transferred x → (is_pending_state x.state ≡ true → d.deletion ≡ None) → HasObjects p (changed p (PutDomain (domain_with_transfer x d)) t)
  kept-domain-transfer d at x fits free =
      let k = is.domains name d at in
      let over : IsSome d.deletion → is_pending_state x.state ≡ false = λ there. false_from_ne_true (is_pending_state x.state) (λ e. let never : true ≡ false = sym there ∙ ap is_some (free e) in cc) in
      kept-put-domain p t is name d (domain_with_transfer x d) at refl (search (deletion-as p t d (domain_with_transfer x d) d.deletion refl (λ there still. over there) k.is_at.deletion))

  undeleted : (d : Domain) (o : Option Deletion) → is_pending d.transfer ≡ true → IsDeletion p t d o → o ≡ None
  undeleted d None pending k = refl
  undeleted d (Some deletion) pending k = absurd (let never : true ≡ false = sym pending ∙ k.transfer in cc)

  -- a domain of which a transfer was pending is in the hands of its requester
  pub kept-domain-over : (d : Domain) → get t.domains name ≡ Some d → (x : Transfer) (years : ℕ) → x.ac_date ≤ t.clock → IsTransfer p t d.created (Some x.ac_date) x → is_pending d.transfer ≡ true → HasObjects p (changed p (PutDomain (handed_over x years d)) t)
  kept-domain-over d at x years le fits pending =
      let k = is.domains name d at in
      let deletion : IsDeletion p t (handed_over x years d) d.deletion = rw (undeleted d d.deletion pending k.is_at.deletion) tt in
      kept-put-domain p t is name d (handed_over x years d) at refl search

-- a registrar is told
pub kept-told : (p : PolicyRules) (q : ℕ) (n : Notification) (t : Registry) → IsRegistrar p q → HasObjects p t → HasObjects p (with_account q (notified n) t)
kept-told p q n t place is = kept-account p q (notified n) (λ a. omega arith) t place is

-- a charge that waits is given back
pub kept-back : (p : PolicyRules) (q moment : ℕ) (d : Domain) (t : Registry) → IsRegistrar p q → HasObjects p t → HasObjects p (with_account q (with_lines (remade in_order (transfer_refunded (record { roid = d.roid; moment = moment })))) t)
kept-back p q moment d t place is = kept-account p q (with_lines (remade in_order (transfer_refunded (record { roid = d.roid; moment = moment })))) (λ a. omega arith) t place is

-- ---- a host in the zone lies below its superordinate domain (RFC 5732, 1.1)

lies-below : (lower domain : List ℕ) → is_below domain (lower ++ 46 ∷ domain) ≡ true
lies-below lower domain =
    let host : List ℕ = lower ++ 46 ∷ domain in
    let long : length host ≡ length lower + (1 + length domain) = length-append lower (46 ∷ domain) ∙ omega arith in
    let front : length host - length domain ≡ length lower + 1 = omega (arith, long) in
    let dot : length host - length domain - 1 ≡ length lower = omega (arith, long) in
    let ends : ends_with nat_eq host domain ≡ true = ap (λ (n : ℕ). pointwise nat_eq domain (drop n host)) front ∙ ap (pointwise nat_eq domain) (drop-append-add lower (46 ∷ domain) 1) ∙ nat_list_eq_equiv.refl domain in
    let dotted : (slice_index host (length host - length domain - 1) == 46) ≡ true = ap (λ (n : ℕ). get_or host n 0 == 46) dot ∙ ap (λ (b : ℕ). b == 46) (get_or-append_seam lower 46 domain 0) in
    λ i. lt-ltb (length domain) (length host) (omega (arith, long)) i && ends i && dotted i

pub below-superordinate_of : (zone : ZoneRules) (host domain : List ℕ) → superordinate_of zone host ≡ Some domain → is_below domain host ≡ true
below-superordinate_of zone host domain e =
    let spelled = spells-superordinate_of zone host domain e in
    subst (λ (h : List ℕ). is_below domain h ≡ true) (sym spelled.1) (lies-below spelled.0 domain)

-- ---- serials

raised-next : (n : ℕ) → n < 4_611_686_018_427_387_904 → saturating_next n ≡ n + 1
raised-next n small = cond_both (n == 0xFFFF_FFFF_FFFF_FFFF) n (n + 1) (λ m. m ≡ n + 1)
    (λ is. absurd (omega (arith, eqb-true n 0xFFFF_FFFF_FFFF_FFFF is))) (λ is. refl)

module _ (p : PolicyRules) (r : ℕ) (s : Registry) (place : IsRegistrar p r) (is : HasObjects p s) where
  -- the registry once the command is counted
  abbrev counted : Registry
  counted = with_account r with_command s

  pub kept-counted : HasObjects p counted
  kept-counted = kept-account p r with_command (λ a. omega arith) s place is

  -- a charge leaves objects and serials
  pub kept-charged : (line : Line) (t : Registry) → HasObjects p t → HasObjects p (with_account r (with_lines (bag_add in_order line)) t)
  kept-charged line t well = kept-account p r (with_lines (bag_add in_order line)) (λ a. omega arith) t place well

  -- ---- a name that a host is to have (RFC 5732, 3.2.1)

  domain-there : (o : Option Domain) → is_none (option_map superordinate_of_domain o) ≡ false → IsSome o
  domain-there None e = absurd cc
  domain-there (Some d) e = refl

  pub belongs-new : (name : List ℕ) → IsBased p s name → BelongsTo p s (superordinate_of p.zone name) (external_sponsor_of p.zone r name)
  belongs-new name it = by (superordinate_of p.zone name) refl it.based
    where
      by : (o : Option (List ℕ)) → superordinate_of p.zone name ≡ o → (is_some o && is_none (found_above s (last_two_of name))) ≡ false → BelongsTo p s o (cond (is_some o) None (Some r))
      by None e based = place
      by (Some domain) e based = (domain-there (get s.domains domain) (sym (ap (λ (o : Option (List ℕ)). is_none (found_above s o)) (last_two-superordinate p.zone name domain e)) ∙ based), refl)

  pub undeleted-new : (name : List ℕ) → IsBased p s name → IsUndeleted p s name
  undeleted-new name it n d at deleted e =
      let last : last_two_of name ≡ Some n = last_two-superordinate p.zone name d.name e ∙ ap (λ (q : List ℕ). Some q) (is.domains n d at).is_at.named in
      let found : found_above s (last_two_of name) ≡ Some (superordinate_of_domain d) = ap (found_above s) last ∙ ap (option_map superordinate_of_domain) at in
      let never : true ≡ false = sym deleted ∙ sym (ap₂ (λ (o : Option (List ℕ)) (x : Option Superordinate). is_some o && holds_of (λ above. above.is_deleted) x) e found) ∙ it.alive in
      absurd cc

  -- ---- creates: the serial is taken first, and then the object put, which leaves the same

  abbrev numbered_too : Registry
  numbered_too = with_account r with_serial counted

  kept-numbered : HasObjects p numbered_too
  kept-numbered = kept-account p r with_serial serial-rises counted place kept-counted

  serial-after : (account_of r numbered_too).serial ≡ saturating_next (account_of r s).serial
  serial-after = ap (λ (a : Account). a.serial) (own-account r with_serial counted) ∙ ap (λ (a : Account). saturating_next a.serial) (own-account r with_command s)

  module _ (cl_trid : Option (List ℕ)) (small : (account_of r s).serial < 4_611_686_018_427_387_904) where
    module _ (kind : ObjectKind) (request : Request) where
      abbrev given : Roid
      given = new_roid kind r (known p r cl_trid s request)

      pub has-given : HasRoid p numbered_too kind given
      has-given = record { kind_is = refl; creator = place; serial = omega (arith, serial-after) }

      -- no object has it yet
      pub ungiven : (other : ObjectKind) (roid : Roid) → HasRoid p s other roid → roid ≢ given
      ungiven other roid has same =
          let at : roid.serial ≤ (account_of r s).serial = subst (λ (q : ℕ). roid.serial ≤ (account_of q s).serial) (ap (λ (x : Roid). x.creator) same) has.serial in
          let next : roid.serial ≡ saturating_next (account_of r s).serial = ap (λ (x : Roid). x.serial) same in
          omega (arith, raised-next (account_of r s).serial small)

  -- ---- what commands leave

  -- no host lies below a domain that can be deleted
  alone : (name : List ℕ) (d : Domain) → IsDeletable r s name d → (host : List ℕ) → IsSome (get s.hosts host) → superordinate_of p.zone host ≢ Some name
  alone name d it host there above =
      let no : true ≡ false = sym (below-superordinate_of p.zone host name above) ∙ name-fails (is_below name) s.hosts host there it.alone in
      cc

  requested-now : (d : Domain) (deletion : Option Deletion) → IsDeletion p counted d deletion
      → IsDeletion p counted (restoring_domain s.clock d) (option_map (λ (x : Deletion). record x { restore_requested = Some s.clock }) deletion)
  requested-now d None h = tt
  requested-now d (Some deletion) h = search arith

  -- ---- every command

  commands-kept : (cl_trid : Option (List ℕ)) → (account_of r s).serial < 4_611_686_018_427_387_904 → IsSound p → s.clock ≤ last_clock → CommandCases p r cl_trid s (λ q changes. HasObjects p (changed_all p changes counted))
  commands-kept cl_trid small sound early = record {
    contacts = record {
      created = λ new.
          let request : Request = requests.CreateContact new in
          put-contact p numbered_too kept-numbered new.name (new_contact r s.clock (known p r cl_trid s request) new) (search (arith, has-given cl_trid small kinds.Contact request))
          (λ n x at same. absurd (ungiven cl_trid small kinds.Contact request kinds.Contact x.roid (is.contacts n x at).is_at.roid same));
      dropped = λ name free. drop-contact p counted kept-counted name (λ n d at linked. let no = value-fails (λ (d : Domain). names_contact name d.links) s.domains n d at free in cc);
      updated = λ u c at. kept-put-contact p counted kept-counted u.name c (updated_contact s.clock u c) at refl (let k = kept-counted.contacts u.name c at in search arith);
      asked = λ q n c at.
          let k = kept-counted.contacts n c at in
          kept-told p c.sponsor _ _ k.is_at.sponsor (kept-contact-transfer p counted kept-counted n c at (requested p r c.sponsor s.clock)
          (transfer-asked p counted kept-counted n r c.sponsor c.created c.transferred sound early place k.is_at.sponsor k.is_at.created k.is_at.transferred) (λ pending. refl));
      approved = λ q n c at y last.
          let x : IsTransfer p counted c.created c.transferred y = rw last at (kept-counted.contacts n c at).transfer in
          kept-told p y.requester _ _ x.recorded.requester
          (kept-put-contact p counted kept-counted n c (contact_handed_over (ended ClientApproved s.clock y) c) at refl (let k = kept-counted.contacts n c at in search arith));
      turned_down = λ q n c at y last state to notice over side.
          let x : IsTransfer p counted c.created c.transferred y = rw last at (kept-counted.contacts n c at).transfer in
          kept-told p to _ _ (⊎_elim (λ e. rw e x.recorded.requester) (λ e. rw e x.recorded.losing_registrar) side) (kept-contact-transfer p counted kept-counted n c at (ended state s.clock y) (search arith) (λ pending. cc));
    };
    hosts = record {
      created = λ new named fit based.
          let request : Request = requests.CreateHost new in
          put-host p numbered_too kept-numbered (name_of new.name) (new_host p.zone r s.clock (known p r cl_trid s request) new)
          (record { named = refl; roid = has-given cl_trid small kinds.Host request; belongs = belongs-new (name_of new.name) based; created = omega arith; updated = tt })
          (λ n x at same. absurd (ungiven cl_trid small kinds.Host request kinds.Host x.roid (is.hosts n x at).roid same)) (inr (undeleted-new (name_of new.name) based));
      dropped = λ name free. drop-host p counted kept-counted (name_of name) (λ n d at linked. let no = value-fails (λ (d : Domain). names_host (name_of name) d.links) s.domains n d at free in cc);
      updated = λ u h it. kept-put-host p counted kept-counted (name_of u.name) h (host_with p r s.clock u None h) it.at refl (let k = kept-counted.hosts (name_of u.name) h it.at in search arith);
      renamed = λ u name h it free based.
          rename-host p counted kept-counted (name_of u.name) h (host_with p r s.clock u (Some name) h) it.at refl
          (let k = kept-counted.hosts (name_of u.name) h it.at in search (arith, belongs-new (name_of name) based)) (undeleted-new (name_of name) based);
    };
    none = λ q. kept-counted;
    acknowledged = λ id. kept-account p r (with_acked id) (λ a. omega arith) counted place kept-counted;
    domain_created = λ new named fit linked paid.
        let request : Request = requests.CreateDomain new in
        let there : (List ℕ → Bool) × (List ℕ → Bool) = (λ name. is_some (get s.contacts name), λ name. is_some (get s.hosts name)) in
        kept-charged (charge_line lines.Create p s.clock (given cl_trid small kinds.Domain request) request (known p r cl_trid s request)) _
        (put-domain p numbered_too kept-numbered (name_of new.name) (new_domain r s.clock (known p r cl_trid s request) new)
        (search (arith, has-given cl_trid small kinds.Domain request, new-contacts there.0 there.1 new linked, new-hosts there.0 there.1 new linked))
        (λ n x at same. absurd (ungiven cl_trid small kinds.Domain request kinds.Domain x.roid (is.domains n x at).is_at.roid same)));
    domain_dropped = λ name d it. kept-account p r (with_running_refunded p (refund_at s.clock d)) (λ a. omega arith) _ place (drop-domain p counted kept-counted (name_of name) (alone (name_of name) d it));
    domain_deleted = λ name d years it. kept-account p r (with_running_refunded p (refund_at s.clock d)) (λ a. omega arith) _ place (
        let k = kept-counted.domains (name_of name) d it.at in
        let below : (host : List ℕ) → IsSome (get s.hosts host) → superordinate_of p.zone host ≢ Some d.name = λ host there. rw k.is_at.named (alone (name_of name) d it host there) in
        kept-put-domain p counted kept-counted (name_of name) d (deleted_domain s.clock years d) it.at refl (search (arith, it.still)));
    domain_updated = λ u d it linked.
        let k = kept-counted.domains (name_of u.name) d it.at in
        let there : (List ℕ → Bool) × (List ℕ → Bool) = (λ name. is_some (get s.contacts name), λ name. is_some (get s.hosts name)) in
        let contacts = updated-contacts there.0 there.1 u d.links linked k.is_at.contacts in
        let hosts = updated-hosts there.0 there.1 u d.links linked k.is_at.hosts in
        kept-put-domain p counted kept-counted (name_of u.name) d (updated_domain s.clock u d) it.at refl
        (search (arith, deletion-as p counted d (updated_domain s.clock u d) d.deletion refl (λ there over. over) k.is_at.deletion));
    renewed = λ name expires years d it fits.
        let k = kept-counted.domains (name_of name) d it.at in
        let new : Domain = renewed_domain s.clock years d in
        kept-charged _ _ (kept-put-domain p counted kept-counted (name_of name) d new it.at refl (search (arith, deletion-as p counted d new d.deletion refl (λ there over. over) k.is_at.deletion)));
    restoring = λ name d at.
        let k = kept-counted.domains (name_of name) d at in
        kept-put-domain p counted kept-counted (name_of name) d (restoring_domain s.clock d) at refl (search (arith, requested-now d d.deletion k.is_at.deletion));
    restored = λ name del_time res_time d it. kept-charged _ _ (kept-put-domain p counted kept-counted (name_of name) d (restored_domain s.clock d) it.at refl (let k = kept-counted.domains (name_of name) d it.at in search arith));
    domain_asked = λ q n d at askable paid.
        let k = kept-counted.domains n d at in
        kept-told p d.sponsor _ _ k.is_at.sponsor (kept-charged (transfer_line p s.clock d.roid q (known p r cl_trid s q)) _ (kept-domain-transfer p counted kept-counted n d at (requested p r d.sponsor s.clock)
        (transfer-asked p counted kept-counted n r d.sponsor d.created d.transferred sound early place k.is_at.sponsor k.is_at.created k.is_at.transferred) (λ pending. askable.undeleted)));
    domain_approved = λ q n d at y last pending own.
        let x : IsTransfer p counted d.created d.transferred y = rw last at (kept-counted.domains n d at).transfer in
        -- its grace begins first, and then the domain is handed over
        let begins : Account → Account = entered (Start (record { roid = d.roid; moment = s.clock; years = gained d s.clock })) in
        let then : HasObjects p (with_account y.requester begins counted) = kept-account p y.requester begins (λ a. omega arith) counted x.recorded.requester kept-counted in
        let y_then : IsTransfer p (with_account y.requester begins counted) d.created d.transferred y = rw last at (then.domains n d at).transfer in
        kept-told p y.requester _ _ x.recorded.requester
        (kept-domain-over p (with_account y.requester begins counted) then n d at (ended ClientApproved s.clock y) (gained d s.clock) (omega arith) (search arith) (ap is_pending last ∙ pending));
    domain_turned_down = λ q n d at y last pending state to notice over down side.
        let x : IsTransfer p counted d.created d.transferred y = rw last at (kept-counted.domains n d at).transfer in
        kept-told p to _ _ (⊎_elim (λ e. rw e x.recorded.requester) (λ e. rw e x.recorded.losing_registrar) side) (kept-back p y.requester s.clock d _ x.recorded.requester (kept-domain-transfer p counted kept-counted n d at (ended state s.clock y) (search arith) (λ pending. cc)));
  }

-- A registrar's command leaves a registry well formed, but that a serial at its greatest would be
-- given twice.
pub kept-effect : (p : PolicyRules) → IsSound p → (r : ℕ) (c : Command) (s : Registry) → IsRegistrar p r → HasObjects p s → s.clock ≤ last_clock → (account_of r s).serial < 4_611_686_018_427_387_904 → HasObjects p (effect p r c s)
unfolding changes_after
kept-effect p sound r (Bad cl_trid code) s place is early small = kept-counted p r s place is
kept-effect p sound r (Asked cl_trid q) s place is early small = request-cases p r cl_trid s (λ q changes. HasObjects p (changed_all p changes (with_account r with_command s))) (commands-kept p r s place is cl_trid small sound early) q

-- ---- orders

orders-kept : (p : PolicyRules) (s : Registry) → HasObjects p s → OrderCases p s (λ changes. HasObjects p (changed_all p changes s))
orders-kept p s is = record {
  none = is;
  contact_set = λ o name c at. kept-put-contact p s is name c (record c { statuses = ordered o c.statuses }) at refl (let k = is.contacts name c at in search);
  domain_set = λ o name d at.
      let e : Domain = record d { statuses = ordered o d.statuses } in
      kept-put-domain p s is name d e at refl (let k = is.domains name d at in search (deletion-as p s d e d.deletion refl (λ there over. over) k.is_at.deletion));
  host_set = λ o name h at. kept-put-host p s is name h (record h { statuses = ordered o h.statuses }) at refl (let k = is.hosts name h at in search);
  paid_in = λ r cents place. kept-account p r (with_lines (add in_order (deposit_line s.clock cents))) (λ a. omega arith) s place is;
}

-- An order of the operator leaves a registry well formed.
pub kept-order : (p : PolicyRules) (order : Order) (s : Registry) → HasObjects p s → HasObjects p (order_effect p order s)
kept-order p order s is = order-cases p s (λ changes. HasObjects p (changed_all p changes s)) (orders-kept p s is) order
