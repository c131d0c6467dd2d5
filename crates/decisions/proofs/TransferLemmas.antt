-- What a command changes meets what is asked of changes: transfers leave graces that no one else sees, and a face that
-- can be told by who hands a domain over.
use Rattle.std.proofs.Common.{◌≡◌, ◌≢◌, inl, inr, ℕ, Bool, true, false, cond, not, ◌&&◌, map, List, Option, Some, None, is_some, refl, sym, ap, ◌∙◌}
use Rattle.std.proofs.{Common.{⊎_elim, option_map}, lemmas.Bool.not-true}
use Rattle.decisions.proofs.Words.{Domain, false_from_ne_true, is_pending_state, nat_list_cmp_total, transfer_refunded}
use Rattle.decisions.proofs.Words.{account_changed, ClientApproved, eq_by_cmp_equiv, is_for_transfer, Line, start-elsewhere, transfer_started}
use Rattle.decisions.proofs.Words.{get-map_values, handed_over, MeetsStandards, RefundTransfer, TransferRefund}
use Rattle.decisions.proofs.Words.{changes_after, decision, domain_sight, is_same_roid, nat_cmp_total, TransferStart, with_account, with_command}
use Rattle.decisions.proofs.Words.{account_of, and_parts, any-bag_of, cases_Bool, names_apart, PolicyRules, standing_of, start-stays}
use Rattle.decisions.proofs.Words.{and_right, cond_both, eq_by_cmp, graces_of, in_order, LineKind, period_of, Post, PutDomain, runs_from, slice_cmp}
use Rattle.decisions.proofs.Words.{Account, changed, Command, entered, gained, is_kind, IsSound, list_any, name_of, nat_cmp, Registry, Roid, Transfer, unasked}
use Rattle.decisions.proofs.Words.{Asked, Bad, ended, get, gives, graces, is_on, Lapse, remade, Start, view, waits}
use Rattle.decisions.proofs.HandedOver.{graces-handed-over, transfer_alone}
use Rattle.decisions.proofs.{CommandCases.{IsDeletable, IsPayable, IsUpdateOf}, Words.{DomainUpdate, Request}}
use Rattle.decisions.proofs.Lemmas.{AllMeet, AsksFor, CommandCases, face-seen, graces_kept, graces_put, lines-stay, one-or-apart, own-account, request-cases}
use Rattle.decisions.proofs.{Lemmas.{test-elsewhere, none-is}, Words.{domain_roid, DomainFace}, ViewLemmas.{KeepsGraces, Meets, own, same_number}}
use Rattle.accounts.specs.declared.line.LineKind.TheVariants as kinds
use Rattle.policy.proofs.TextLemmas.{list_any_of_map}

-- ---- the graces of a domain that is put can be told from what is seen

pub eq-self : (a : ℕ) → eq_by_cmp nat_cmp a a ≡ true
eq-self a = (eq_by_cmp_equiv nat_cmp_total).refl a

-- ---- a domain that is put

module _ (p : PolicyRules) (r : ℕ) (s : Registry) where
  -- the registrar's own has the graces of its lines
  pub put-own : (d : Domain) → eq_by_cmp nat_cmp d.sponsor r ≡ true → graces_of p s d ≡ graces_put p r d (view p r s)
  put-own d e =
      ap (λ (k : ℕ). graces p s.clock d.roid d.transferred (account_of k s).lines) (same_number d.sponsor r e)
      ∙ sym (ap (λ (b : Bool). cond b (graces p s.clock d.roid d.transferred (account_of r s).lines) (graces_kept d.sponsor (get (view p r s).domains d.name))) e)

  -- another's has those that were seen, where this was its sponsor before
  pub kept-at : (sponsor : ℕ) (name : List ℕ) (before : Domain) → get s.domains name ≡ Some before
      → graces_kept sponsor (get (view p r s).domains name) ≡ cond (eq_by_cmp nat_cmp before.sponsor sponsor) (graces_of p s before) transfer_alone
  kept-at sponsor name before found =
      ap (graces_kept sponsor) (get-map_values (slice_cmp nat_cmp) nat_list_cmp_total names_apart (λ name. domain_sight p r s None) s.domains name ∙ ap (option_map (domain_sight p r s None)) found)
      ∙ ap (λ (face : DomainFace). cond (eq_by_cmp nat_cmp face.sponsor sponsor) face.standing.graces transfer_alone) (face-seen r None (standing_of p s before) before)

  pub put-by : (d : Domain) (b : Bool) → eq_by_cmp nat_cmp d.sponsor r ≡ b → (b ≡ false → graces_of p s d ≡ graces_kept d.sponsor (get (view p r s).domains d.name)) → graces_of p s d ≡ graces_put p r d (view p r s)
  put-by d true e h = put-own d e
  put-by d false e h = h refl ∙ sym (ap (λ (b : Bool). cond b (graces p s.clock d.roid d.transferred (account_of r s).lines) (graces_kept d.sponsor (get (view p r s).domains d.name))) e)

  -- one whose sponsor, ROID and last completed transfer stay has the graces that were seen
  pub put-again : (before d : Domain) → get s.domains d.name ≡ Some before → d.sponsor ≡ before.sponsor → graces_of p s d ≡ graces_of p s before → graces_of p s d ≡ graces_put p r d (view p r s)
  put-again before d found sponsor alike = put-by d (eq_by_cmp nat_cmp d.sponsor r) refl (λ not_own.
      alike ∙ sym (kept-at d.sponsor d.name before found
      ∙ ap (λ (b : Bool). cond b (graces_of p s before) transfer_alone) (ap (λ (k : ℕ). eq_by_cmp nat_cmp before.sponsor k) sponsor ∙ eq-self before.sponsor)))

-- ---- graces that a posting leaves

module _ (p : PolicyRules) (t : ℕ) (roid : Roid) (since : Option ℕ) where
  abbrev gives_now : LineKind → Line → Bool
  gives_now kind l = gives kind p t roid since l

  -- a charge whose grace hasn't begun gives none
  begun-not : (kind : LineKind) (l : Line) → l.started ≡ None → gives_now kind l ≡ false
  begun-not kind l e =
      ap (λ (started : Option ℕ). is_kind l.kind kind && (is_on roid l && (not (is_some l.refunded) && runs_from p t since started (period_of l.kind)))) e
      ∙ and_right (is_kind l.kind kind) _ (and_right (is_on roid l) _ (and_right (not (is_some l.refunded)) false refl))

  refund-same : (x : TransferRefund) (kind : LineKind) (l : Line) → gives_now kind (transfer_refunded x l) ≡ gives_now kind l
  refund-same x kind l =
      cond_both (waits x.roid l) (record l { refunded = Some x.moment }) l (λ m. gives_now kind m ≡ gives_now kind l)
      (λ w.
      let none : l.started ≡ None = none-is l.started
      (not-true _ (and_parts (is_for_transfer x.roid l) (not (is_some l.started)) w).1) in
      begun-not kind (record l { refunded = Some x.moment }) none ∙ sym (begun-not kind l none))
      (λ w. refl)

  asks-for : (kind : LineKind) → AsksFor roid (gives_now kind)
  asks-for kind l off = unasked (is_kind l.kind kind) (is_on roid l) (not (is_some l.refunded) && runs_from p t since l.started (period_of l.kind)) off

  any-same : (kind : LineKind) (f : Line → Line) → ((l : Line) → gives_now kind (f l) ≡ gives_now kind l) → (ls : List Line) → list_any (gives_now kind) (remade in_order f ls) ≡ list_any (gives_now kind) ls
  any-same kind f same ls = any-bag_of in_order (gives_now kind) (map f ls) ∙ list_any_of_map (gives_now kind) f ls ∙ (λ i. list_any (λ (l : Line). same l i) ls)

  -- lines made anew that give what they gave
  graces-same : (f : Line → Line) → ((kind : LineKind) (l : Line) → gives_now kind (f l) ≡ gives_now kind l) → (ls : List Line) → graces p t roid since (remade in_order f ls) ≡ graces p t roid since ls
  unfolding graces
  graces-same f same ls = λ i. record {
    add = any-same kinds.Create f (same kinds.Create) ls i;
    auto_renew = any-same kinds.AutoRenew f (same kinds.AutoRenew) ls i;
    renew = any-same kinds.Renew f (same kinds.Renew) ls i;
    transfer = any-same kinds.Transfer f (same kinds.Transfer) ls i;
  }

  -- the refund of a charge that waits ends no grace
  pub graces-refunded : (x : TransferRefund) (ls : List Line) → graces p t roid since (remade in_order (transfer_refunded x) ls) ≡ graces p t roid since ls
  graces-refunded x ls = graces-same (transfer_refunded x) (refund-same x) ls

  -- what begins on another domain begins none on this one
  pub graces-elsewhere : (x : TransferStart) → is_same_roid x.roid roid ≡ false → (ls : List Line) → graces p t roid since (remade in_order (transfer_started x) ls) ≡ graces p t roid since ls
  graces-elsewhere x apart ls = graces-same (transfer_started x) (λ kind. test-elsewhere roid x.roid (gives_now kind) (asks-for kind) apart (transfer_started x) (start-elsewhere x) (start-stays x)) ls

pub refund-keeps : (p : PolicyRules) (q : ℕ) (x : TransferRefund) (s : Registry) → KeepsGraces p q (account_changed p (RefundTransfer x)) s
refund-keeps p q x s = λ name d at own. graces-refunded p s.clock d.roid d.transferred x (account_of q s).lines

-- ---- a domain that is handed over, as its last sponsor sees it

module _ (p : PolicyRules) (sound : IsSound p) (r : ℕ) (s : Registry) (is : MeetsStandards p s) where
  -- the registry once the command is counted
  abbrev counted : Registry
  counted = with_account r with_command s

  module _ (name : List ℕ) (d : Domain) (at : get s.domains name ≡ Some d) (y : Transfer) (last : d.transfer ≡ Some y) (pending : is_pending_state y.state ≡ true) (sponsored : r ≡ d.sponsor) where
    -- the transfer, approved now
    abbrev x : Transfer
    x = ended ClientApproved s.clock y

    abbrev years : ℕ
    years = gained d s.clock

    abbrev start : TransferStart
    start = record { roid = d.roid; moment = s.clock; years = years }

    -- whoever approves it is the sponsor
    other-sponsor : eq_by_cmp nat_cmp y.requester r ≡ false → y.requester ≢ d.sponsor
    other-sponsor apart same =
        let never : true ≡ false = sym (ap (λ (k : ℕ). eq_by_cmp nat_cmp k r) (same ∙ sym sponsored) ∙ eq-self r) ∙ apart in
        cc

    -- the requester's other domains have the graces that they had
    start-keeps : y.requester ≢ d.sponsor → KeepsGraces p y.requester (account_changed p (Lapse (Start start))) counted
    start-keeps other n e found own = ⊎_elim (λ it. absurd (other (sym own ∙ ap (λ (z : Domain). z.sponsor) (sym it))))
        (λ apart. graces-elsewhere p s.clock e.roid e.transferred start apart (account_of y.requester counted).lines)
        (one-or-apart domain_roid s.domains name d at (λ n e found same. is.identities.domain_roids n name e d found at same) n e found)

    -- a requester that approves it sees its own account
    pub start-meets : Meets p r (Post y.requester (Lapse (Start start))) counted
    start-meets = ⊎_elim (λ same. inl (same_number y.requester r same)) (λ apart. inr (start-keeps (other-sponsor apart)))
        (cases_Bool (eq_by_cmp nat_cmp y.requester r))

    -- the registry once the grace of the transfer has begun
    abbrev begun : Registry
    begun = changed p (Post y.requester (Lapse (Start start))) counted

    abbrev handed : Domain
    handed = handed_over x years d

    lines-begun : (account_of y.requester begun).lines ≡ remade in_order (transfer_started start) (account_of y.requester s).lines
    lines-begun =
        ap (λ (a : Account). a.lines) (own-account y.requester (entered (Start start)) counted)
        ∙ ap (remade in_order (transfer_started start)) (lines-stay s r with_command (λ a. refl) y.requester)

    -- its requester sees it by its own lines, and any other with the grace of the transfer alone
    pub handed-meets : Meets p r (PutDomain handed) begun
    handed-meets = put-by p r begun handed (eq_by_cmp nat_cmp y.requester r) refl (λ apart.
        ap (graces p s.clock d.roid (Some s.clock)) lines-begun
        ∙ graces-handed-over p s is name d y at last pending (other-sponsor apart) sound years
        ∙ sym (kept-at p r begun y.requester d.name d there
        ∙ ap (λ (b : Bool). cond b (graces_of p begun d) transfer_alone) (false_from_ne_true (eq_by_cmp nat_cmp d.sponsor y.requester) (λ e. other-sponsor apart (sym (same_number d.sponsor y.requester e))))))
      where
        there : get s.domains d.name ≡ Some d
        there = ap (get s.domains) (is.domains name d at).is_at.named ∙ at

  -- ---- every command

  -- a domain stands where it stood, which is the sponsor's, and was transferred when it was
  again : (name : List ℕ) (d after : Domain) → get s.domains name ≡ Some d → after.name ≡ d.name → after.sponsor ≡ d.sponsor → graces_of p counted after ≡ graces_of p counted d
      → Meets p r (PutDomain after) counted
  again name d after at called sponsor alike = put-again p r counted d after (ap (get s.domains) (called ∙ (is.domains name d at).is_at.named) ∙ at) sponsor alike

  commands-meet : (cl_trid : Option (List ℕ)) → CommandCases p r cl_trid s (λ q changes. AllMeet p r changes counted)
  commands-meet cl_trid = search (
    inl,
    inr,
    again,
    put-own p r counted,
    eq-self,
    start-meets,
    handed-meets,
    refund-keeps p,
    λ (name : List ℕ) (d e : Domain) (it : IsDeletable r s name d). again name d e it.at,
    λ (u : DomainUpdate) (d e : Domain) (it : IsUpdateOf s u d). again (name_of u.name) d e it.at,
    λ (q : Request) (name : List ℕ) (d e : Domain) (it : IsPayable p r cl_trid s q name d). again name d e it.at,
  )

-- what a command changes meets what is asked
pub meets-decided : (p : PolicyRules) → IsSound p → (r : ℕ) (c : Command) (s : Registry) → MeetsStandards p s → AllMeet p r (decision p r c s).changes s
unfolding changes_after
meets-decided p sound r (Bad cl_trid fault) s is = (inl refl, tt)
meets-decided p sound r (Asked cl_trid q) s is = (inl refl, request-cases p r cl_trid s _ (commands-meet p sound r s is cl_trid) q)
