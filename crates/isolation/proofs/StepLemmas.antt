-- One step in each of two runs.
use Rattle.std.proofs.Common.{◌≡◌, ◌≢◌, ℕ, ℤ, Bool, true, false, cond, ◌&&◌, ◌==◌, List, [], Option, Some, None, is_none, option_and_then, option_map, refl, sym, ap, subst, ◌∙◌, eqb-true}
use Rattle.std.proofs.lemmas.Bool.{ne_eqb}
use Rattle.model.specs.declared.object.Object.TheVariants as objects
use Rattle.model.specs.Objects.{object_at}
use Rattle.objects.specs.declared.roid.ObjectKind.{ObjectKind}
use Rattle.objects.specs.declared.roid.ObjectKind.TheVariants as kinds
use Rattle.protocol.specs.{Codes.is_accepted, declared.{code.Code.Code, order.{Order.Order, StatusOrder.StatusOrder}}, Orders.name_ordered}
use Rattle.protocol.specs.declared.order.Order.TheVariants as orders
use Rattle.decisions.specs.Decisions.{changes_after, changes_of}
use Rattle.decisions.specs.Orders.{cents_of, deposit_line, deposited, deposited_to, order_answer, order_changes, order_effect, ordered}
use Rattle.rules.proofs.LawLemmas.{granting}
use Rattle.rules.specs.Verdicts.{granted, judged, unless_refused}
use Rattle.isolation.specs.Runs.{answer_to, command, date, dated, effect_of, inspection, is_asked_by, look_up, order, reply, shown}
use Rattle.isolation.proofs.ChangeLemmas.{AreAlikeChanges, IsAlikeChange, changed-alike, deposited-alike, give-alike, put-contact-alike, put-domain-alike, same-change, same-changes}
use Rattle.isolation.proofs.{CommandLemmas.{hidden-request, same-request}, OwnLemmas.{answer-alike, decision-alike, same-public}}
use Rattle.isolation.proofs.PairLemmas.{equal-lists, no-changes, through}
use Rattle.isolation.proofs.RedactionLemmas.{left_out-twice, one-but-more, same-clock, same-contact, same-domain, same-hosts, secret-twice}
use Rattle.isolation.proofs.Words.{slice_cmp, FinMap, get, list_any, nat_cmp, and_from, eq-eqb, false≢true, or_left, or_right, true≢false, same_Some, Facts}
use Rattle.isolation.proofs.Words.{facts, CountCommand, Registry, Contact, Domain, Host, Roid, PolicyRules, place_of, Command, Asked, Bad, Request, asks_of}
use Rattle.isolation.proofs.Words.{Change, Post, PutContact, changed_all, answer, decision, effect, refusing, refusal_of, Hidden, IsAlike, Pair}
use Rattle.isolation.proofs.Words.{PresentsNone, deposits, first, hidden, puts, same, second, touched_by, with_hidden, Objects, AreOne}
use Rattle.isolation.proofs.Words.{is_redacted, redacted, redacted_contact, redacted_domain}

-- ---- a command that is carried out, and one that isn't

accepted-changes : (p : PolicyRules) (q u : ℕ) (cl_trid : Option (List ℕ)) (request : Request) (f : Facts) → refusal_of p q u request f ≡ None
    → changes_after p q u (Asked cl_trid request) f (judged p q u (Asked cl_trid request) f).code ≡ changes_of p q u request f
unfolding changes_after judged
accepted-changes p q u cl_trid request f taken =
    ap (λ (refusal : Option Code). cond (is_accepted (unless_refused refusal (granted p q u request f)).code) (changes_of p q u request f) []) taken
    ∙ ap (λ (b : Bool). cond b (changes_of p q u request f) []) (granting request f)

refused-changes : (p : PolicyRules) (q u : ℕ) (cl_trid : Option (List ℕ)) (request : Request) (f : Facts) (code : Code) → refusal_of p q u request f ≡ Some code
    → changes_after p q u (Asked cl_trid request) f (judged p q u (Asked cl_trid request) f).code ≡ []
unfolding changes_after judged
refused-changes p q u cl_trid request f code refused =
    ap (λ (refusal : Option Code). cond (is_accepted (unless_refused refusal (granted p q u request f)).code) (changes_of p q u request f) []) refused
    ∙ ap (λ (b : Bool). cond b (changes_of p q u request f) []) (refusing p q u request f code refused)

accepted-code : (p : PolicyRules) (q u : ℕ) (cl_trid : Option (List ℕ)) (request : Request) (f : Facts) → refusal_of p q u request f ≡ None → is_accepted (judged p q u (Asked cl_trid request) f).code ≡ true
unfolding judged
accepted-code p q u cl_trid request f taken = ap (λ (refusal : Option Code). is_accepted (unless_refused refusal (granted p q u request f)).code) taken ∙ granting request f

refused-code : (p : PolicyRules) (q u : ℕ) (cl_trid : Option (List ℕ)) (request : Request) (f : Facts) (code : Code) → refusal_of p q u request f ≡ Some code → is_accepted (judged p q u (Asked cl_trid request) f).code ≡ false
unfolding judged
refused-code p q u cl_trid request f code refused = ap (λ (refusal : Option Code). is_accepted (unless_refused refusal (granted p q u request f)).code) refused ∙ refusing p q u request f code refused

-- ---- another's command

module _ (p : PolicyRules) (r q : ℕ) (other : q ≢ r) (touched : Objects) (s t : Registry) (one : AreOne r touched s t) (cl_trid : Option (List ℕ)) (request request_too : Request) where
  abbrev asked : Command
  asked = Asked cl_trid request

  abbrev asked_too : Command
  asked_too = Asked cl_trid request_too

  abbrev here : Facts
  here = facts p q asked s

  abbrev there : Facts
  there = facts p q asked_too t

  module _ (codes : (answer p q asked s).code ≡ (answer p q asked_too t).code)
      (alike : refusal_of p q s.clock request here ≡ None → refusal_of p q t.clock request_too there ≡ None → AreAlikeChanges p r touched (changes_of p q s.clock request here) (changes_of p q s.clock request_too there)) where
    after-by : (mine yours : Option Code) → refusal_of p q s.clock request here ≡ mine → refusal_of p q t.clock request_too there ≡ yours
        → AreAlikeChanges p r touched (changes_after p q s.clock asked here (answer p q asked s).code) (changes_after p q t.clock asked_too there (answer p q asked_too t).code)
    after-by None None e f =
        subst (λ (xs : List Change). AreAlikeChanges p r touched xs (changes_after p q t.clock asked_too there (answer p q asked_too t).code)) (sym (accepted-changes p q s.clock cl_trid request here e))
        (subst (λ (ys : List Change). AreAlikeChanges p r touched (changes_of p q s.clock request here) ys)
        (ap (λ (u : ℕ). changes_of p q u request_too there) (same-clock r touched s t one) ∙ sym (accepted-changes p q t.clock cl_trid request_too there f)) (alike e f))
    after-by None (Some code) e f = absurd (true≢false (sym (accepted-code p q s.clock cl_trid request here e) ∙ ap is_accepted codes ∙ refused-code p q t.clock cl_trid request_too there code f))
    after-by (Some code) None e f = absurd (true≢false (sym (accepted-code p q t.clock cl_trid request_too there f) ∙ ap is_accepted (sym codes) ∙ refused-code p q s.clock cl_trid request here code e))
    after-by (Some code) (Some other_code) e f =
        no-changes p r touched _ _ (refused-changes p q s.clock cl_trid request here code e) (refused-changes p q t.clock cl_trid request_too there other_code f)

    other-asked : AreOne r touched (effect p q asked s) (effect p q asked_too t)
    other-asked = changed-alike p r touched (decision p q asked s).changes (decision p q asked_too t).changes
        (same-change p r touched (Post q CountCommand), after-by (refusal_of p q s.clock request here) (refusal_of p q t.clock request_too there) refl refl) s t one

module _ (p : PolicyRules) (r q : ℕ) (other : q ≢ r) (touched : Objects) (s t : Registry) (one : AreOne r touched s t) where
  pub other-command : (c : Command) → (answer p q c s).code ≡ (answer p q c t).code → AreOne r touched (effect p q c s) (effect p q c t)
  unfolding changes_after
  other-command (Bad cl_trid fault) codes = changed-alike p r touched (decision p q (Bad cl_trid fault) s).changes (decision p q (Bad cl_trid fault) t).changes (same-change p r touched (Post q CountCommand), tt) s t one
  other-command (Asked cl_trid request) codes = other-asked p r q other touched s t one cl_trid request request codes (same-request p r q other touched s t one cl_trid request)

module _ (p : PolicyRules) (r q : ℕ) (other : q ≢ r) (touched : Objects) (s t : Registry) (one : AreOne r touched s t) (cl_trid : Option (List ℕ)) (request : Request) (h : Hidden) where
  abbrev later : Objects
  later = touched_by p (hidden q cl_trid request h) s touched

  -- what is put by a command that sets hidden data, and isn't refused, is touched from then on
  put-marks : refusal_of p q s.clock request (facts p q (Asked cl_trid request) s) ≡ None → is_none (asks_of request).secret ≡ true → (roid : Roid)
      → list_any (puts roid) (changes_of p q s.clock request (facts p q (Asked cl_trid request) s)) ≡ true → later roid ≡ true
  put-marks taken sets roid put =
      or_right (touched roid) (is_none (asks_of request).secret && list_any (puts roid) (decision p q (Asked cl_trid request) s).changes)
      (and_from (is_none (asks_of request).secret) _ sets (ap (λ (xs : List Change). list_any (puts roid) xs) (accepted-changes p q s.clock cl_trid request (facts p q (Asked cl_trid request) s) taken) ∙ put))

  pub other-hidden : (answer p q (Asked cl_trid request) s).code ≡ (answer p q (Asked cl_trid (with_hidden h request)) t).code
      → AreOne r later (effect p q (Asked cl_trid request) s) (effect p q (Asked cl_trid (with_hidden h request)) t)
  other-hidden codes =
      let more : AreOne r later s t = one-but-more r touched later (λ roid e. or_left (touched roid) _ e) s t one in
      other-asked p r q other later s t more cl_trid request (with_hidden h request) codes
      (λ taken taken_too. hidden-request p r q other later s t more cl_trid h request taken taken_too (put-marks taken))

-- ---- the operator's orders

module _ (p : PolicyRules) (r : ℕ) (touched : Objects) (s t : Registry) (one : AreOne r touched s t) where
  module _ (o : StatusOrder) where
    ordered-contact : (a b : Option Contact) → option_map (redacted_contact r touched) a ≡ option_map (redacted_contact r touched) b
        → AreAlikeChanges p r touched (order_changes o (option_map objects.Contact a)) (order_changes o (option_map objects.Contact b))
    ordered-contact None None alike = tt
    ordered-contact (Some c) (Some d) alike = through p r touched (redacted_contact r touched) (λ x. order_changes o (Some (objects.Contact x))) c d (same_Some _ _ alike) (kept c, tt) (kept d, tt)
      where
        kept : (x : Contact) → IsAlikeChange p r touched (PutContact (record x { statuses = ordered o x.statuses })) (PutContact (record (redacted_contact r touched x) { statuses = ordered o x.statuses }))
        kept x = put-contact-alike p r touched _ _ (left_out-twice (is_redacted r touched x.roid x.sponsor x.transfer) (is_redacted r touched x.roid x.sponsor x.transfer) (λ e. e) x.secret x.postal x.voice x.mail (record x { statuses = ordered o x.statuses }))
    ordered-contact a b alike = absurd cc

    ordered-domain : (a b : Option Domain) → option_map (redacted_domain r touched) a ≡ option_map (redacted_domain r touched) b
        → AreAlikeChanges p r touched (order_changes o (option_map objects.Domain a)) (order_changes o (option_map objects.Domain b))
    ordered-domain None None alike = tt
    ordered-domain (Some c) (Some d) alike = through p r touched (redacted_domain r touched) (λ x. order_changes o (Some (objects.Domain x))) c d (same_Some _ _ alike)
        (put-domain-alike p r touched _ _ (kept c), tt) (put-domain-alike p r touched _ _ (kept d), tt)
      where
        kept : (x : Domain) → redacted_domain r touched (record x { statuses = ordered o x.statuses }) ≡ redacted_domain r touched (record (redacted_domain r touched x) { statuses = ordered o x.statuses })
        kept x = secret-twice (is_redacted r touched x.roid x.sponsor x.transfer) (is_redacted r touched x.roid x.sponsor x.transfer) (λ e. e) x.secret (record x { statuses = ordered o x.statuses })
    ordered-domain a b alike = absurd cc

    ordered-kind : (kind : ObjectKind) (name : List ℕ) → AreAlikeChanges p r touched (order_changes o (object_at s kind name)) (order_changes o (object_at t kind name))
    ordered-kind kinds.Contact name = ordered-contact (get s.contacts name) (get t.contacts name) (same-contact r touched s t one name)
    ordered-kind kinds.Domain name = ordered-domain (get s.domains name) (get t.domains name) (same-domain r touched s t one name)
    ordered-kind kinds.Host name = equal-lists p r touched _ _ (ap (λ (m : FinMap (slice_cmp nat_cmp) Host). order_changes o (option_map objects.Host (get m name))) (same-hosts r touched s t one))

    ordered-name : (name : Option (List ℕ)) → AreAlikeChanges p r touched (order_changes o (option_and_then (object_at s o.kind) name)) (order_changes o (option_and_then (object_at t o.kind) name))
    ordered-name None = tt
    ordered-name (Some name) = ordered-kind o.kind name

    -- by whether it is refused
    ordered-by : (a b : Bool) (xs ys : List Change) → a ≡ b → AreAlikeChanges p r touched xs ys → AreAlikeChanges p r touched (cond a xs []) (cond b ys [])
    ordered-by true true xs ys e alike = alike
    ordered-by true false xs ys e alike = absurd (true≢false e)
    ordered-by false true xs ys e alike = absurd (false≢true e)
    ordered-by false false xs ys e alike = tt

  pub same-order : (o : Order) → order_answer p o s ≡ order_answer p o t → AreOne r touched (order_effect p o s) (order_effect p o t)
  same-order (orders.Status o) codes = changed-alike p r touched _ _ (ordered-by o _ _ _ _ (ap is_accepted codes) (ordered-name o (name_ordered p.zone o))) s t one
  same-order (orders.Deposit registrar cents) codes =
      changed-alike p r touched _ _ (equal-lists p r touched _ _ (ap (λ (u : ℕ). (deposited p u registrar (cents_of cents)).changes) (same-clock r touched s t one))) s t one

  -- deposits of other cents to another registrar
  deposits-to : (place : Option ℕ) → place ≢ Some r → (a b : ℕ) → AreAlikeChanges p r touched (deposited_to s.clock a place).changes (deposited_to t.clock b place).changes
  deposits-to None other a b = tt
  deposits-to (Some q) other a b =
      (give-alike p r touched q _ _ (deposited-alike p r q (λ same. other (ap (λ (n : ℕ). Some n) same)) (deposit_line s.clock a) (deposit_line t.clock b) refl refl), tt)

  refused-to : (place : Option ℕ) (u a : ℕ) → (deposited p u [] None).code ≡ (deposited_to u a place).code → (deposited_to u a place).changes ≡ []
  refused-to None u a e = refl
  refused-to (Some q) u a e = absurd cc

  deposits-by : (registrar : List ℕ) → place_of registrar p ≢ Some r → (a b : Option ℕ) → (deposited p s.clock registrar a).code ≡ (deposited p t.clock registrar b).code
      → AreAlikeChanges p r touched (deposited p s.clock registrar a).changes (deposited p t.clock registrar b).changes
  deposits-by registrar other None None codes = tt
  deposits-by registrar other None (Some b) codes = no-changes p r touched _ _ refl (refused-to (place_of registrar p) t.clock b codes)
  deposits-by registrar other (Some a) None codes = no-changes p r touched _ _ (refused-to (place_of registrar p) s.clock a (sym codes)) refl
  deposits-by registrar other (Some a) (Some b) codes = deposits-to (place_of registrar p) other a b

  pub other-deposit : (registrar : List ℕ) → place_of registrar p ≢ Some r → (a b : ℤ) → order_answer p (orders.Deposit registrar a) s ≡ order_answer p (orders.Deposit registrar b) t
      → AreOne r touched (order_effect p (orders.Deposit registrar a) s) (order_effect p (orders.Deposit registrar b) t)
  other-deposit registrar other a b codes = changed-alike p r touched _ _ (deposits-by registrar other (cents_of a) (cents_of b) codes) s t one

-- ---- each pair of questions

module _ (p : PolicyRules) (r : ℕ) (touched : Objects) (s t : Registry) (one : AreOne r touched s t) where
  -- the registrar's own command
  own-command : (c : Command) → PresentsNone touched c s → PresentsNone touched c t → AreOne r touched (effect p r c s) (effect p r c t) × (answer p r c s ≡ answer p r c t)
  own-command c mine yours = (
    changed-alike p r touched (decision p r c s).changes (decision p r c s).changes (same-changes p r touched (decision p r c s).changes) s t one
        ∙ ap (λ d. redacted r touched (changed_all p d.changes t)) (decision-alike p r touched c s t one mine yours),
    answer-alike p r touched c s t one mine yours,
  )

  by-caller : (q : ℕ) (c : Command) (b : Bool) → (q == r) ≡ b → IsAlike p r touched (same (command q c)) s t
      → AreOne r touched (effect p q c s) (effect p q c t) × (b ≡ true → answer_to p (command q c) s ≡ answer_to p (command q c) t)
  by-caller q c true e alike =
      let own : q ≡ r = eqb-true q r e in
      let mine = own-command c (alike.presents own) (alike.presents_too own) in
      (subst (λ (n : ℕ). AreOne r touched (effect p n c s) (effect p n c t)) (sym own) mine.0, λ f. ap reply (subst (λ (n : ℕ). answer p n c s ≡ answer p n c t) (sym own) mine.1))
  by-caller q c false e alike = (other-command p r q (λ own. absurd (true≢false (sym (ap (λ (n : ℕ). n == r) own ∙ eq-eqb r r refl) ∙ e))) touched s t one c (same_Some _ _ (alike.codes e)), λ f. absurd (false≢true f))

-- registries that are one but for what is touched are so afterwards, and the registrar is told the same
pub pairs-step : (p : PolicyRules) (r : ℕ) (touched : Objects) (pair : Pair) (s t : Registry) → AreOne r touched s t → IsAlike p r touched pair s t
    → AreOne r (touched_by p pair s touched) (effect_of p (first pair) s) (effect_of p (second pair) t)
    × (is_asked_by r (first pair) ≡ true → answer_to p (first pair) s ≡ answer_to p (second pair) t)
pairs-step p r touched (same (command q c)) s t one alike = by-caller p r touched s t one q c (q == r) refl alike
pairs-step p r touched (same (order o)) s t one alike = (same-order p r touched s t one o (same_Some _ _ (alike.codes refl)), λ e. absurd (false≢true e))
pairs-step p r touched (same date) s t one alike = (one, λ e. ap dated (same-clock r touched s t one))
pairs-step p r touched (same look_up) s t one alike = (one, λ e. ap shown (same-public p r touched s t one))
pairs-step p r touched (same inspection) s t one alike = (one, λ e. absurd (false≢true e))
pairs-step p r touched (hidden q cl_trid request h) s t one alike =
    let apart_too : (q == r) ≡ false = ne_eqb q r alike.elsewhere in
    (other-hidden p r q alike.elsewhere touched s t one cl_trid request h (same_Some _ _ (alike.codes apart_too)), λ e. absurd (true≢false (sym e ∙ apart_too)))
pairs-step p r touched (deposits registrar cents others) s t one alike =
    (other-deposit p r touched s t one registrar alike.elsewhere cents others (same_Some _ _ (alike.codes refl)), λ e. absurd (false≢true e))
