-- What a command changes may be changed before the rest of what is due lapses, or afterwards.
use Rattle.std.proofs.Common.{◌≡◌, ◌⊎◌, ⊎_elim, ℕ, Bool, true, false, cond, not, ◌&&◌, List, [], ◌∷◌, ◌++◌, map, Option, Some, None, is_some, option_map, refl, sym, ap, subst, ◌∙◌, arith}
use Rattle.std.proofs.lemmas.Bool.{cond_both, not-false, true≢false}
use Rattle.std.specs.{Prelude.fold, Cmp.{nat_cmp_total, Lexicographic.{slice_cmp, nat_list_cmp_total}}}
use Rattle.std.specs.FinMap.{FinMap, entries, get, insert, remove, get-insert, get-remove, nat_cmp-IsAntisymmetric, same_map}
use Rattle.std.specs.{Option.option_map_or, Ordering.{eq_by_cmp, nat_cmp}}
use Rattle.accounts.specs.declared.{account.Account.Account, entries.LapseEntry.{LapseEntry, TheVariants.{Notice, Renewal, Start}}}
use Rattle.accounts.specs.declared.{entries.Posting.Posting, line.{Line.Line, TransferRefund.TransferRefund, TransferStart.TransferStart}}
use Rattle.accounts.specs.{declared.message.Message.Message, Account.{empty_account, saturating_next}}
use Rattle.accounts.specs.Entries.{entered, posted, renewal_line}
use Rattle.accounts.specs.LineChanges.{refund-elsewhere, refund-stays, start-elsewhere, start-stays}
use Rattle.accounts.specs.Lines.{begins_by, in_order, is_kind, is_of, is_on, is_same_roid, transfer_refunded, transfer_started}
use Rattle.accounts.specs.{MessageOrder.message_cmp_total, Messages.message_cmp}
use Rattle.accounts.specs.declared.line.LineKind.TheVariants as lines
use Rattle.accounts.proofs.{EntryLaws.{entries-swap, insert_key-swap, postings_commute}, LineLaws.lines_in_order}
use Rattle.accounts.proofs.{MessageLaws.message_cmp_only, EntryLaws.remade-swap}
use Rattle.basis.specs.{Bag.{add, remade}, Maps.map_values, Sweeps.{change_at, given, given_list, kept}}
use Rattle.basis.proofs.{ApartLaws.{get-kept, given_apart, given_insert}, BagLaws.{add-add, remade-add}, ChangeLaws.change_at-commutes}
use Rattle.basis.proofs.{MapLemmas.{entries-map_values, get-map_values, names_apart}, SweepLaws.fold_append}
use Rattle.lifecycle.specs.declared.change.AccountChange.{AccountChange}
use Rattle.lifecycle.specs.declared.change.AccountChange.TheVariants.{Charge, RefundRunning, RefundTransfer, Lapse, Notify, Ack, CountCommand, TakeSerial}
use Rattle.lifecycle.specs.declared.{change.Notification.Notification, lapsed.Lapsed.Lapsed}
use Rattle.lifecycle.specs.Changes.{changed as account_changed, numbered}
use Rattle.lifecycle.specs.{Lapse.{due_by, lapse, lapse_by, lapse_contact, leaves, lived, purged, renewals}, Turns.turns}
use Rattle.objects.specs.declared.{contact.Contact.Contact, domain.{Deletion.Deletion, Domain.Domain}, host.Host.Host, roid.Roid.Roid}
use Rattle.objects.specs.declared.transfer.Transfer.{Transfer}
use Rattle.policy.specs.Rules.{PolicyRules}
use Rattle.model.specs.{Lapse.{Choice, accounts_at, at, lapse as lapse_registry, lapse_if, lapse_some, now, postings}, LapseLaws.HasAllDue}
use Rattle.model.specs.Registry.{Registry}
use Rattle.model.proofs.{LapseLaws.{all-due-lapse-as-all, lapses-on-from-some}, SweepLemmas.{gives, left, registry}}
use Rattle.decisions.specs.declared.change.Change.{Change}
use Rattle.decisions.specs.declared.change.Change.TheVariants.{PutContact, DropContact, PutDomain, DropDomain, PutHost, DropHost, RenameHost, Post}
use Rattle.decisions.specs.Changes.{changed, changed_all, host_renamed, may_rename, with_host_renamed}
use Rattle.concerns.specs.{declared.given.Names.Names, Concerns.{IsSettledIn, concerned, is_about, without}}
use Rattle.concerns.proofs.{PostedLemmas.{IsElsewhere, contact-elsewhere, domain-elsewhere, post-weaker}, ConcernLemmas.is_in}
use Rattle.concerns.proofs.FactsLemmas.{contact-not-about, domain-not-about, roid-off}
use Rattle.decisions.proofs.{LineEntryLemmas.{AllOff, IsOff, on-one}, LineTimeLemmas.{completed-off, domain-off}}
use Rattle.decisions.proofs.PostingLemmas.{AllPosted, posted-both, posted-given}
use Rattle.decisions.proofs.NamedLemmas.{drop-cases, put-cases, remade-cases, same_name}

-- ---- a sweep of a map, one of whose names it leaves alone

module _ {X : Type 0} (f : List ℕ → X → Lapsed X) (m : FinMap (slice_cmp nat_cmp) X) (k : List ℕ) (alone : (x : X) → f k x ≡ leaves x []) where
  at-own : (q : List ℕ) (b : Bool) (v : X) (o : Option X) → eq_by_cmp (slice_cmp nat_cmp) q k ≡ b → option_map_or (left f q) (cond b (Some v) o) None ≡ cond b (Some v) (option_map_or (left f q) o None)
  at-own q true v o e = ap (λ (n : List ℕ). left f n v) (same_name q k e) ∙ ap (λ (l : Lapsed X). l.object) (alone v)
  at-own q false v o e = refl

  kept-insert : (v : X) → kept (left f) (insert m k v) ≡ insert (kept (left f) m) k v
  kept-insert v = same_map nat_list_cmp_total names_apart _ _ (λ q.
      get-kept (slice_cmp nat_cmp) nat_list_cmp_total names_apart (left f) (insert m k v) q ∙ ap (λ (o : Option X). option_map_or (left f q) o None) (get-insert nat_list_cmp_total m k v q)
      ∙ at-own q (eq_by_cmp (slice_cmp nat_cmp) q k) v (get m q) refl
      ∙ sym (get-insert nat_list_cmp_total (kept (left f) m) k v q ∙ ap (cond (eq_by_cmp (slice_cmp nat_cmp) q k) (Some v)) (get-kept (slice_cmp nat_cmp) nat_list_cmp_total names_apart (left f) m q)))

  at-none : (q : List ℕ) (b : Bool) (o : Option X) → option_map_or (left f q) (cond b None o) None ≡ cond b None (option_map_or (left f q) o None)
  at-none q b o = grind arith

  kept-remove : kept (left f) (remove m k) ≡ remove (kept (left f) m) k
  kept-remove = same_map nat_list_cmp_total names_apart _ _ (λ q.
      get-kept (slice_cmp nat_cmp) nat_list_cmp_total names_apart (left f) (remove m k) q ∙ ap (λ (o : Option X). option_map_or (left f q) o None) (get-remove nat_list_cmp_total m k q)
      ∙ at-none q (eq_by_cmp (slice_cmp nat_cmp) q k) (get m q)
      ∙ sym (get-remove nat_list_cmp_total (kept (left f) m) k q ∙ ap (cond (eq_by_cmp (slice_cmp nat_cmp) q k) None) (get-kept (slice_cmp nat_cmp) nat_list_cmp_total names_apart (left f) m q)))

  abbrev Accounts : Type 0
  Accounts = FinMap nat_cmp Account

  silent : (o : Option X) → option_map_or (gives f k) o [] ≡ []
  silent None = refl
  silent (Some x) = ap (λ (l : Lapsed X). l.postings) (alone x)

  given-removed : (a : Accounts) → fold posted a (given (gives f) (remove m k)) ≡ fold posted a (given (gives f) m)
  given-removed a = sym (given_apart (slice_cmp nat_cmp) nat_list_cmp_total names_apart posted postings_commute (gives f) m k a
      ∙ ap (λ (es : List Posting). fold posted (fold posted a es) (given (gives f) (remove m k))) (silent (get m k)))

  given-inserted : (v : X) (a : Accounts) → fold posted a (given (gives f) (insert m k v)) ≡ fold posted a (given (gives f) m)
  given-inserted v a = given_insert (slice_cmp nat_cmp) nat_list_cmp_total names_apart posted postings_commute (gives f) m k v a
      ∙ ap (λ (es : List Posting). fold posted (fold posted a es) (given (gives f) (remove m k))) (silent (Some v)) ∙ given-removed a

-- ---- what is so of all objects that aren't chosen

module _ {X : Type 0} (chosen : List ℕ → Bool) (P : X → Type 0) where
  abbrev pub AllOthers : FinMap (slice_cmp nat_cmp) X → Type 0
  AllOthers m = (name : List ℕ) (x : X) → get m name ≡ Some x → chosen name ≡ false → P x

  others-put : (m : FinMap (slice_cmp nat_cmp) X) (k : List ℕ) (v : X) → chosen k ≡ true → AllOthers m → AllOthers (insert m k v)
  others-put m k v chose all name x at none = ⊎_elim (λ put. absurd (true≢false (sym chose ∙ ap chosen (sym put.0) ∙ none)))
      (λ before. all name x before none) (put-cases m k v name x at)

  others-drop : (m : FinMap (slice_cmp nat_cmp) X) (k : List ℕ) → AllOthers m → AllOthers (remove m k)
  others-drop m k all name x at none = all name x (drop-cases m k name x at).1 none

-- ---- a host that is renamed

module _ (p : PolicyRules) (t : ℕ) (old new : List ℕ) where
  abbrev ren : Domain → Domain
  ren d = with_host_renamed old new d

  abbrev mapped : Lapsed Domain → Lapsed Domain
  mapped l = record { object = option_map ren l.object; postings = l.postings }

  lived-renamed : (d : Domain) (o : Option Transfer) → lived p t o (ren d) ≡ mapped (lived p t o d)
  unfolding turns renewals
  lived-renamed d None = refl
  lived-renamed d (Some x) = refl

  purged-renamed : (d : Domain) (x : Deletion) (b : Bool) → (let l : Lapsed Domain = cond b (leaves (ren d) []) (purged p x (ren d)) in l) ≡ mapped (cond b (leaves d []) (purged p x d))
  purged-renamed d x b = grind arith

  by-renamed : (d : Domain) (o : Option Deletion) → lapse_by p t o (ren d) ≡ mapped (lapse_by p t o d)
  by-renamed d None = lived-renamed d (due_by t d.transfer)
  by-renamed d (Some x) = purged-renamed d x _

  lapse-renamed : (d : Domain) → lapse p t (ren d) ≡ mapped (lapse p t d)
  lapse-renamed d = by-renamed d d.deletion

  if-renamed : (b : Bool) (d : Domain) → lapse_if b (lapse p t (ren d)) (ren d) ≡ mapped (lapse_if b (lapse p t d) d)
  if-renamed true d = lapse-renamed d
  if-renamed false d = refl

module _ {X : Type 0} (f : List ℕ → X → Lapsed X) (g : X → X) (turned : (name : List ℕ) (x : X) → f name (g x) ≡ (let l : Lapsed X = record { object = option_map g (f name x).object; postings = (f name x).postings } in l)) where
  at-mapped : (q : List ℕ) (o : Option X) → option_map_or (left f q) (option_map g o) None ≡ option_map g (option_map_or (left f q) o None)
  at-mapped q None = refl
  at-mapped q (Some x) = ap (λ (l : Lapsed X). l.object) (turned q x)

  kept-mapped : (m : FinMap (slice_cmp nat_cmp) X) → kept (left f) (map_values (λ name. g) m) ≡ map_values (λ name. g) (kept (left f) m)
  kept-mapped m = same_map nat_list_cmp_total names_apart _ _ (λ q.
      get-kept (slice_cmp nat_cmp) nat_list_cmp_total names_apart (left f) (map_values (λ name. g) m) q
      ∙ ap (λ (o : Option X). option_map_or (left f q) o None) (get-map_values (slice_cmp nat_cmp) nat_list_cmp_total names_apart (λ name. g) m q)
      ∙ at-mapped q (get m q)
      ∙ sym (get-map_values (slice_cmp nat_cmp) nat_list_cmp_total names_apart (λ name. g) (kept (left f) m) q ∙ ap (option_map g) (get-kept (slice_cmp nat_cmp) nat_list_cmp_total names_apart (left f) m q)))

  list-mapped : (es : List (List ℕ × X)) → given_list (gives f) (map (λ (e : List ℕ × X). (e.0, g e.1)) es) ≡ given_list (gives f) es
  list-mapped [] = refl
  list-mapped (e ∷ es) = λ i. (turned e.0 e.1 i).postings ++ list-mapped es i

  given-mapped : (m : FinMap (slice_cmp nat_cmp) X) → given (gives f) (map_values (λ name. g) m) ≡ given (gives f) m
  given-mapped m = ap (given_list (gives f)) (entries-map_values (slice_cmp nat_cmp) (λ name. g) nat_list_cmp_total names_apart m) ∙ list-mapped (entries m)

-- ---- a change of an account, and what time enters into it

abbrev pub Swaps : AccountChange → PolicyRules → LapseEntry → Type 0
Swaps what p w = (a : Account) → entered w (account_changed p what a) ≡ account_changed p what (entered w a)

abbrev with_lines_so : Account → List Line → Account
with_lines_so a ls = record a { lines = ls }

module _ (p : PolicyRules) where
  charge-swaps : (l : Line) → is_kind l.kind lines.Transfer ≡ false → (w : LapseEntry) → Swaps (Charge l) p w
  charge-swaps l other (Renewal r) a = ap (with_lines_so a) (add-add in_order lines_in_order (renewal_line r) l a.lines)
  charge-swaps l other (Start x) a = ap (with_lines_so a) (remade-add in_order lines_in_order (transfer_started x) l a.lines ∙ ap (λ (m : Line). add in_order m (remade in_order (transfer_started x) a.lines)) unstarted)
    where
      unstarted : transfer_started x l ≡ l
      unstarted = ap (λ (b : Bool). cond ((b && (is_on x.roid l && not (is_some l.refunded))) && not (begins_by l.started l.years x.moment x.years)) (record l { started = Some x.moment; years = x.years }) l) other
  charge-swaps l other (Notice m) a = refl

  refund-start : (x : TransferRefund) (y : TransferStart) → is_same_roid y.roid x.roid ≡ false → (l : Line) → transfer_started y (transfer_refunded x l) ≡ transfer_refunded x (transfer_started y l)
  refund-start x y apart l = by (is_on y.roid l) refl
    where
      by : (b : Bool) → is_on y.roid l ≡ b → transfer_started y (transfer_refunded x l) ≡ transfer_refunded x (transfer_started y l)
      by true on =
          let off : is_on x.roid l ≡ false = on-one x.roid y.roid apart l on in
          let later : is_on x.roid (transfer_started y l) ≡ false = ap (is_of x.roid) (start-stays y l) ∙ off in
          ap (transfer_started y) (refund-elsewhere x l off) ∙ sym (refund-elsewhere x (transfer_started y l) later)
      by false off =
          let later : is_on y.roid (transfer_refunded x l) ≡ false = ap (is_of y.roid) (refund-stays x l) ∙ off in
          start-elsewhere y (transfer_refunded x l) later ∙ ap (transfer_refunded x) (sym (start-elsewhere y l off))

  refund-swaps : (x : TransferRefund) (w : LapseEntry) → IsOff x.roid w → Swaps (RefundTransfer x) p w
  refund-swaps x (Renewal r) off a = ap (with_lines_so a) (sym (remade-add in_order lines_in_order (transfer_refunded x) (renewal_line r) a.lines))
  refund-swaps x (Start y) off a = ap (with_lines_so a) (remade-swap (transfer_started y) (transfer_refunded x) (refund-start x y off) a.lines)
  refund-swaps x (Notice m) off a = refl

  tell-swaps : (n : Notification) (w : LapseEntry) → Swaps (Notify n) p w
  tell-swaps n (Renewal r) a = refl
  tell-swaps n (Start x) a = refl
  tell-swaps n (Notice m) a =
      ap (λ (ms : List Message). let b : Account = record a { queue = ms; messages = saturating_next a.messages } in b)
      (insert_key-swap message_cmp message_cmp_total message_cmp_only m (numbered (saturating_next a.messages) n) a.queue)

  plain-swaps : (w : LapseEntry) → Swaps CountCommand p w × Swaps TakeSerial p w
  plain-swaps (Renewal r) = ((λ a. refl), (λ a. refl))
  plain-swaps _ = ((λ a. refl), (λ a. refl))

-- ---- what is asked of a change

module _ (p : PolicyRules) (r : Option ℕ) (g : Names) (u : Registry) where
  abbrev chosen : Choice
  chosen = concerned r g u

  -- a domain that is named has the ROID
  abbrev pub IsNamedRoid : Roid → Type 0
  IsNamedRoid roid = (n : List ℕ) × (d : Domain) × (is_in n g.domains ≡ true) × (get u.domains n ≡ Some d) × (roid ≡ d.roid)

  -- whosever account it is
  abbrev pub SuitsAny : AccountChange → Type 0
  SuitsAny (Charge l) = is_kind l.kind lines.Transfer ≡ false
  SuitsAny (RefundRunning x) = ⊥
  SuitsAny (RefundTransfer x) = IsNamedRoid x.roid
  SuitsAny (Ack id) = ⊥
  SuitsAny _ = Unit {0}

  -- It puts what is concerned in the place of what is, and changes the caller's account, or another so that it makes no
  -- difference to what time enters into it.
  abbrev pub Suits : Change → Type 0
  Suits (PutContact x) = chosen.contacts x.name ≡ true
  Suits (DropContact name) = chosen.contacts name ≡ true
  Suits (PutDomain d) = chosen.domains d.name ≡ true
  Suits (DropDomain name) = chosen.domains name ≡ true
  Suits (PutHost h) = Unit {0}
  Suits (DropHost name) = Unit {0}
  Suits (RenameHost old h) = Unit {0}
  Suits (Post q what) = (r ≡ Some q) ⊎ SuitsAny what
  Suits _ = ⊥

  abbrev pub AllSuit : List Change → Type 0
  AllSuit [] = Unit {0}
  AllSuit (change ∷ changes) = Suits change × AllSuit changes

  pub suits-if : (changes : List Change) (b : Bool) → AllSuit changes → AllSuit (cond b changes [])
  suits-if changes true suit = suit
  suits-if changes false suit = tt

  -- ---- the rest, as it stands while the changes are made

  abbrev IsAsideContact : Contact → Type 0
  IsAsideContact x = is_about r x.sponsor x.transfer ≡ false

  abbrev IsAsideDomain : Domain → Type 0
  IsAsideDomain d = (is_about r d.sponsor d.transfer ≡ false) × ((roid : Roid) → IsNamedRoid roid → is_same_roid d.roid roid ≡ false)

  abbrev IsRest : Registry → Type 0
  IsRest v = AllOthers chosen.contacts IsAsideContact v.contacts × AllOthers chosen.domains IsAsideDomain v.domains × (v.clock ≡ u.clock)

  rest-changed : (change : Change) → Suits change → (v : Registry) → IsRest v → IsRest (changed p change v)
  rest-changed (PutContact x) suits v is = (others-put chosen.contacts IsAsideContact v.contacts x.name x suits is.0, is.1, is.2)
  rest-changed (DropContact name) suits v is = (others-drop chosen.contacts IsAsideContact v.contacts name is.0, is.1, is.2)
  rest-changed (PutDomain d) suits v is = (is.0, others-put chosen.domains IsAsideDomain v.domains d.name d suits is.1, is.2)
  rest-changed (DropDomain name) suits v is = (is.0, others-drop chosen.domains IsAsideDomain v.domains name is.1, is.2)
  rest-changed (PutHost h) suits v is = is
  rest-changed (DropHost name) suits v is = is
  rest-changed (RenameHost old h) suits v is = cond_both (may_rename v.hosts old h.name) (host_renamed old h v) v IsRest
      (λ may. (is.0, (λ name e at none. let was = remade-cases (with_host_renamed old h.name) v.domains name e at in subst IsAsideDomain was.2 (is.1 name was.0 was.1 none)), is.2))
      (λ else. is)
  rest-changed (Post q what) suits v is = is
  rest-changed _ suits v is = absurd suits

  rest-all : (changes : List Change) → AllSuit changes → (v : Registry) → IsRest v → IsRest (changed_all p changes v)
  rest-all [] suit v is = is
  rest-all (change ∷ changes) suit v is = rest-all changes suit.1 (changed p change v) (rest-changed change suit.0 v is)

rest-post : {X : Type 0} (P : Posting → Type 0) (l : Lapsed X) (x : X) (b : Bool) → (b ≡ false → AllPosted P l.postings) → AllPosted P (lapse_if (not b) l x).postings
rest-post P l x true all = tt
rest-post P l x false all = all refl

module _ (p : PolicyRules) (r : Option ℕ) (g : Names) (u : Registry) where
  abbrev to_lapse : Choice
  to_lapse = without (concerned r g u)

  -- ---- what the rest posts

  -- a posting that is on no domain that is named
  abbrev IsAside : Posting → Type 0
  IsAside e = (roid : Roid) → IsNamedRoid p r g u roid → IsOff roid e.what

  to-aside : (es : List Posting) → ((roid : Roid) → IsNamedRoid p r g u roid → AllOff roid es) → AllPosted IsAside es
  to-aside [] off = tt
  to-aside (e ∷ es) off = ((λ roid named. (off roid named).0), to-aside es (λ roid named. (off roid named).1))

  -- it makes the same of the account before the change and afterwards
  abbrev Fits : ℕ → AccountChange → Posting → Type 0
  Fits q what e = e.registrar ≡ q → Swaps what p e.what

  swaps-any : (what : AccountChange) → SuitsAny p r g u what → (e : Posting) → IsAside e → Swaps what p e.what
  swaps-any (Charge l) suits e aside = charge-swaps p l suits e.what
  swaps-any (RefundTransfer x) suits e aside = refund-swaps p x e.what (aside x.roid suits)
  swaps-any (Lapse v) suits e aside = λ a. entries-swap e.what v a
  swaps-any (Notify n) suits e aside = tell-swaps p n e.what
  swaps-any CountCommand suits e aside = (plain-swaps p e.what).0
  swaps-any TakeSerial suits e aside = (plain-swaps p e.what).1
  swaps-any _ suits e aside = absurd suits

  module _ (t : ℕ) where
    abbrev fc : List ℕ → Contact → Lapsed Contact
    fc name x = lapse_if (to_lapse.contacts name) (lapse_contact t x) x

    abbrev fd : List ℕ → Domain → Lapsed Domain
    fd name d = lapse_if (to_lapse.domains name) (lapse p t d) d

    abbrev rest_postings : Registry → List Posting
    rest_postings v = postings fc fd v

    module _ (v : Registry) (is : IsRest p r g u v) where
      rest-posts : (P : Posting → Type 0) → ((x : Contact) → IsAsideContact p r g u x → AllPosted P (lapse_contact t x).postings)
          → ((d : Domain) → IsAsideDomain p r g u d → AllPosted P (lapse p t d).postings) → AllPosted P (rest_postings v)
      rest-posts P of-contact of-domain = posted-both P (given (gives fc) v.contacts) (given (gives fd) v.domains)
          (posted-given P (gives fc) v.contacts (λ name x at. rest-post P (lapse_contact t x) x ((concerned r g u).contacts name) (λ none. of-contact x (is.0 name x at none))))
          (posted-given P (gives fd) v.domains (λ name d at. rest-post P (lapse p t d) d ((concerned r g u).domains name) (λ none. of-domain d (is.1 name d at none))))

      fits-own : (q : ℕ) (what : AccountChange) → r ≡ Some q → AllPosted (Fits q what) (rest_postings v)
      fits-own q what own = rest-posts (Fits q what)
          (λ x none. post-weaker (IsElsewhere q) (Fits q what) (λ e other same. absurd (other same)) (lapse_contact t x).postings (contact-elsewhere q t p x (ap (λ (o : Option ℕ). is_about o x.sponsor x.transfer) (sym own) ∙ none)))
          (λ d aside. post-weaker (IsElsewhere q) (Fits q what) (λ e other same. absurd (other same)) (lapse p t d).postings (domain-elsewhere q t p d (ap (λ (o : Option ℕ). is_about o d.sponsor d.transfer) (sym own) ∙ aside.0)))

      fits-any : (q : ℕ) (what : AccountChange) → SuitsAny p r g u what → AllPosted (Fits q what) (rest_postings v)
      fits-any q what suits = rest-posts (Fits q what)
          (λ x none. post-weaker IsAside (Fits q what) (λ e aside same. swaps-any what suits e aside) (lapse_contact t x).postings (to-aside (lapse_contact t x).postings (λ roid named. completed-off p roid (due_by t x.transfer) x)))
          (λ d off. post-weaker IsAside (Fits q what) (λ e aside same. swaps-any what suits e aside) (lapse p t d).postings (to-aside (lapse p t d).postings (λ roid named. domain-off p roid t d (off.1 roid named))))

      fits : (q : ℕ) (what : AccountChange) → Suits p r g u (Post q what) → AllPosted (Fits q what) (rest_postings v)
      fits q what suits = ⊎_elim (fits-own q what) (fits-any q what) suits

    -- ---- each change

    -- an account that is changed, and what time enters
    give-posted : (q : ℕ) (what : AccountChange) (es : List Posting) → AllPosted (Fits q what) es → (m : FinMap nat_cmp Account)
        → fold posted (change_at empty_account q (account_changed p what) m) es ≡ change_at empty_account q (account_changed p what) (fold posted m es)
    give-posted q what [] all m = refl
    give-posted q what (e ∷ es) all m =
        ap (λ (n : FinMap nat_cmp Account). fold posted n es) (change_at-commutes nat_cmp nat_cmp_total nat_cmp-IsAntisymmetric empty_account m e.registrar q (entered e.what) (account_changed p what) all.0)
        ∙ give-posted q what es all.1 (posted m e)

    contact-alone : (name : List ℕ) → (concerned r g u).contacts name ≡ true → (x : Contact) → fc name x ≡ leaves x []
    contact-alone name e x = ap (λ (b : Bool). lapse_if (not b) (lapse_contact t x) x) e

    domain-alone : (name : List ℕ) → (concerned r g u).domains name ≡ true → (d : Domain) → fd name d ≡ leaves d []
    domain-alone name e d = ap (λ (b : Bool). lapse_if (not b) (lapse p t d) d) e

    abbrev lapsed_rest : Registry → Registry
    lapsed_rest v = lapse_some p to_lapse t v

    -- other contacts that post the same
    with-contacts : (v : Registry) (m n : FinMap (slice_cmp nat_cmp) Contact) → kept (left fc) m ≡ n → ((a : FinMap nat_cmp Account) → fold posted a (given (gives fc) m) ≡ fold posted a (given (gives fc) v.contacts))
        → lapsed_rest (record v { contacts = m }) ≡ record (lapsed_rest v) { contacts = n }
    with-contacts v m n kept-so same = λ i. registry (kept-so i) v.hosts (kept (left fd) v.domains)
        ((fold_append posted v.accounts (given (gives fc) m) (given (gives fd) v.domains)
        ∙ ap (λ (a : FinMap nat_cmp Account). fold posted a (given (gives fd) v.domains)) (same v.accounts)
        ∙ sym (fold_append posted v.accounts (given (gives fc) v.contacts) (given (gives fd) v.domains))) i) v.clock

    with-domains : (v : Registry) (m n : FinMap (slice_cmp nat_cmp) Domain) → kept (left fd) m ≡ n → ((a : FinMap nat_cmp Account) → fold posted a (given (gives fd) m) ≡ fold posted a (given (gives fd) v.domains))
        → lapsed_rest (record v { domains = m }) ≡ record (lapsed_rest v) { domains = n }
    with-domains v m n kept-so same = λ i. registry (kept (left fc) v.contacts) v.hosts (kept-so i)
        ((fold_append posted v.accounts (given (gives fc) v.contacts) (given (gives fd) m)
        ∙ same (fold posted v.accounts (given (gives fc) v.contacts))
        ∙ sym (fold_append posted v.accounts (given (gives fc) v.contacts) (given (gives fd) v.domains))) i) v.clock

    renamed-rest : (old : List ℕ) (h : Host) (v : Registry) (b : Bool) → lapsed_rest (cond b (host_renamed old h v) v) ≡ cond b (host_renamed old h (lapsed_rest v)) (lapsed_rest v)
    renamed-rest old h v true =
        with-domains (record v { hosts = insert (remove v.hosts old) h.name h }) (map_values (λ name. with_host_renamed old h.name) v.domains) (map_values (λ name. with_host_renamed old h.name) (kept (left fd) v.domains))
        (kept-mapped fd (with_host_renamed old h.name) (λ name d. if-renamed p t old h.name (to_lapse.domains name) d) v.domains)
        (λ a. ap (fold posted a) (given-mapped fd (with_host_renamed old h.name) (λ name d. if-renamed p t old h.name (to_lapse.domains name) d) v.domains))
    renamed-rest old h v false = refl

    commutes : (change : Change) → Suits p r g u change → (v : Registry) → IsRest p r g u v → lapsed_rest (changed p change v) ≡ changed p change (lapsed_rest v)
    commutes (PutContact x) suits v is = with-contacts v (insert v.contacts x.name x) (insert (kept (left fc) v.contacts) x.name x)
        (kept-insert fc v.contacts x.name (contact-alone x.name suits) x) (given-inserted fc v.contacts x.name (contact-alone x.name suits) x)
    commutes (DropContact name) suits v is = with-contacts v (remove v.contacts name) (remove (kept (left fc) v.contacts) name)
        (kept-remove fc v.contacts name (contact-alone name suits)) (given-removed fc v.contacts name (contact-alone name suits))
    commutes (PutDomain d) suits v is = with-domains v (insert v.domains d.name d) (insert (kept (left fd) v.domains) d.name d)
        (kept-insert fd v.domains d.name (domain-alone d.name suits) d) (given-inserted fd v.domains d.name (domain-alone d.name suits) d)
    commutes (DropDomain name) suits v is = with-domains v (remove v.domains name) (remove (kept (left fd) v.domains) name)
        (kept-remove fd v.domains name (domain-alone name suits)) (given-removed fd v.domains name (domain-alone name suits))
    commutes (PutHost h) suits v is = refl
    commutes (DropHost name) suits v is = refl
    commutes (RenameHost old h) suits v is = renamed-rest old h v (may_rename v.hosts old h.name)
    commutes (Post q what) suits v is = ap (λ (m : FinMap nat_cmp Account). record (lapsed_rest v) { accounts = m }) (give-posted q what (rest_postings v) (fits v is q what suits) v.accounts)
    commutes _ suits v is = absurd suits

    commute-all : (changes : List Change) → AllSuit p r g u changes → (v : Registry) → IsRest p r g u v → lapsed_rest (changed_all p changes v) ≡ changed_all p changes (lapsed_rest v)
    commute-all [] suit v is = refl
    commute-all (change ∷ changes) suit v is = commute-all changes suit.1 (changed p change v) (rest-changed p r g u change suit.0 v is) ∙ ap (changed_all p changes) (commutes change suit.0 v is)

  -- ---- all changes of what is settled in what is concerned

  module _ (is : IsSettledIn p (concerned r g u) u) where
    has-all : HasAllDue p u.clock to_lapse u
    has-all = record {
      contacts = λ name x at out. is.contacts name x at (not-false ((concerned r g u).contacts name) out);
      domains = λ name d at out. is.domains name d at (not-false ((concerned r g u).domains name) out);
    }

    -- what the registry is now, is itself with the rest lapsed
    now-is : lapse_some p to_lapse u.clock u ≡ now p u
    now-is = all-due-lapse-as-all p u.clock to_lapse u has-all

    rest-is : IsRest p r g u u
    rest-is = (
      (λ name x at none. contact-not-about p r g u is name x at none),
      (λ name d at none. (domain-not-about p r g u is name d at none, (λ roid named. ap (λ (x : Roid). is_same_roid d.roid x) named.4 ∙ roid-off p r g u is name d at none named.0 named.1 named.2 named.3))),
      refl,
    )

    rest-later : (v : Registry) → v.clock ≡ u.clock → now p (lapse_some p to_lapse u.clock v) ≡ now p v
    unfolding accounts_at
    rest-later v e =
        ap (λ (t : ℕ). lapse_registry p t (lapse_some p to_lapse u.clock v)) e
        ∙ lapses-on-from-some p to_lapse u.clock u.clock v.clock (omega arith) v
        ∙ ap (λ (t : ℕ). lapse_registry p t v) (sym e)

    pub changed-now : (changes : List Change) → AllSuit p r g u changes → now p (changed_all p changes u) ≡ now p (changed_all p changes (now p u))
    changed-now changes suit =
        sym (rest-later (changed_all p changes u) (rest-all p r g u changes suit u rest-is).2)
        ∙ ap (now p) (commute-all u.clock changes suit u rest-is ∙ ap (changed_all p changes) now-is)
