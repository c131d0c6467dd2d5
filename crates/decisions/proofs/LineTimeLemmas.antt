-- A registry that lapses keeps what a well-formed one says of lines.
use Rattle.std.proofs.Common.{◌≡◌, ◌≢◌, ⊎_elim, ℕ, ◌+◌, ◌≤◌, Bool, true, false, not, ◌||◌, List, ◌++◌, Option, Some, None, refl, sym, ap, subst, ◌∙◌, arith}
use Rattle.std.proofs.Common.{suc, ◌<◌, cond, nat_le, ◌&&◌, ◌∷◌}
use Rattle.std.proofs.lemmas.Bool.{false_from_ne_true, and_cases, and_left, and_parts, and_right}
use Rattle.decisions.proofs.Lemmas.{domain-left, domain-posted, drop-cases, due-is, Grows, line-grown, own-account, lapse-cases, postings-posted}
use Rattle.decisions.proofs.Lemmas.{other_name, put-cases, renewal-by, renewal-waits-not, serial-posted, started-waits-not}
use Rattle.decisions.proofs.Words.{All-from_recursion, contact_completed, get, IsAwaitedIfPending, recursion_from_All, some-lapse-together}
use Rattle.decisions.proofs.Words.{AllByRecursion, charges_waiting, is_begun_after, is_pending_state, transfer_started, TransferApproved}
use Rattle.decisions.proofs.Words.{begins_after, domain_notice, HasLines, is_same_roid, lapse_contact, one-or-other, renewal_line, TransferStart, with_account}
use Rattle.decisions.proofs.Words.{account_of, AutoRenewal, HasLinesOn, HasObjects, none-weaker, not-itself, plus_years, PolicyRules, same-roids, swept-alike}
use Rattle.decisions.proofs.Words.{Account, cond_some, in_order, IsAwaited, IsLineOf, list_any, nat_tests, postings, Registry, same_Some, slice_cmp, turns-are}
use Rattle.decisions.proofs.Words.{Contact, Domain, due_by, entered, FinMap, gained, HasRoid, IsLater, left-of, nat_cmp, Posting, Renewal, renewals, Transfer}
use Rattle.decisions.proofs.Words.{fold, given, is_on, lapse, Lapsed, Line, lived, moved, posted, raised, Roid, Start, turn, turns, waits}
use Rattle.decisions.proofs.LineEntryLemmas.{AllKeep, AllOff, IsKeptOff, IsOff, Keeps, begins-asks, count-kept-off, keep-both, keep-given, keep-posted, lines-kept, none-kept-off, off-keep, waits-asks}
use Rattle.accounts.specs.declared.message.Subject.TheVariants as subjects
use Rattle.objects.specs.declared.roid.ObjectKind.TheVariants as kinds
use Rattle.model.specs.Lapse.{Choice, accounts_at, at, domains_at, is_named, lapse as lapse_registry, lapse_if, lapse_one, lapse_some, only, put_or_drop, with_domain_lapsed}
use Rattle.model.proofs.LineLemmas.{all-weaker, awaited-carried, count, count-add-none, count-none-remade, none-add}
use Rattle.model.proofs.OneByOneLemmas.{one-lapses}
use Rattle.basis.proofs.SweepLaws.{fold_append}
use Rattle.decisions.proofs.PostingLemmas.{renewals-each}

-- ---- a transfer that is due is pending

pub due-pending : (t : ℕ) (o : Option Transfer) (x : Transfer) → due_by t o ≡ Some x → is_pending_state x.state ≡ true
due-pending t None x e = absurd cc
due-pending t (Some y) x e =
    let is = cond_some (is_pending_state y.state && nat_le y.ac_date t) y x e in
    subst (λ (z : Transfer). is_pending_state z.state ≡ true) is.1 (and_parts (is_pending_state y.state) _ is.0).0

-- and one that is pending and isn't due is due later
due-later : (t : ℕ) (x : Transfer) → due_by t (Some x) ≡ None → is_pending_state x.state ≡ true → t < x.ac_date
due-later t x e pending = grind (arith, nat_tests, e, pending)

-- ---- the turns of a domain

-- the turn's charge
abbrev pub renewal_at : PolicyRules → Domain → ℕ → AutoRenewal
renewal_at p d k = record { roid = d.roid; moment = plus_years d.created (d.years + k); cents = p.prices.renew }

-- none begins after a moment by which all turns come
none-renewals : (p : PolicyRules) (roid : Roid) (last r : ℕ) (d : Domain) (n : ℕ) → ((k : ℕ) → k < n → plus_years d.created (d.years + k) ≤ last)
    → AllKeep (λ ls. list_any (begins_after roid (Some last)) ls ≡ false) r (renewals p d n)
none-renewals p roid last r d n by = renewals-each p (Keeps (λ ls. list_any (begins_after roid (Some last)) ls ≡ false) r) d n (λ k lt.
    (λ own ls none. none-add in_order (begins_after roid (Some last)) (renewal_line (renewal_at p d k)) ls (renewal-by roid (renewal_at p d k) last (by k lt)) none, (λ own ls none. none, tt)))

count-renewals : (p : PolicyRules) (roid : Roid) (c r : ℕ) (d : Domain) (n : ℕ) → AllKeep (λ ls. count (waits roid) ls ≡ c) r (renewals p d n)
count-renewals p roid c r d n = renewals-each p (Keeps (λ ls. count (waits roid) ls ≡ c) r) d n (λ k lt.
    (λ own ls e. count-add-none in_order (waits roid) (renewal_line (renewal_at p d k)) ls (renewal-waits-not roid (renewal_at p d k)) ∙ e, (λ own ls e. e, tt)))

-- nothing else than its sponsor's account changes
other-renewals : (p : PolicyRules) (P : List Line → Type 0) (r : ℕ) (d : Domain) (n : ℕ) → r ≢ d.sponsor → AllKeep P r (renewals p d n)
other-renewals p P r d n other = renewals-each p (Keeps P r) d n (λ k lt. (λ own ls h. absurd (other (sym own)), (λ own ls h. h, tt)))

-- ---- what becomes of a domain and of the lines on it

abbrev none_after : Roid → Option ℕ → List Line → Type 0
none_after roid last ls = list_any (begins_after roid last) ls ≡ false

abbrev as_many : Roid → ℕ → List Line → Type 0
as_many roid n ls = count (waits roid) ls ≡ n

-- the tests of a line by an earlier and by a later moment
begun-later : (last started : Option ℕ) (u : ℕ) → IsLater (suc u) last → is_begun_after last started ≡ false → is_begun_after (Some u) started ≡ false
begun-later last None u late none = refl
begun-later None (Some start) u late none = absurd cc
begun-later (Some moment) (Some start) u late none = grind (arith, nat_tests, none, late)

none-later : (roid : Roid) (last : Option ℕ) (u : ℕ) → IsLater (suc u) last → (l : Line) → begins_after roid last l ≡ false → begins_after roid (Some u) l ≡ false
none-later roid last u late l none = ⊎_elim (and_left (is_on roid l) _)
    (λ n. and_right (is_on roid l) _ (begun-later last l.started u late n)) (and_cases (is_on roid l) _ none)

later-suc : (last : Option ℕ) (requested u : ℕ) → IsLater requested last → requested ≤ u → IsLater (suc u) last
later-suc None requested u late le = tt
later-suc (Some moment) requested u late le = omega (arith, late, le)

module _ (p : PolicyRules) (t : ℕ) (s : Registry) (d : Domain) (on : HasLinesOn s d) where
  abbrev with : List Posting → Registry
  with es = record s { accounts = fold posted s.accounts es }

  -- no transfer is due
  aged : due_by t d.transfer ≡ None → HasLinesOn (with (renewals p d (turns d t))) (raised (turns d t) d)
  aged none =
      let n : ℕ = turns d t in
      record {
        elsewhere = λ r other. keep-posted (none_after d.roid d.transferred) r (renewals p d n) (other-renewals p (none_after d.roid d.transferred) r d n other) s (on.elsewhere r other);
        waiting = λ r. keep-posted (as_many d.roid (charges_waiting r d.transfer)) r (renewals p d n) (count-renewals p d.roid (charges_waiting r d.transfer) r d n) s (on.waiting r);
        awaited = by d.transfer none on.awaited;
      }
    where
      by : (o : Option Transfer) → due_by t o ≡ None → IsAwaitedIfPending s d o → IsAwaitedIfPending (with (renewals p d (turns d t))) (raised (turns d t) d) o
      by None none awaited = tt
      by (Some x) none awaited = λ pending.
          let w = awaited pending in
          let later : t < x.ac_date = due-later t x none pending in
          search (keep-posted (none_after d.roid (Some x.ac_date)) d.sponsor (renewals p d (turns d t))
          (none-renewals p d.roid x.ac_date d.sponsor d (turns d t) (λ k lt. omega (arith, (turns-are d t).before k lt, later))) s w.lines)

  module _ (x : Transfer) (due : due_by t d.transfer ≡ Some x) where
    is : d.transfer ≡ Some x
    is = (due-is t d.transfer x due).0

    pending : is_pending_state x.state ≡ true
    pending = due-pending t d.transfer x due

    awaited : IsAwaited s d x
    awaited = (subst (IsAwaitedIfPending s d) is on.awaited) pending

    abbrev before : Domain
    before = raised (turns d x.ac_date) d

    abbrev after : Domain
    after = moved x before

    abbrev turned : List Posting
    turned = renewals p d (turns d x.ac_date)

    abbrev start : Posting
    start = record { registrar = x.requester; what = Start (record { roid = d.roid; moment = x.ac_date; years = gained before x.ac_date }) }

    -- the messages of the completion, and the turns after it
    abbrev rest : List Posting
    rest = domain_notice x.losing_registrar x.ac_date TransferApproved before ∷ domain_notice x.requester x.ac_date TransferApproved before ∷ renewals p after (turns after t)

    -- whoever isn't the new sponsor has no line that began after the completion
    none-before : (r : ℕ) → r ≢ x.requester → none_after d.roid (Some x.ac_date) (account_of r s).lines
    none-before r other = one-or-other r d.sponsor
        (λ same. subst (λ (n : ℕ). none_after d.roid (Some x.ac_date) (account_of n s).lines) (sym same) awaited.lines)
        (λ third. none-weaker (begins_after d.roid d.transferred) (begins_after d.roid (Some x.ac_date)) (none-later d.roid d.transferred x.ac_date (later-suc d.transferred x.requested x.ac_date awaited.transferred awaited.due)) (account_of r s).lines (on.elsewhere r third))

    -- the postings of another than the new sponsor
    other-rest : (P : List Line → Type 0) (r : ℕ) → r ≢ x.requester → AllKeep P r (start ∷ rest)
    other-rest P r other = (λ own ls h. absurd (other (sym own)), (λ own ls h. h, (λ own ls h. h, other-renewals p P r after (turns after t) other)))

    none-elsewhere : (r : ℕ) → r ≢ x.requester → none_after d.roid (Some x.ac_date) (account_of r (with (turned ++ (start ∷ rest)))).lines
    none-elsewhere r other =
        let P : List Line → Type 0 = none_after d.roid (Some x.ac_date) in
        keep-posted P r (turned ++ (start ∷ rest))
        (keep-both P r turned (start ∷ rest) (none-renewals p d.roid x.ac_date r d (turns d x.ac_date) (λ k lt. (turns-are d x.ac_date).before k lt)) (other-rest P r other)) s (none-before r other)

    -- the registry once the grace of the transfer is begun
    abbrev begun : Registry
    begun = with_account x.requester (entered start.what) (with turned)

    none-waits : (r : ℕ) → as_many d.roid 0 (account_of r (with (turned ++ (start ∷ rest)))).lines
    none-waits r = one-or-other r x.requester own-waits others-wait
      where
        others-wait : r ≢ x.requester → as_many d.roid 0 (account_of r (with (turned ++ (start ∷ rest)))).lines
        others-wait other =
            let none : charges_waiting r d.transfer ≡ 0 = ap (charges_waiting r) is ∙ (λ i. cond (pending i && not-itself x.requester r (λ same. other (sym same)) i) 1 0) in
            keep-posted (as_many d.roid 0) r (turned ++ (start ∷ rest))
            (keep-both (as_many d.roid 0) r turned (start ∷ rest) (count-renewals p d.roid 0 r d (turns d x.ac_date)) (other-rest (as_many d.roid 0) r other)) s (on.waiting r ∙ none)

        own-begun : r ≡ x.requester → as_many d.roid 0 (account_of r begun).lines
        own-begun own =
            let begin : TransferStart = record { roid = d.roid; moment = x.ac_date; years = gained before x.ac_date } in
            subst (λ (q : ℕ). as_many d.roid 0 (account_of q begun).lines) (sym own)
            (subst (λ (a : Account). as_many d.roid 0 a.lines)
            (sym (own-account x.requester (entered start.what) (with turned)))
            (count-none-remade in_order (waits d.roid) (transfer_started begin) (started-waits-not begin)
            (account_of x.requester (with turned)).lines))

        own-waits : r ≡ x.requester → as_many d.roid 0 (account_of r (with (turned ++ (start ∷ rest)))).lines
        own-waits own =
            subst (λ (accounts : FinMap nat_cmp Account). as_many d.roid 0 (account_of r (record s { accounts = accounts })).lines) (sym (fold_append posted s.accounts turned (start ∷ rest)))
            (keep-posted (as_many d.roid 0) r rest (λ own ls e. e, (λ own ls e. e, count-renewals p d.roid 0 r after (turns after t))) begun (own-begun own))

    -- the transfer is completed, and the turns go on
    transferred : HasLinesOn (with (lived p t (Some x) d).postings) (raised (turns after t) after)
    transferred = record { elsewhere = none-elsewhere; waiting = none-waits; awaited = λ never. absurd cc }

  -- what is left of the domain, with what it posts
  by-transfer : (o : Option Transfer) → due_by t d.transfer ≡ o → (e : Domain) → (lived p t o d).object ≡ Some e → HasLinesOn (with (lived p t o d).postings) e
  by-transfer None none e found = subst (HasLinesOn (with (renewals p d (turns d t)))) (same_Some (raised (turns d t) d) e found) (aged none)
  by-transfer (Some x) due e found =
      let after : Domain = moved x (raised (turns d x.ac_date) d) in
      subst (HasLinesOn (with (lived p t (Some x) d).postings)) (same_Some (raised (turns after t) after) e found) (transferred x due)

  pub lapsed-on : (e : Domain) → (lapse p t d).object ≡ Some e → HasLinesOn (record s { accounts = fold posted s.accounts (lapse p t d).postings }) e
  lapsed-on = lapse-cases p t d (λ (l : Lapsed Domain). (e : Domain) → l.object ≡ Some e → HasLinesOn (with l.postings) e) (λ x gone e found. subst (HasLinesOn s) (same_Some d e found) on) (λ x past e found. absurd (cc)) (λ alive. by-transfer)

-- ---- what is posted for another domain is on none of this one

module _ (p : PolicyRules) (roid : Roid) where
  pub domain-off : (t : ℕ) (d : Domain) → is_same_roid d.roid roid ≡ false → AllOff roid (lapse p t d).postings
  domain-off t d off = domain-posted p t (λ (e : Posting). IsOff roid e.what) d (λ k come. (off, (tt, tt))) (λ x due. ((off, (tt, (tt, tt))), λ k come. (off, (tt, tt)))) (λ x past. tt)

  pub completed-off : (o : Option Transfer) (c : Contact) → AllOff roid (contact_completed o c).postings
  completed-off None c = tt
  completed-off (Some x) c = (tt, (tt, tt))

-- ---- each line that is posted is of a domain, and has begun

-- the lines of an account, at the clock of the registry
abbrev pub AreLinesOf : PolicyRules → Registry → List Line → Type 0
AreLinesOf p s ls = AllByRecursion (IsLineOf p s) ls

module _ (p : PolicyRules) (s : Registry) (r : ℕ) where
  turned-of : (d : Domain) (k : ℕ) → HasRoid p s kinds.Domain d.roid → plus_years d.created (d.years + k) ≤ s.clock → AllKeep (AreLinesOf p s) r (turn p d k)
  turned-of d k has come = ((λ own ls all. lines-kept p s (Renewal (renewal_at p d k)) (has, come) ls all), ((λ own ls all. all), tt))

  domain-of : (d : Domain) → HasRoid p s kinds.Domain d.roid → AllKeep (AreLinesOf p s) r (lapse p s.clock d).postings
  domain-of d has = domain-posted p s.clock (Keeps (AreLinesOf p s) r) d (λ k. turned-of d k has) (λ x due.
      let before : Domain = raised (turns d x.ac_date) d in (
        ((λ own ls all. lines-kept p s (Start (record { roid = d.roid; moment = x.ac_date; years = gained before x.ac_date })) (due-is s.clock d.transfer x due).1 ls all), ((λ own ls all. all), ((λ own ls all. all), tt))),
        λ k. turned-of (moved x before) k has,
      ))
      (λ x past own ls all. all)

  completed-of : (P : List Line → Type 0) (o : Option Transfer) (c : Contact) → AllKeep P r (contact_completed o c).postings
  completed-of P None c = tt
  completed-of P (Some x) c = ((λ own ls h. h), ((λ own ls h. h), tt))

-- ---- one domain lapses first, and then all others

put-or-drop : {X : Type 0} (m : FinMap (slice_cmp nat_cmp) X) (name : List ℕ) (o : Option X) (n : List ℕ) (x : X) → n ≢ name → get (put_or_drop m name o) n ≡ Some x → get m n ≡ Some x
put-or-drop m name None n x other found = (drop-cases m name n x found).1
put-or-drop m name (Some y) n x other found = ⊎_elim (λ put. absurd (other put.0)) (λ before. before) (put-cases m name y n x found)

module _ (p : PolicyRules) (t : ℕ) (name : List ℕ) (s : Registry) where
  -- all but the domain of that name
  abbrev others : Choice
  others = record { contacts = λ n. true; domains = λ n. not (is_named name n) }

  chosen : {X : Type 0} (b : Bool) (l : Lapsed X) (x : X) → lapse_if (b || not b) l x ≡ l
  chosen b l x = grind arith

  one-then-others : (lapse_some p others t (lapse_one p t subjects.Domain name s)).accounts ≡ (lapse_registry p t s).accounts
  unfolding accounts_at
  one-then-others = ap (λ (x : Registry). x.accounts) (
      ap (lapse_some p others t) (one-lapses p t name s subjects.Domain)
      ∙ some-lapse-together p (only subjects.Domain name) others t s
      ∙ swept-alike
      (λ n c. lapse_if true (lapse_contact t c) c) (λ n. lapse_contact t)
      (λ n d. lapse_if (is_named name n || not (is_named name n)) (lapse p t d) d) (λ n. lapse p t) s
      (λ n c found. refl) (λ n d found. chosen (is_named name n) (lapse p t d) d))

  module _ (d : Domain) (found : get s.domains name ≡ Some d) (apart : (n : List ℕ) (x : Domain) → get s.domains n ≡ Some x → x.roid ≡ d.roid → n ≡ name) (P : List Line → Type 0) (kept : IsKeptOff d.roid P) (r : ℕ) where
    abbrev first : Registry
    first = record s { domains = put_or_drop s.domains name (lapse p t d).object; accounts = fold posted s.accounts (lapse p t d).postings }

    is-first : lapse_one p t subjects.Domain name s ≡ first
    is-first = ap (λ (o : Option Domain). with_domain_lapsed p t name o s) found

    off : (n : List ℕ) (x : Domain) → get s.domains n ≡ Some x → n ≢ name → is_same_roid x.roid d.roid ≡ false
    off n x there other =
        false_from_ne_true (is_same_roid x.roid d.roid) (λ e. other (apart n x there (same-roids x.roid d.roid e)))

    others-off : (n : List ℕ) (x : Domain) → get first.domains n ≡ Some x → AllKeep P r (lapse_if (not (is_named name n)) (lapse p t x) x).postings
    others-off n x there = by (is_named name n) refl
      where
        by : (b : Bool) → is_named name n ≡ b → AllKeep P r (lapse_if (not b) (lapse p t x) x).postings
        by true e = tt
        by false e =
            let other : n ≢ name = λ same. other_name name n e (sym same) in
            off-keep d.roid P kept r (lapse p t x).postings (domain-off p d.roid t x (off n x (put-or-drop s.domains name (lapse p t d).object n x other there) other))

    -- what is so of the lines on a domain once it has lapsed is so once all have
    pub by-others : P (account_of r (record s { accounts = fold posted s.accounts (lapse p t d).postings })).lines → P (account_of r (lapse_registry p t s)).lines
    by-others h =
        subst (λ (accounts : FinMap nat_cmp Account). P (account_of r (record s { accounts = accounts })).lines)
        (ap (λ (x : Registry). (lapse_some p others t x).accounts) (sym is-first) ∙ one-then-others)
        (keep-posted P r (given (λ n c. (lapse_if true (lapse_contact t c) c).postings) s.contacts ++ given (λ n x. (lapse_if (not (is_named name n)) (lapse p t x) x).postings) first.domains)
        (keep-both P r (given (λ n c. (lapse_if true (lapse_contact t c) c).postings) s.contacts) (given (λ n x. (lapse_if (not (is_named name n)) (lapse p t x) x).postings) first.domains)
        (keep-given P r (λ n c. (lapse_if true (lapse_contact t c) c).postings) s.contacts (λ n c there. completed-of p s r P (due_by t c.transfer) c))
        (keep-given P r (λ n x. (lapse_if (not (is_named name n)) (lapse p t x) x).postings) first.domains others-off)) first h)

-- ---- the registry

module _ (p : PolicyRules) (t : ℕ) (s : Registry) (le : s.clock ≤ t) (objects : HasObjects p s) (is : HasLines p s) where
  abbrev left : Registry
  left = lapse_registry p t s

  -- the same accounts, later
  abbrev later : Registry
  later = at t s

  same-serials : (r : ℕ) → (account_of r left).serial ≡ (account_of r s).serial
  unfolding accounts_at
  same-serials r = serial-posted r (postings (λ name. lapse_contact t) (λ name. lapse p t) s) s

  grows-left : Grows p p later left
  grows-left =
      record { zone = refl; place = λ r place. place; clock = omega arith; serial = λ r. omega (arith, same-serials r) }

  each-line : (r : ℕ) → AllByRecursion (IsLineOf p later) (account_of r left).lines
  unfolding accounts_at
  each-line r =
      let P : List Line → Type 0 = AreLinesOf p later in
      keep-posted P r (postings (λ name. lapse_contact t) (λ name. lapse p t) s)
      (postings-posted p t (Keeps P r) s (λ n c there. completed-of p later r P (due_by t c.transfer) c) (λ n d there. domain-of p later r d (let has = (objects.domains n d there).is_at.roid in search))) s
      (all-weaker (IsLineOf p s) (IsLineOf p later) (line-grown p p s later (record { zone = refl; place = λ r place. place; clock = le; serial = λ r. omega arith })) (account_of r s).lines (recursion_from_All (IsLineOf p s) (account_of r s).lines (is.each r)))

  -- what is left of a domain, once all have lapsed
  left-on : (name : List ℕ) (d e : Domain) → get s.domains name ≡ Some d → (lapse p t d).object ≡ Some e → e.roid ≡ d.roid → HasLinesOn left e
  left-on name d e found become same =
      let k : HasLinesOn (record s { accounts = fold posted s.accounts (lapse p t d).postings }) e = lapsed-on p t s d (is.domains name d found) e become in
      let carry : (P : List Line → Type 0) → IsKeptOff e.roid P → (r : ℕ) → P (account_of r (record s { accounts = fold posted s.accounts (lapse p t d).postings })).lines → P (account_of r left).lines =
      λ P kept r h. by-others p t name s d found (λ n x there alike. objects.identities.domain_roids n name x d there found alike) P (subst (λ (roid : Roid). IsKeptOff roid P) same kept) r h in
      record {
        elsewhere = λ r other. carry (λ ls. list_any (begins_after e.roid e.transferred) ls ≡ false) (none-kept-off e.roid (begins_after e.roid e.transferred) (begins-asks e.roid e.transferred)) r (k.elsewhere r other);
        waiting = λ r. carry (λ ls. count (waits e.roid) ls ≡ charges_waiting r e.transfer) (count-kept-off e.roid (waits e.roid) (waits-asks e.roid) (charges_waiting r e.transfer)) r (k.waiting r);
        awaited = awaited-carried (record s { accounts = fold posted s.accounts (lapse p t d).postings }) left e e.transfer
            (λ x at pending none. carry (λ ls. list_any (begins_after e.roid (Some x.ac_date)) ls ≡ false) (none-kept-off e.roid (begins_after e.roid (Some x.ac_date)) (begins-asks e.roid (Some x.ac_date))) e.sponsor none) k.awaited;
      }

  pub lines-lapse : HasLines p (lapse_registry p t s)
  unfolding domains_at
  lines-lapse = record {
    each = λ r. All-from_recursion (IsLineOf p left) (account_of r left).lines
        (all-weaker (IsLineOf p later) (IsLineOf p left) (line-grown p p later left grows-left)
        (account_of r left).lines (each-line r));
    domains = λ name e found.
        let was = left-of (λ name. lapse p t) s.domains name e found in
        left-on name was.0 e was.1 was.2 (domain-left p t was.0 (λ (x : Domain). x.roid ≡ was.0.roid) (λ x gone. refl) (λ alive years. refl) (λ alive x due years. refl) e was.2);
  }
