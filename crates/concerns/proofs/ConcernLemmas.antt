-- Once what a command concerns has lapsed, nothing is due that it concerns.
use Rattle.std.proofs.Common.{◌≡◌, ⊎_elim, ◌<◌, ℕ, Bool, true, false, ◌||◌, List, [], ◌∷◌, ◌++◌, Option, Some, None, option_map, refl, sym, ap, ◌∙◌, arith}
use Rattle.std.proofs.lemmas.{Bool.{or_cases, or_from, or_left, or_parts, or_right, true_from_ne_false, true≢false}, Option.same_Some}
use Rattle.std.proofs.lemmas.List.Folds.{list_any-append}
use Rattle.std.specs.{Cmp.Lexicographic.{bytes_decides, slice_cmp, nat_list_cmp_total}, FinMap.{FinMap, get}, List.cons_option}
use Rattle.std.specs.{List.{filter_map, list_any}, Str.bytes_eq, Option.option_map_or, Ordering.nat_cmp}
use Rattle.accounts.specs.Lines.{is_same_roid}
use Rattle.basis.specs.Sweeps.{kept}
use Rattle.basis.proofs.{ApartLaws.get-kept, MapLemmas.names_apart}
use Rattle.lifecycle.specs.{declared.lapsed.Lapsed.Lapsed, Lapse.{due_at, due_by, lapse, lapse_contact}}
use Rattle.lifecycle.proofs.{ContactLaws.is_contact_lapse, DueLaws.lapse-due}
use Rattle.objects.specs.{declared.{contact.Contact.Contact, domain.Domain.Domain}, Links.{has_name, names_contact, names_host}}
use Rattle.policy.specs.Rules.{PolicyRules}
use Rattle.protocol.specs.Requests.{holds_of}
use Rattle.model.specs.{Lapse.{Choice, at, lapse_if, lapse_some}, Registry.Registry}
use Rattle.model.proofs.{LapseLaws.left-of, SweepLemmas.left}
use Rattle.concerns.specs.declared.given.Names.{Names}
use Rattle.concerns.specs.Concerns.{HasConcerned, IsSettledIn, concerned, contact_name, domain_name, domain_roid, is_about, is_concerned, meant, read_at}
use Rattle.decisions.proofs.LapsedLemmas.{contact-left, domain-left}

-- ---- names among names

same-bytes : (n k : List ℕ) → bytes_eq n k ≡ true → n ≡ k
same-bytes n k e = (bytes_decides n k).0 e

bytes-itself : (n : List ℕ) → bytes_eq n n ≡ true
bytes-itself n = (bytes_decides n n).1 refl

abbrev pub is_in : List ℕ → List (List ℕ) → Bool
is_in name names = has_name names name

pub any-in : (test : List ℕ → Bool) (name : List ℕ) (names : List (List ℕ)) → is_in name names ≡ true → test name ≡ true → list_any test names ≡ true
any-in test name [] e h = cc
any-in test name (x ∷ xs) e h =
    ⊎_elim (λ first. or_left (test x) (list_any test xs) (ap test (same-bytes x name first) ∙ h)) (λ rest. or_right (test x) (list_any test xs) (any-in test name xs rest h))
    (or_cases (bytes_eq x name) (is_in name xs) e)

pub in-first : (name : List ℕ) (xs ys : List (List ℕ)) → is_in name xs ≡ true → is_in name (xs ++ ys) ≡ true
in-first name xs ys e = list_any-append (λ other. bytes_eq other name) xs ys ∙ or_left (is_in name xs) (is_in name ys) e

pub in-second : (name : List ℕ) (xs ys : List (List ℕ)) → is_in name ys ≡ true → is_in name (xs ++ ys) ≡ true
in-second name xs ys e = list_any-append (λ other. bytes_eq other name) xs ys ∙ or_right (is_in name xs) (is_in name ys) e

pub in-itself : (name : List ℕ) (names : List (List ℕ)) → is_in name (name ∷ names) ≡ true
in-itself name names = or_left (bytes_eq name name) (is_in name names) (bytes-itself name)

any-cons : {A : Type 0} (test : A → Bool) (o : Option A) (rest : List A) → list_any test (cons_option o rest) ≡ (option_map_or test o false || list_any test rest)
any-cons test o rest = grind arith

any-filter_map : {A : Type 0} (f : List ℕ → Option A) (test : A → Bool) (y : A) → test y ≡ true → (x : List ℕ) (xs : List (List ℕ)) → is_in x xs ≡ true
    → f x ≡ Some y → list_any test (filter_map f xs) ≡ true
any-filter_map f test y passes x [] e h = cc
any-filter_map f test y passes x (z ∷ zs) e h = any-cons test (f z) (filter_map f zs) ∙ ⊎_elim
    (λ first. or_left (option_map_or test (f z) false) (list_any test (filter_map f zs)) (ap (λ (o : Option _). option_map_or test o false) (ap f (same-bytes z x first) ∙ h) ∙ passes))
    (λ rest. or_right (option_map_or test (f z) false) (list_any test (filter_map f zs)) (any-filter_map f test y passes x zs rest h)) (or_cases (bytes_eq z x) (is_in x zs) e)

pub in-filter_map : (f : List ℕ → Option (List ℕ)) (m x : List ℕ) (xs : List (List ℕ)) → is_in x xs ≡ true → f x ≡ Some m → is_in m (filter_map f xs) ≡ true
in-filter_map f m x xs e h = any-filter_map f (λ other. bytes_eq other m) m (bytes-itself m) x xs e h

-- what is read at a name
pub any-read : {X A : Type 0} (of : X → A) (test : A → Bool) (m : FinMap (slice_cmp nat_cmp) X) (n : List ℕ) (names : List (List ℕ)) (x : X) → is_in n names ≡ true → get m n ≡ Some x → test (of x) ≡ true → list_any test (read_at of m names) ≡ true
any-read of test m n names x e at passes = any-filter_map (λ n. option_map of (get m n)) test (of x) passes n names e (ap (option_map of) at)

-- what is named is meant, and what bears the name of what stands there
module _ {X : Type 0} (of : X → List ℕ) (m : FinMap (slice_cmp nat_cmp) X) (names : List (List ℕ)) where
  pub meant-named : (name : List ℕ) (also : Bool) → is_in name names ≡ true → (has_name (meant of m names) name || also) ≡ true
  meant-named name also e = or_left (has_name (meant of m names) name) also (in-first name names (read_at of m names) e)

  pub meant-borne : (n : List ℕ) (x : X) (also : Bool) → is_in n names ≡ true → get m n ≡ Some x → (has_name (meant of m names) (of x) || also) ≡ true
  meant-borne n x also e at = or_left (has_name (meant of m names) (of x)) also
      (in-second (of x) names (read_at of m names) (any-read of (λ other. bytes_eq other (of x)) m n names x e at (bytes-itself (of x))))

-- ---- a map in which some have lapsed

module _ {X : Type 0} (m : FinMap (slice_cmp nat_cmp) X) (f : List ℕ → X → Lapsed X) where
  abbrev after : FinMap (slice_cmp nat_cmp) X
  after = kept (left f) m

  module _ {A : Type 0} (of : X → A) (keeps : (name : List ℕ) (x y : X) → left f name x ≡ Some y → of y ≡ of x) (test : A → Bool) where
    one-left : (n : List ℕ) (o : Option X) (before later : List A) → list_any test (cons_option (option_map of o) before) ≡ false → (list_any test before ≡ false → list_any test later ≡ false)
        → list_any test (cons_option (option_map of (option_map_or (left f n) o None)) later) ≡ false
    one-left n None before later e rest = rest e
    one-left n (Some x) before later e rest = by (left f n x) refl
      where
        by : (o : Option X) → left f n x ≡ o → list_any test (cons_option (option_map of o) later) ≡ false
        by None is = rest (or_parts (test (of x)) (list_any test before) e).1
        by (Some y) is = let parts = or_parts (test (of x)) (list_any test before) e in or_from (test (of y)) (list_any test later) (ap test (keeps n x y is) ∙ parts.0) (rest parts.1)

    -- what fails of all that was read at some names fails of all that is read there afterwards
    pub read-left : (names : List (List ℕ)) → list_any test (read_at of m names) ≡ false → list_any test (read_at of after names) ≡ false
    read-left [] e = refl
    read-left (n ∷ names) e =
        ap (λ (o : Option X). list_any test (cons_option (option_map of o) (read_at of after names))) (get-kept (slice_cmp nat_cmp) nat_list_cmp_total names_apart (left f) m n)
        ∙ one-left n (get m n) (read_at of m names) (read_at of after names) e (read-left names)

  -- what isn't meant isn't meant afterwards
  pub unmeant-left : (name_of : X → List ℕ) → ((name : List ℕ) (x y : X) → left f name x ≡ Some y → name_of y ≡ name_of x) → (names : List (List ℕ)) (name : List ℕ)
      → has_name (meant name_of m names) name ≡ false → has_name (meant name_of after names) name ≡ false
  unmeant-left name_of keeps names name e =
      let parts = or_parts (has_name names name) (has_name (read_at name_of m names) name) (sym (list_any-append (λ other. bytes_eq other name) names (read_at name_of m names)) ∙ e) in
      list_any-append (λ other. bytes_eq other name) names (read_at name_of after names)
      ∙ or_from (has_name names name) (has_name (read_at name_of after names) name) parts.0 (read-left name_of keeps (λ other. bytes_eq other name) names parts.1)

module _ (p : PolicyRules) (r : Option ℕ) (g : Names) (t : ℕ) (chosen : Choice) (s : Registry) where
  abbrev fc : List ℕ → Contact → Lapsed Contact
  fc name x = lapse_if (chosen.contacts name) (lapse_contact t x) x

  abbrev fd : List ℕ → Domain → Lapsed Domain
  fd name d = lapse_if (chosen.domains name) (lapse p t d) d

  abbrev pub caught_up : Registry
  caught_up = at t (lapse_some p chosen t s)

  -- names and ROIDs stay
  contact-keeps : (name : List ℕ) (x y : Contact) → left fc name x ≡ Some y → y.name ≡ x.name
  contact-keeps name x y is = by (chosen.contacts name) is
    where
      by : (b : Bool) → (lapse_if b (lapse_contact t x) x).object ≡ Some y → y.name ≡ x.name
      by true is = contact-left t x (λ (z : Contact). z.name ≡ x.name) refl (λ y due. refl) y is
      by false is = ap (λ (z : Contact). z.name) (sym (same_Some x y is))

  domain-keeps : (name : List ℕ) (d e : Domain) → left fd name d ≡ Some e → (e.name ≡ d.name) × (e.roid ≡ d.roid)
  domain-keeps name d e is = by (chosen.domains name) is
    where
      by : (b : Bool) → (lapse_if b (lapse p t d) d).object ≡ Some e → (e.name ≡ d.name) × (e.roid ≡ d.roid)
      by true is = domain-left p t d (λ (z : Domain). (z.name ≡ d.name) × (z.roid ≡ d.roid)) (λ x gone. (refl, refl)) (λ alive years. (refl, refl)) (λ alive x due years. (refl, refl)) e is
      by false is = let same : d ≡ e = same_Some d e is in (ap (λ (z : Domain). z.name) (sym same), ap (λ (z : Domain). z.roid) (sym same))

  -- ---- what isn't concerned before isn't concerned afterwards

  contact-unchosen : (name : List ℕ) (x : Contact) → get s.contacts name ≡ Some x → get caught_up.contacts name ≡ Some x → (concerned r g s).contacts name ≡ false → (concerned r g caught_up).contacts name ≡ false
  contact-unchosen name x before is_at none =
      let parts = or_parts (has_name (meant contact_name s.contacts g.contacts) name) (holds_of (λ (x : Contact). is_about r x.sponsor x.transfer) (get s.contacts name)) none in
      or_from (has_name (meant contact_name caught_up.contacts g.contacts) name) _
      (unmeant-left s.contacts fc contact_name contact-keeps g.contacts name parts.0)
      (ap (holds_of (λ (x : Contact). is_about r x.sponsor x.transfer)) (is_at ∙ sym before) ∙ parts.1)

  unconcerned : (d : Domain) → is_concerned r g s d ≡ false → is_concerned r g caught_up d ≡ false
  unconcerned d none =
      let about : Bool = is_about r d.sponsor d.transfer in
      let links : Bool = list_any (λ contact. names_contact contact d.links) g.contacts || list_any (λ host. names_host host d.links) g.hosts in
      let parts = or_parts about (list_any (is_same_roid d.roid) (read_at domain_roid s.domains g.domains) || links) none in
      let rest = or_parts (list_any (is_same_roid d.roid) (read_at domain_roid s.domains g.domains)) links parts.1 in
      or_from about (list_any (is_same_roid d.roid) (read_at domain_roid caught_up.domains g.domains) || links) parts.0
      (or_from (list_any (is_same_roid d.roid) (read_at domain_roid caught_up.domains g.domains)) links
      (read-left s.domains fd domain_roid (λ k x y is. (domain-keeps k x y is).1) (is_same_roid d.roid) g.domains rest.0) rest.1)

  domain-unchosen : (name : List ℕ) (d : Domain) → get s.domains name ≡ Some d → get caught_up.domains name ≡ Some d → (concerned r g s).domains name ≡ false → (concerned r g caught_up).domains name ≡ false
  domain-unchosen name d before is_at none =
      let parts = or_parts (has_name (meant domain_name s.domains g.domains) name) (holds_of (is_concerned r g s) (get s.domains name)) none in
      or_from (has_name (meant domain_name caught_up.domains g.domains) name) _
      (unmeant-left s.domains fd domain_name (λ k x y is. (domain-keeps k x y is).0) g.domains name parts.0)
      (ap (holds_of (is_concerned r g caught_up)) is_at ∙ unconcerned d (sym (ap (holds_of (is_concerned r g s)) before) ∙ parts.1))

  module _ (all : HasConcerned p r g t chosen s) where
    contact-settled : (name : List ℕ) (x y : Contact) → get s.contacts name ≡ Some x → get caught_up.contacts name ≡ Some y → (concerned r g caught_up).contacts name ≡ true
        → (b : Bool) → chosen.contacts name ≡ b → (lapse_if b (lapse_contact t x) x).object ≡ Some y → due_by t y.transfer ≡ None
    contact-settled name x y before is_at is true e left = (is_contact_lapse t x (lapse_contact t x) refl).due_after y left
    contact-settled name x y before is_at is false e left =
        let same : x ≡ y = same_Some x y left in
        let stood : get s.contacts name ≡ Some y = before ∙ ap (λ (z : Contact). let o : Option Contact = Some z in o) same in
        all.contacts name y stood (true_from_ne_false ((concerned r g s).contacts name) (λ none. true≢false (sym is ∙ contact-unchosen name y stood is_at none))) e

    domain-settled : (name : List ℕ) (d e : Domain) → get s.domains name ≡ Some d → get caught_up.domains name ≡ Some e → (concerned r g caught_up).domains name ≡ true
        → (b : Bool) → chosen.domains name ≡ b → (lapse_if b (lapse p t d) d).object ≡ Some e → t < due_at p e
    domain-settled name d e before is_at is true chose left = lapse-due p t d e left
    domain-settled name d e before is_at is false chose left =
        let same : d ≡ e = same_Some d e left in
        let stood : get s.domains name ≡ Some e = before ∙ ap (λ (z : Domain). let o : Option Domain = Some z in o) same in
        all.domains name e stood (true_from_ne_false ((concerned r g s).domains name) (λ none. true≢false (sym is ∙ domain-unchosen name e stood is_at none))) chose

    pub caught-up : IsSettledIn p (concerned r g caught_up) caught_up
    caught-up = record {
      contacts = λ name y after is. let was = left-of fc s.contacts name y after in contact-settled name was.0 y was.1 after is (chosen.contacts name) refl was.2;
      domains = λ name e after is. let was = left-of fd s.domains name e after in domain-settled name was.0 e was.1 after is (chosen.domains name) refl was.2;
    }
