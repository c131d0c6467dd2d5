-- What is due lapses one after another as the whole registry does.
use Rattle.std.proofs.Common.{◌≡◌, ◌<◌, ◌⊎◌, inl, inr, ℕ, Bool, true, false, cond, ◌||◌, true≢false, List, [], ◌∷◌, filter, Option, Some, None, option_and_then, refl, sym, ap, ◌∙◌, arith}
use Rattle.std.proofs.lemmas.Bool.Decides.{nat_tests}
use Rattle.std.specs.{BTreeSet.insert_key, FinMap.{find, get-entries}, declared.cmp.Ordering.{Ordering, TheVariants.{Less, Equal, Greater}}}
use Rattle.registry.proofs.Words.{all-due-lapse-as-all, at, completes_at, Contact, Domain, Due, due_at, due_by, dues_lapsed, entries, get}
use Rattle.registry.proofs.Words.{lapses-on-from-some, match_ordering, nat_cmp, nat_list_cmp_total, now, object_lapsed}
use Rattle.registry.proofs.Words.{ObjectKind, PolicyRules, Registry, slice_cmp, some-lapse-together, transfer_due_by}
use Rattle.accounts.specs.declared.message.Subject.TheVariants as subjects
use Rattle.basis.proofs.{ApartLaws.{itself, tied}, MapLemmas.names_apart}
use Rattle.lifecycle.specs.{Periods.passed, DueObjects.{contact_due, domain_due, due_cmp, due_then, found_due, with_due}}
use Rattle.model.specs.Lapse.{Choice, accounts_at, either, is_named, lapse, lapse_some, nothing, only}
use Rattle.model.proofs.{OneByOneLemmas.one-lapses, SweepLemmas.swept-still}
use Rattle.objects.specs.declared.roid.ObjectKind.TheVariants as kinds
use Rattle.objects.specs.declared.transfer.Transfer.{Transfer}
use Rattle.concerns.specs.{declared.given.Names.Names, Concerns.{HasConcerned, concerned}}
use Rattle.concerns.specs.DueFor as dues
use Rattle.states.specs.States.{Has}
use Rattle.lifecycle.proofs.DueOrderLaws.{due_cmp_only}

-- ---- what is due lapses one after another as it does together

-- the object of that kind and name alone; a host doesn't lapse
one : ObjectKind → List ℕ → Choice
one kinds.Contact name = only subjects.Contact name
one kinds.Domain name = only subjects.Domain name
one kinds.Host name = nothing

pub chosen : List Due → Choice
chosen [] = nothing
chosen (d ∷ ds) = either (one d.kind d.name) (chosen ds)

module _ (p : PolicyRules) (t : ℕ) where
  one-as-some : (kind : ObjectKind) (name : List ℕ) (s : Registry) → object_lapsed p t kind name s ≡ lapse_some p (one kind name) t s
  unfolding one
  one-as-some kinds.Contact name s = one-lapses p t name s subjects.Contact
  one-as-some kinds.Domain name s = one-lapses p t name s subjects.Domain
  one-as-some kinds.Host name s = sym (swept-still s)

  pub each-as-some : (ds : List Due) (s : Registry) → dues_lapsed p t ds s ≡ lapse_some p (chosen ds) t s
  unfolding chosen
  each-as-some [] s = sym (swept-still s)
  each-as-some (d ∷ ds) s =
      each-as-some ds (object_lapsed p t d.kind d.name s)
      ∙ ap (lapse_some p (chosen ds) t) (one-as-some d.kind d.name s)
      ∙ some-lapse-together p (one d.kind d.name) (chosen ds) t s

  -- where some objects have lapsed, what is left lapses as the registry would have
  pub some-lapsed : (ds : List Due) (s : Registry) → now p (dues_lapsed p t ds (at t s)) ≡ lapse p t s
  unfolding accounts_at
  some-lapsed ds s = ap (now p) (each-as-some ds (at t s)) ∙ lapses-on-from-some p (chosen ds) t t t (omega arith) (at t s)

-- ---- a list of what is due has what is found

insert-has : (new : Due) (ds : List Due) (d : Due) → (d ≡ new) ⊎ Has ds d → Has (insert_key due_cmp ds new) d
insert-has new [] d which = which
insert-has new (x ∷ xs) d which = by (due_cmp new x) refl (insert-has new xs d) which
  where
    by : (o : Ordering) → due_cmp new x ≡ o → ((d ≡ new) ⊎ Has xs d → Has (insert_key due_cmp xs new) d)
        → (d ≡ new) ⊎ ((d ≡ x) ⊎ Has xs d) → Has (match_ordering o (new ∷ x ∷ xs) (x ∷ xs) (x ∷ insert_key due_cmp xs new)) d
    by Less tie rest which = which
    by Equal tie rest (inl is) = inl (is ∙ due_cmp_only new x tie)
    by Equal tie rest (inr old) = old
    by Greater tie rest (inl is) = inr (rest (inl is))
    by Greater tie rest (inr (inl first)) = inl first
    by Greater tie rest (inr (inr later)) = inr (rest (inr later))

with-has : (o : Option Due) (found : List Due) (d : Due) → (o ≡ Some d) ⊎ Has found d → Has (with_due o found) d
with-has None found d (inl is) = cc
with-has None found d (inr old) = old
with-has (Some new) found d (inl is) = insert-has new found d (inl (let same : new ≡ d = cc in sym same))
with-has (Some new) found d (inr old) = insert-has new found d (inr old)

module _ {X : Type 0} (test : List ℕ × X → Option Due) where
  still-has : (found : List Due) (es : List (List ℕ × X)) (d : Due) → Has found d → Has (found_due test found es) d
  still-has found [] d has = has
  still-has found (e ∷ es) d has = still-has (with_due (test e) found) es d (with-has (test e) found d (inr has))

  finds : (found : List Due) (name : List ℕ) (x : X) (d : Due) → test (name, x) ≡ Some d → (es : List (List ℕ × X)) → find (slice_cmp nat_cmp) name es ≡ Some x → Has (found_due test found es) d
  finds found name x d is [] there = cc
  finds found name x d is (e ∷ es) there = by (is_named name e.0) refl (finds (with_due (test e) found) name x d is es) there
    where
      by : (b : Bool) → is_named name e.0 ≡ b → (find (slice_cmp nat_cmp) name es ≡ Some x → Has (found_due test (with_due (test e) found) es) d)
          → cond b (Some e.1) (find (slice_cmp nat_cmp) name es) ≡ Some x → Has (found_due test (with_due (test e) found) es) d
      by true same rest there =
          let key : name ≡ e.0 = tied (slice_cmp nat_cmp) nat_list_cmp_total names_apart name e.0 same in
          let value : e.1 ≡ x = cc in
          still-has (with_due (test e) found) es d (with-has (test e) found d (inl ((λ i. test (sym key i, value i)) ∙ is)))
      by false other rest there = rest there

filter-has : (pick : Due → Bool) (ds : List Due) (d : Due) → pick d ≡ true → Has ds d → Has (filter pick ds) d
filter-has pick [] d picked has = has
filter-has pick (x ∷ xs) d picked has = by (pick x) refl (filter-has pick xs d picked) has
  where
    by : (b : Bool) → pick x ≡ b → (Has xs d → Has (filter pick xs) d) → (d ≡ x) ⊎ Has xs d → Has (cond b (x ∷ filter pick xs) (filter pick xs)) d
    by true is rest (inl first) = inl first
    by true is rest (inr later) = inr (rest later)
    by false is rest (inl first) = absurd (true≢false (sym picked ∙ ap pick first ∙ is))
    by false is rest (inr later) = rest later

-- ---- and what it has is chosen

first-chosen : (kind : ObjectKind) (name : List ℕ) (a b : Bool) → dues.picks kind true true ≡ true
    → dues.picks kind ((one kind name).contacts name || a) ((one kind name).domains name || b) ≡ true
unfolding one
first-chosen kind name a b lapses = let own = itself (slice_cmp nat_cmp) nat_list_cmp_total names_apart name in grind (arith, own, lapses)

still-chosen : (kind : ObjectKind) (name : List ℕ) (x rest : Choice) → dues.picks kind (rest.contacts name) (rest.domains name) ≡ true
    → dues.picks kind (x.contacts name || rest.contacts name) (x.domains name || rest.domains name) ≡ true
still-chosen kind name x rest is = grind (arith, is)

is-chosen : (ds : List Due) (d : Due) → dues.picks d.kind true true ≡ true → Has ds d → dues.is_picked (chosen ds) d ≡ true
unfolding chosen
is-chosen [] d lapses has = absurd has
is-chosen (x ∷ xs) d lapses (inl first) =
    ap (λ (y : Due). dues.is_picked (either (one y.kind y.name) (chosen xs)) d) (sym first)
    ∙ first-chosen d.kind d.name ((chosen xs).contacts d.name) ((chosen xs).domains d.name) lapses
is-chosen (x ∷ xs) d lapses (inr later) = still-chosen d.kind d.name (one x.kind x.name) (chosen xs) (is-chosen xs d lapses later)

-- ---- so what isn't chosen isn't due

ahead : (t e : ℕ) → passed t e ≡ None → t < e
ahead t e none = grind (arith, nat_tests, none)

-- a transfer that is due is pending, and its moment has come
idle : (t : ℕ) (o : Option Transfer) → option_and_then (passed t) (completes_at o) ≡ None → transfer_due_by t o ≡ None
idle t o none = grind (arith, nat_tests, none)

module _ (p : PolicyRules) (t : ℕ) (s : Registry) (ch : Choice) (ds : List Due) (has : (d : Due) → dues.is_picked ch d ≡ true → Has (due_by p t s) d → Has ds d) where
  undue : (kind : ObjectKind) (name : List ℕ) (o : Option ℕ) → dues.picks kind true true ≡ true → dues.picks kind (ch.contacts name) (ch.domains name) ≡ true
      → dues.picks kind ((chosen ds).contacts name) ((chosen ds).domains name) ≡ false → ((d : Due) → due_then kind name o ≡ Some d → Has (due_by p t s) d) → o ≡ None
  undue kind name None lapses picked out there = refl
  undue kind name (Some m) lapses picked out there =
      let d : Due = record { due = m; kind = kind; name = name } in
      absurd (true≢false (sym (is-chosen ds d lapses (has d picked (there d refl))) ∙ out))

  contacts-idle : (name : List ℕ) (c : Contact) → get s.contacts name ≡ Some c → ch.contacts name ≡ true → (chosen ds).contacts name ≡ false → transfer_due_by t c.transfer ≡ None
  contacts-idle name c there picked out =
      idle t c.transfer (undue kinds.Contact name (option_and_then (passed t) (completes_at c.transfer)) refl picked out (λ d is.
      still-has (domain_due p t) (found_due (contact_due t) [] (entries s.contacts)) (entries s.domains) d
      (finds (contact_due t) [] name c d is (entries s.contacts) (sym (get-entries s.contacts name) ∙ there))))

  domains-ahead : (name : List ℕ) (d : Domain) → get s.domains name ≡ Some d → ch.domains name ≡ true → (chosen ds).domains name ≡ false → t < due_at p d
  domains-ahead name x there picked out =
      ahead t (due_at p x) (undue kinds.Domain name (passed t (due_at p x)) refl picked out (λ d is.
      finds (domain_due p t) (found_due (contact_due t) [] (entries s.contacts)) name x d is (entries s.domains) (sym (get-entries s.domains name) ∙ there)))

-- with all that is due by the clock lapsed, the registry has
pub all-lapsed : (p : PolicyRules) (t : ℕ) (s : Registry) → dues_lapsed p t (due_by p t (at t s)) (at t s) ≡ lapse p t s
unfolding accounts_at
all-lapsed p t s =
    let ds : List Due = due_by p t (at t s) in
    let all : Choice = record { contacts = λ name. true; domains = λ name. true } in
    each-as-some p t ds (at t s)
    ∙ all-due-lapse-as-all p t (chosen ds) (at t s) (record {
      contacts = λ name c there out. contacts-idle p t (at t s) all ds (λ d picked has. has) name c there refl out;
      domains = λ name d there out. domains-ahead p t (at t s) all ds (λ d picked has. has) name d there refl out;
    })

-- with what concerns a registrar and some names lapsed, nothing else of it is due
pub has-concerned : (p : PolicyRules) (r : Option ℕ) (g : Names) (t : ℕ) (s : Registry) → HasConcerned p r g t (chosen (dues.due_for p r g t s)) s
has-concerned p r g t s =
    let ch : Choice = concerned r g s in
    record {
      contacts = contacts-idle p t s ch (dues.due_for p r g t s) (filter-has (dues.is_picked ch) (due_by p t s));
      domains = domains-ahead p t s ch (dues.due_for p r g t s) (filter-has (dues.is_picked ch) (due_by p t s));
    }
