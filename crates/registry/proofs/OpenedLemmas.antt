-- What is opened is a registry of the policy.
use Rattle.std.proofs.Common.{◌≡◌, ◌↔◌, ◌⊎◌, inl, inr, ⊎_elim, ℕ, zero, suc, ◌+◌, ◌≤◌, Bool, true, false, cond, List, [], ◌∷◌, ◌++◌, length, Option, Some, None, IsSome, is_some, refl, sym, ap, subst, ◌∙◌, arith, length-append}
use Rattle.std.proofs.lemmas.List.Elements.{All-nil}
use Rattle.std.specs.{List.All, declared.cmp.Ordering.Ordering, Cmp.nat_cmp_total}
use Rattle.registry.proofs.Words.{account_of, blank, BookState, changed, changed_all, Continues, DaysContinue, empty, eq_by_cmp, FinMap, fold, get}
use Rattle.registry.proofs.Words.{get-empty, HasCome, IsLineOf, IsRegistrar, IsRegistry, lapse_contact, length_of, nat_cmp, nat_cmp-IsAntisymmetric}
use Rattle.registry.proofs.Words.{now, PolicyRules, Registry, slice_cmp, Stored, terms_of, unwrap_or}
use Rattle.accounts.specs.{declared.{account.Account.Account, entries.Posting.Posting}, Account.empty_account, Entries.{entered, posted}}
use Rattle.basis.specs.Sweeps.{change_at}
use Rattle.basis.proofs.ChangeLaws.{change_at-commutes}
use Rattle.lifecycle.specs.Lapse.{lapse}
use Rattle.policy.proofs.{ScheduleLemmas.{continues-itself, in-force-same}, TermsLemmas.continues-Decides}
use Rattle.registry.specs.Opening.{KeepsLengths, Opens, OpensAsItWas, continues_earlier, goes_on, opened, openings}
use Rattle.registry.specs.WellFormed.{HoldsRegistry, OpensWellFormed}
use Rattle.decisions.specs.{declared.change.Change.{Change, TheVariants.OpenAccount}, Changes.itself}
use Rattle.decisions.proofs.{GrowthLemmas.Grows, KeepingLemmas.{kept-grown, placed}, LineKeepingLemmas.lines-domains}
use Rattle.decisions.proofs.{RegistryLemmas.registry-now, ViewLemmas.account_of-with_account}
use Rattle.names.specs.Zone.{ZoneRules}
use Rattle.model.specs.{Lapse.{accounts_at, postings}, Shapes.HasShapes}
use Rattle.model.proofs.TermsLemmas.{AgreeUntil, same-lapse}

-- ---- the accounts, once those of the first n registrars are open

accounts-after : ℕ → FinMap nat_cmp Account → FinMap nat_cmp Account
accounts-after zero m = m
accounts-after (suc n) m = change_at empty_account (suc n) itself (accounts-after n m)

abbrev with-opened : ℕ → Registry → Registry
with-opened n s = record s { accounts = accounts-after n s.accounts }

changed_all-push : (p : PolicyRules) (changes : List Change) (change : Change) (s : Registry) → changed_all p (changes ++ change ∷ []) s ≡ changed p change (changed_all p changes s)
changed_all-push p [] change s = refl
changed_all-push p (first ∷ changes) change s = changed_all-push p changes change (changed p first s)

changed-openings : (p : PolicyRules) (n : ℕ) (s : Registry) → changed_all p (openings n) s ≡ with-opened n s
unfolding openings accounts-after
changed-openings p zero s = refl
changed-openings p (suc n) s = changed_all-push p (openings n) (OpenAccount (suc n)) s ∙ ap (λ (t : Registry). changed p (OpenAccount (suc n)) t) (changed-openings p n s)

-- each account that was there is as it was
same-account : (n r : ℕ) (s : Registry) → account_of r (with-opened n s) ≡ account_of r s
unfolding accounts-after
same-account zero r s = refl
same-account (suc n) r s = account_of-with_account r (suc n) itself (with-opened n s) ∙ by (eq_by_cmp nat_cmp r (suc n)) ∙ same-account n r s
  where
    by : (b : Bool) → (let a : Account = account_of r (with-opened n s) in cond b (itself a) a ≡ a)
    by true = refl
    by false = refl

-- ---- time makes the same of a registry, whether its accounts are opened before or after

opened-posted : (es : List Posting) (accounts : FinMap nat_cmp Account) (r : ℕ) → fold posted (change_at empty_account r itself accounts) es ≡ change_at empty_account r itself (fold posted accounts es)
opened-posted [] accounts r = refl
opened-posted (e ∷ es) accounts r =
    ap (λ (m : FinMap nat_cmp Account). fold posted m es) (change_at-commutes nat_cmp nat_cmp_total nat_cmp-IsAntisymmetric empty_account accounts e.registrar r (entered e.what) itself (λ same a. refl))
    ∙ opened-posted es (posted accounts e) r

accounts-after-posted : (n : ℕ) (es : List Posting) (m : FinMap nat_cmp Account) → fold posted (accounts-after n m) es ≡ accounts-after n (fold posted m es)
unfolding accounts-after
accounts-after-posted zero es m = refl
accounts-after-posted (suc n) es m = opened-posted es (accounts-after n m) (suc n) ∙ ap (λ (m : FinMap nat_cmp Account). change_at empty_account (suc n) itself m) (accounts-after-posted n es m)

pub now-opened : (p : PolicyRules) (n : ℕ) (s : Registry) → now p (changed_all p (openings n) s) ≡ changed_all p (openings n) (now p s)
unfolding accounts_at
now-opened p n s =
    let es : List Posting = postings (λ name. lapse_contact s.clock) (λ name. lapse p s.clock) s in
    ap (now p) (changed-openings p n s)
    ∙ ap (λ (m : FinMap nat_cmp Account). record (now p s) { accounts = m }) (accounts-after-posted n es s.accounts)
    ∙ sym (changed-openings p n (now p s))

-- ---- whose accounts there are

places-after : (n r : ℕ) (m : FinMap nat_cmp Account) → IsSome (get (accounts-after n m) r) ↔ (IsSome (get m r) ⊎ ((1 ≤ r) × (r ≤ n)))
unfolding accounts-after
places-after zero r m = (λ there. inl there, ⊎_elim (λ there. there) (λ place. absurd (omega (arith, place.0, place.1))))
places-after (suc n) r m =
    let put = placed (accounts-after n m) (suc n) (unwrap_or (get (accounts-after n m) (suc n)) empty_account) r in
    let before = places-after n r m in (
      λ there. ⊎_elim (λ same. inr (omega (arith, same), omega (arith, same))) (λ old. ⊎_elim (λ was. inl was) (λ place. inr (place.0, omega (arith, place.1))) (before.0 old)) (put.0 there),
      λ which. ⊎_elim (λ was. put.1 (inr (before.1 (inl was)))) (λ place. ⊎_elim (λ first. put.1 (inr (before.1 (inr (place.0, first))))) (λ same. put.1 (inl same)) (last place.1)) which,
    )
  where
    last : r ≤ suc n → (r ≤ n) ⊎ (r ≡ suc n)
    last le = grind arith

-- ---- a registry is opened under a policy that continues its own

kept-opened : (p q : PolicyRules) (s : Registry) → q.zone ≡ p.zone → length q.ids ≤ length p.ids → IsRegistry q s → IsRegistry p (changed_all p (openings (length p.ids)) s)
kept-opened p q s zone more is =
    let n : ℕ = length p.ids in
    let t : Registry = with-opened n s in
    let grows : Grows q p s t = record {
      zone = zone;
      place = λ r place. (place.0, omega (arith, place.1, more));
      clock = omega arith;
      serial = λ r. omega (arith, ap (λ (a : Account). a.serial) (same-account n r s));
    } in
    let places : (r : ℕ) → IsSome (get t.accounts r) ↔ IsRegistrar p r = λ r.
    let whose = places-after n r s.accounts in
    (λ there. ⊎_elim (λ was. grows.place r ((is.objects.identities.accounts r).0 was)) (λ place. place) (whose.0 there), λ place. whose.1 (inr place)) in
    let of_q : HasShapes q.zone t = record { domains = is.shapes.domains; hosts = is.shapes.hosts } in
    subst (IsRegistry p) (sym (changed-openings p n s)) (record {
      clock = is.clock;
      objects = kept-grown q p s t.accounts s.clock grows places is.objects;
      lines = lines-domains q p s t grows (λ r. ap (λ (a : Account). a.lines) (same-account n r s)) is.lines.domains is.lines;
      messages = λ r. subst (λ (a : Account). All (HasCome s.clock) a.queue) (sym (same-account n r s)) (is.messages r);
      shapes = subst (λ (z : ZoneRules). HasShapes z t) zone of_q;
    })

-- ---- what was never opened is the registry of a policy without registrars

abbrev without_registrars : PolicyRules → PolicyRules
without_registrars p = record p { ids = [] }

nothing-at : {K X A : Type 0} (R : K → K → Ordering) (k : K) (x : X) → get (empty {X = X} {R = R}) k ≡ Some x → A
nothing-at R k x at = let never : None ≡ Some x = sym (get-empty R k) ∙ at in absurd cc

-- no account, no object, and so no line, no message and no shape
blank-is : (p : PolicyRules) → IsRegistry (without_registrars p) blank
blank-is p = record {
  clock = omega arith;
  objects = record {
    identities = record {
      accounts = λ r. (λ there. absurd (nobody r there), λ place. absurd (omega (arith, place.0, place.1)));
      contact_roids = λ a b x y at-a at-b same. nothing-at (slice_cmp nat_cmp) a x at-a;
      host_roids = λ a b x y at-a at-b same. nothing-at (slice_cmp nat_cmp) a x at-a;
      domain_roids = λ a b x y at-a at-b same. nothing-at (slice_cmp nat_cmp) a x at-a;
    };
    contacts = λ name c at. nothing-at (slice_cmp nat_cmp) name c at;
    hosts = λ name h at. nothing-at (slice_cmp nat_cmp) name h at;
    domains = λ name d at. nothing-at (slice_cmp nat_cmp) name d at;
  };
  lines = record {
    each = λ r. of-account r (λ a. All (IsLineOf (without_registrars p) blank) a.lines) (All-nil (IsLineOf (without_registrars p) blank));
    domains = λ name d at. nothing-at (slice_cmp nat_cmp) name d at;
  };
  messages = λ r. of-account r (λ a. All (HasCome blank.clock) a.queue) (All-nil (HasCome blank.clock));
  shapes = record {
    domains = λ name d at. nothing-at (slice_cmp nat_cmp) name d at;
    hosts = λ name h at. nothing-at (slice_cmp nat_cmp) name h at;
  };
}
  where
    nobody : (r : ℕ) → IsSome (get blank.accounts r) → ⊥
    nobody r there = let never : false ≡ true = sym (ap is_some (get-empty nat_cmp r)) ∙ there in cc

    of-account : (r : ℕ) (P : Account → Type 0) → P empty_account → P (account_of r blank)
    of-account r P is = subst (λ (o : Option Account). P (unwrap_or o empty_account)) (sym (get-empty nat_cmp r)) is

-- ---- a book is opened

fewer : (p q : PolicyRules) (added : List (List ℕ)) → p.ids ≡ q.ids ++ added → length q.ids ≤ length p.ids
fewer p q added ids =
    let whole : length p.ids ≡ length q.ids + length added = ap length ids ∙ length-append q.ids added in
    omega arith

-- tables that begin later than the clock change no length of a period that began by then
agree-until : (clock : ℕ) (p q : PolicyRules) → DaysContinue clock p.days q.days → AgreeUntil clock p q
agree-until clock p q continues period m le = ap (length_of period) (in-force-same clock m p.days q.days continues le)

-- so by now the registry is what it was under the other policy, once accounts are opened
now-same : (p q : PolicyRules) (s : Registry) → DaysContinue s.clock p.days q.days → p.prices ≡ q.prices
    → now p (changed_all p (openings (length p.ids)) s) ≡ changed_all p (openings (length p.ids)) (now q s)
now-same p q s days prices =
    let n : ℕ = length p.ids in
    now-opened p n s ∙ ap (changed_all p (openings n)) (same-lapse s.clock p q (agree-until s.clock p q days) prices s.clock s (omega arith))

-- a registry that is well formed now under one policy, once it is opened under another
now-kept-opened : (p q : PolicyRules) (s : Registry) → q.zone ≡ p.zone → DaysContinue s.clock p.days q.days → p.prices ≡ q.prices → length q.ids ≤ length p.ids → IsRegistry q (now q s)
    → IsRegistry p (now p (changed_all p (openings (length p.ids)) s))
now-kept-opened p q s zone days prices more is = subst (IsRegistry p) (sym (now-same p q s days prices)) (kept-opened p q (now q s) zone more is)

-- a policy under which a book goes on that was opened under another continues that one
continued : (p q : PolicyRules) (held : Stored) → held.terms ≡ Some (terms_of q) → goes_on (terms_of p) held ≡ true
    → Continues held.registry.clock (terms_of p) (terms_of q)
continued p q held before fits =
    let clock : ℕ = held.registry.clock in
    (continues-Decides clock (terms_of p) (terms_of q)).0 (sym (ap (continues_earlier clock (terms_of p)) before) ∙ fits)

held-opened : (p : PolicyRules) (held : Stored) → goes_on (terms_of p) held ≡ true → HoldsRegistry held → IsRegistry p (now p (opened p held).registry)
held-opened p held fits (inl e) =
    subst (λ (held : Stored). IsRegistry p (now p (opened p held).registry)) (sym e)
    (now-kept-opened p (without_registrars p) blank refl (continues-itself blank.clock p.days) refl (omega arith) (registry-now (without_registrars p) blank (blank-is p)))
held-opened p held fits (inr before) =
    let q : PolicyRules = before.0 in
    let same = continued p q held before.1 fits in
    let zone : q.zone ≡ p.zone = λ i. record { label = sym same.zone i; reserved = sym same.reserved i } in
    now-kept-opened p q held.registry zone same.days same.prices (fewer p q same.ids.0 same.ids.1) before.2

pub opens-kept : (p : PolicyRules) (old new : BookState) → Opens p old new → new.is_clean ≡ true → OpensWellFormed p old.content new.content
opens-kept p old new opens clean holds = subst (λ (held : Stored). IsRegistry p (now p held.registry)) (sym (opens.content clean)) (held-opened p old.content (opens.fits clean) holds)

pub opens-same : (p : PolicyRules) (old new : BookState) → Opens p old new → new.is_clean ≡ true → OpensAsItWas p old.content new.content
opens-same p old new opens clean q before =
    let same = continued p q old.content before (opens.fits clean) in
    ap (λ (held : Stored). now p held.registry) (opens.content clean) ∙ now-same p q old.content.registry same.days same.prices

pub opens-lengths : (p : PolicyRules) (old new : BookState) → Opens p old new → new.is_clean ≡ true → KeepsLengths p old.content
opens-lengths p old new opens clean q before = agree-until old.content.registry.clock p q (continued p q old.content before (opens.fits clean)).days
