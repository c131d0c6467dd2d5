-- Changes of an account commute with those of others and of objects, so they may stand together, before or behind them.
use Rattle.std.proofs.Common.{◌≡◌, ◌⊎◌, inl, inr, ℕ, ◌<◌, suc, length, arith, eq-eqb, eqb-true, Bool, true, false, cond, not, List, [], ◌∷◌, ◌++◌, Option, Some, None, option_to_list, refl, sym, ap, ◌∙◌}
use Rattle.std.proofs.lemmas.List.Sums.{count_by-le-length, fold-append, length-filter}
use Rattle.std.specs.{Prelude.{nat_eq, unwrap_or}, Cmp.nat_cmp_total, FinMap.{FinMap, nat_cmp-IsAntisymmetric}}
use Rattle.std.specs.{Option.{option_eq, option_or}, Ordering.nat_cmp}
use Rattle.accounts.specs.{declared.account.Account.Account, Account.empty_account}
use Rattle.basis.proofs.ChangeLaws.{change_at-commutes}
use Rattle.lifecycle.specs.{Changes.{all_changed, changed as account_changed}, declared.change.AccountChange.AccountChange}
use Rattle.model.specs.Registry.{Registry, account_of}
use Rattle.objects.specs.declared.host.Host.{Host}
use Rattle.policy.specs.Rules.{PolicyRules}
use Rattle.decisions.specs.{Changes.{changed, changed_all, host_renamed, may_rename, with_account}, declared.change.Change.Change}
use Rattle.decisions.specs.declared.change.Change.TheVariants.{OpenAccount, RenameHost, Post}
use Rattle.books.specs.{Book.{Stored, with_changes}, Tables.{posted_all, posted_to}, declared.grouping.Parted.Parted}
use Rattle.books.specs.inner.Grouping.{account_of_change, done_by, first_account, is_of_account, others, posts_of}
use Rattle.books.proofs.PutLemmas.{changed-put}

renamed-beside : (old : List ℕ) (h : Host) (r : ℕ) (f : Account → Account) (s : Registry) (b : Bool) → cond b (host_renamed old h (with_account r f s)) (with_account r f s) ≡ with_account r f (cond b (host_renamed old h s) s)
renamed-beside old h r f s true = refl
renamed-beside old h r f s false = refl

module _ (p : PolicyRules) where
  -- what a change makes of its account
  abbrev by : Change → Account → Account
  by c = all_changed p (option_to_list (done_by c))

  -- it changes an account
  abbrev OfAccount : Change → Type 0
  OfAccount c = (q : ℕ) × (account_of_change c ≡ Some q) × ((s : Registry) → changed p c s ≡ with_account q (by c) s)

  -- it changes no account, and looks at none
  abbrev OfObjects : Change → Type 0
  OfObjects c = (account_of_change c ≡ None) × ((r : ℕ) (f : Account → Account) (s : Registry) → changed p c (with_account r f s) ≡ with_account r f (changed p c s))

  kind : (c : Change) → OfAccount c ⊎ OfObjects c
  kind (OpenAccount r) = inl (r, refl, λ s. refl)
  kind (Post r what) = inl (r, refl, λ s. refl)
  kind (RenameHost old h) = inr (refl, λ r f s. renamed-beside old h r f s (may_rename s.hosts old h.name))
  kind _ = inr (refl, λ r f s. refl)

  module _ (r : ℕ) where
    is_itself : nat_eq r r ≡ true
    is_itself = eq-eqb r r refl

    -- a change of this account, by its kind
    inside : (c : Change) → account_of_change c ≡ Some r → (s : Registry) → OfAccount c ⊎ OfObjects c → changed p c s ≡ with_account r (by c) s
    inside c is s (inl (q, eq, gd)) = gd s ∙ ap (λ (o : Option ℕ). with_account (unwrap_or o r) (by c) s) (sym eq ∙ is)
    inside c is s (inr (en, past)) = absurd (let never : Some r ≡ None = sym is ∙ en in cc)

    -- a change of another account, or of none
    beside : (c : Change) → is_of_account r c ≡ false → (f : Account → Account) (s : Registry) → OfAccount c ⊎ OfObjects c → changed p c (with_account r f s) ≡ with_account r f (changed p c s)
    beside c outside f s (inl (q, eq, gd)) =
        gd (with_account r f s)
        ∙ ap (λ (m : FinMap nat_cmp Account). record s { accounts = m })
        (change_at-commutes nat_cmp nat_cmp_total nat_cmp-IsAntisymmetric empty_account s.accounts q r (by c) f
        (λ same. absurd (let never : true ≡ false = sym is_itself ∙ ap (λ (k : ℕ). nat_eq k r) (sym same) ∙ sym (ap (λ (o : Option ℕ). option_eq nat_eq o (Some r)) eq) ∙ outside in cc)))
        ∙ sym (ap (with_account r f) (gd s))
    beside c outside f s (inr (en, past)) = past r f s

    -- one change of the account after another
    twice : (f g : Account → Account) (s : Registry) → with_account r g (with_account r f s) ≡ with_account r (λ a. g (f a)) s
    twice f g s = ap (λ (m : FinMap nat_cmp Account). record s { accounts = m }) (changed-put r s.accounts (f (account_of r s)) g)

    -- what passes all of these changes
    abbrev Passes : List Change → Type 0
    Passes cs = (f : Account → Account) (s : Registry) → changed_all p cs (with_account r f s) ≡ with_account r f (changed_all p cs s)

    passes-one : (c : Change) (cs : List Change) → is_of_account r c ≡ false → Passes cs → Passes (c ∷ cs)
    passes-one c cs outside so f s = ap (changed_all p cs) (beside c outside f s (kind c)) ∙ so f (changed p c s)

    past-others : (cs : List Change) → Passes (others r cs)
    past-others [] = λ f s. refl
    past-others (c ∷ cs) = at (is_of_account r c) refl (past-others cs)
      where
        at : (b : Bool) → is_of_account r c ≡ b → Passes (others r cs) → Passes (cond (not b) (c ∷ others r cs) (others r cs))
        at true e so = so
        at false e so = passes-one c (others r cs) e so

    past-objects : (cs : List Change) → first_account cs ≡ None → Passes cs
    past-objects [] none = λ f s. refl
    past-objects (c ∷ cs) none = at (account_of_change c) refl none (λ e. past-objects cs e)
      where
        at : (o : Option ℕ) → account_of_change c ≡ o → option_or o (first_account cs) ≡ None → (first_account cs ≡ None → Passes cs) → Passes (c ∷ cs)
        at None e none so = passes-one c cs (ap (λ (o : Option ℕ). option_eq nat_eq o (Some r)) e) (so none)
        at (Some q) e none so = absurd cc

    -- the account's changes stand behind all others
    abbrev Moves : List Change → Type 0
    Moves cs = (f : Account → Account) (s : Registry) → with_account r (λ a. all_changed p (posts_of r cs) (f a)) (changed_all p (others r cs) s) ≡ changed_all p cs (with_account r f s)

    of-it : (c : Change) → is_of_account r c ≡ true → account_of_change c ≡ Some r
    of-it c e = at (account_of_change c) e
      where
        at : (o : Option ℕ) → option_eq nat_eq o (Some r) ≡ true → o ≡ Some r
        at None e = absurd cc
        at (Some q) e = ap (λ (k : ℕ). Some k) (eqb-true q r e)

    moves : (cs : List Change) → Moves cs
    moves [] = λ f s. refl
    moves (c ∷ cs) = at (is_of_account r c) refl (moves cs)
      where
        at : (b : Bool) → is_of_account r c ≡ b → Moves cs → (f : Account → Account) (s : Registry)
            → with_account r (λ a. all_changed p (cond b (option_to_list (done_by c) ++ posts_of r cs) (posts_of r cs)) (f a)) (changed_all p (cond (not b) (c ∷ others r cs) (others r cs)) s)
            ≡ changed_all p cs (changed p c (with_account r f s))
        at true e so f s =
            ap (λ (g : Account → Account). with_account r g (changed_all p (others r cs) s)) (λ i a. fold-append (λ (b : Account) (what : AccountChange). account_changed p what b) (f a) (option_to_list (done_by c)) (posts_of r cs) i)
            ∙ so (λ a. by c (f a)) s
            ∙ ap (changed_all p cs) (sym (inside c (of-it c e) (with_account r f s) (kind c) ∙ twice f (by c) s))
        at false e so f s = so f (changed p c s) ∙ ap (changed_all p cs) (sym (beside c e f s (kind c)))

    -- the same where the account is that of the first change of any
    behind-all : (cs : List Change) → first_account cs ≡ Some r → (s : Registry) → with_account r (all_changed p (posts_of r cs)) (changed_all p (others r cs) s) ≡ changed_all p cs s
    behind-all [] first = absurd cc
    behind-all (c ∷ cs) first = at (account_of_change c) refl first (λ e. behind-all cs e)
      where
        at : (o : Option ℕ) → account_of_change c ≡ o → option_or o (first_account cs) ≡ Some r
            → (first_account cs ≡ Some r → (s : Registry) → with_account r (all_changed p (posts_of r cs)) (changed_all p (others r cs) s) ≡ changed_all p cs s)
            → (s : Registry) → with_account r (all_changed p (posts_of r (c ∷ cs))) (changed_all p (others r (c ∷ cs)) s) ≡ changed_all p cs (changed p c s)
        at None e first so s = rw e (so first (changed p c s))
        at (Some q) e first so s =
            let is : account_of_change c ≡ Some r = e ∙ first in
            let test : is_of_account r c ≡ true = ap (λ (o : Option ℕ). option_eq nat_eq o (Some r)) is ∙ is_itself in
            rw test
            (ap (λ (g : Account → Account). with_account r g (changed_all p (others r cs) s)) (λ i a. fold-append (λ (b : Account) (what : AccountChange). account_changed p what b) a (option_to_list (done_by c)) (posts_of r cs) i)
            ∙ moves cs (by c) s
            ∙ ap (changed_all p cs) (sym (inside c is s (kind c))))

    fewer-others : (cs : List Change) → first_account cs ≡ Some r → length (others r cs) < length cs
    fewer-others [] first = absurd cc
    fewer-others (c ∷ cs) first = at (account_of_change c) refl first (λ e. fewer-others cs e)
      where
        at : (o : Option ℕ) → account_of_change c ≡ o → option_or o (first_account cs) ≡ Some r → (first_account cs ≡ Some r → length (others r cs) < length cs) → length (others r (c ∷ cs)) < suc (length cs)
        at None e first so = rw e (omega (arith, so first))
        at (Some q) e first so =
            let test : is_of_account r c ≡ true = ap (λ (o : Option ℕ). option_eq nat_eq o (Some r)) (e ∙ first) ∙ is_itself in
            rw test (let as-many = length-filter (λ (d : Change). not (is_of_account r d)) cs in let most = count_by-le-length (λ (d : Change). not (is_of_account r d)) cs in omega (arith, as-many, most))

  -- ---- as a book holds it

  pub before-objects : (cs : List Change) → first_account cs ≡ None → (r : ℕ) (f : Account → Account) (s : Stored) → with_changes p cs (posted_to r f s) ≡ posted_to r f (with_changes p cs s)
  before-objects cs none r f s = ap (λ (t : Registry). record s { registry = t }) (past-objects r cs none f s.registry)

  -- the changes of the account that comes first stand apart
  module _ (r : ℕ) (cs : List Change) (it : Parted) (whose : it.posts.registrar ≡ r) (done : it.posts.changes.items ≡ posts_of r cs) (rest : it.others.items ≡ others r cs) (first : first_account cs ≡ Some r) where
    pub fewer-left : length it.others.items < length cs
    fewer-left = let same = ap (λ (xs : List Change). length xs) rest in let fewer = fewer-others r cs first in omega (arith, same, fewer)

    pub behind : (s : Stored) → posted_all p it.posts (with_changes p it.others.items s) ≡ with_changes p cs s
    behind s = (λ i. posted_to (whose i) (all_changed p (done i)) (with_changes p (rest i) s)) ∙ ap (λ (t : Registry). record s { registry = t }) (behind-all r cs first s.registry)

    pub ahead : (s : Stored) → with_changes p it.others.items (posted_all p it.posts s) ≡ with_changes p cs s
    ahead s =
        (λ i. with_changes p (rest i) (posted_to (whose i) (all_changed p (done i)) s))
        ∙ ap (λ (t : Registry). record s { registry = t }) (past-others r cs (all_changed p (posts_of r cs)) s.registry ∙ behind-all r cs first s.registry)
