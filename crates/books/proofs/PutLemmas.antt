-- Values at keys, one put after another.
use Rattle.std.proofs.Common.{◌≡◌, ℕ, Bool, true, false, cond, Option, Some, None, refl, sym, ap, ◌∙◌}
use Rattle.std.specs.{Prelude.{option_map, unwrap_or}, declared.cmp.Ordering.Ordering}
use Rattle.std.specs.Cmp.{IsTotalOrder, Equal-is, eq_by_cmp_equiv, nat_cmp_total}
use Rattle.std.specs.FinMap.{FinMap, IsAntisymmetric, get, insert, get-insert, get-remove, same_map, nat_cmp-IsAntisymmetric}
use Rattle.std.specs.Ordering.{eq_by_cmp, nat_cmp}
use Rattle.accounts.specs.{declared.account.Account.Account, Account.empty_account}
use Rattle.basis.specs.Sweeps.{change_at}
use Rattle.books.specs.Ledgers.{changed_if_there, entry_set}

-- ---- maps

module _ {K X : Type 0} (R : K → K → Ordering) (o : IsTotalOrder R) (apart : IsAntisymmetric R) where
  get-put : (m : FinMap R X) (k : K) (value : Option X) (q : K) → get (entry_set m k value) q ≡ cond (eq_by_cmp R q k) value (get m q)
  get-put m k None q = get-remove o m k q
  get-put m k (Some x) q = get-insert o m k x q

  as-before : (m : FinMap R X) (k q : K) (value : Option X) (b : Bool) → eq_by_cmp R q k ≡ b → cond b (get m k) (cond b value (get m q)) ≡ get m q
  as-before m k q value true e = ap (get m) (sym (apart q k ((Equal-is (R q k)).0 e)))
  as-before m k q value false e = refl

  covered : (value other x : Option X) (b : Bool) → cond b value (cond b other x) ≡ cond b value x
  covered value other x true = refl
  covered value other x false = refl

  -- what is put covers what was put before
  pub put-put : (m : FinMap R X) (k : K) (other value : Option X) → entry_set (entry_set m k other) k value ≡ entry_set m k value
  put-put m k other value = same_map o apart _ _ (λ q.
      get-put (entry_set m k other) k value q ∙ ap (cond (eq_by_cmp R q k) value) (get-put m k other q) ∙ covered value other (get m q) (eq_by_cmp R q k) ∙ sym (get-put m k value q))

  pub put-back : (m : FinMap R X) (k : K) (value : Option X) → entry_set (entry_set m k value) k (get m k) ≡ m
  put-back m k value = same_map o apart _ _ (λ q.
      get-put (entry_set m k value) k (get m k) q ∙ ap (cond (eq_by_cmp R q k) (get m k)) (get-put m k value q) ∙ as-before m k q value (eq_by_cmp R q k) refl)

-- ---- an account that is there

pub put-there : (r : ℕ) (m : FinMap nat_cmp Account) (a : Account) → get (insert m r a) r ≡ Some a
put-there r m a = get-insert nat_cmp_total m r a r ∙ ap (λ (b : Bool). cond b (Some a) (get m r)) ((eq_by_cmp_equiv nat_cmp_total).refl r)

-- once it was put, it is changed where it stands
pub changed-put : (r : ℕ) (m : FinMap nat_cmp Account) (a : Account) (f : Account → Account) → change_at empty_account r f (insert m r a) ≡ insert m r (f a)
changed-put r m a f =
    ap (λ (o : Option Account). insert (insert m r a) r (f (unwrap_or o empty_account))) (put-there r m a) ∙ put-put nat_cmp nat_cmp_total nat_cmp-IsAntisymmetric m r (Some a) (Some (f a))

module _ (r : ℕ) (m : FinMap nat_cmp Account) (a : Account) (is : get m r ≡ Some a) where
  pub put-same : insert m r a ≡ m
  put-same =
      sym (put-put nat_cmp nat_cmp_total nat_cmp-IsAntisymmetric m r (Some a) (Some a)) ∙ ap (entry_set (insert m r a) r) (sym is)
      ∙ put-back nat_cmp nat_cmp_total nat_cmp-IsAntisymmetric m r (Some a)

  pub changed-if : (f : Account → Account) → changed_if_there f m r ≡ insert m r (f a)
  changed-if f = ap (λ (o : Option Account). entry_set m r (option_map f o)) is
