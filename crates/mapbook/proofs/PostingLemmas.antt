-- How an account in ordered maps is changed where it is there.
use Rattle.std.proofs.Common.{◌≡◌, ℕ, Bool, true, false, cond, List, [], ◌∷◌, Option, Some, None, fold, is_some, IsSomeAnd, option_map, refl, sym, ap, ◌∙◌}
use Rattle.mapbook.proofs.Words.{account_edited, account_of, account_opened, AccountEdit, ack_edits, all_changed, all_edited, bytes_eq, changed}
use Rattle.mapbook.proofs.Words.{changed-if, changed_each, changed_there, eq_by_cmp_equiv, FinMap, get, get-remove, insert, Message, nat_cmp}
use Rattle.mapbook.proofs.Words.{nat_cmp-IsAntisymmetric, nat_cmp_total, posted_to, put-back, put-put, put-same, put-there, slice_get, Stored}
use Rattle.mapbook.proofs.Words.{swap_edits, swapped, swapped_all, unwrap_or, with_accounts, with_acked}
use Rattle.accounts.specs.{declared.{account.Account.Account, line.LineSwap.LineSwap}, Account.empty_account, Entries.with_lines}
use Rattle.accounts.specs.{MessageOrder.message_eq_equiv, Messages.message_id, Queue.{acked, dropped}}
use Rattle.lifecycle.specs.declared.change.AccountChange.{AccountChange}
use Rattle.policy.specs.Rules.{PolicyRules}
use Rattle.books.specs.Ledgers.{changed_if_there, entry_set}
use Rattle.mapbook.specs.declared.account_edit.AccountEdit.TheVariants.{TakeMessage}

module _ (r : ℕ) (m : FinMap nat_cmp Account) where
  -- what is put where it was
  unchanged : entry_set m r (get m r) ≡ m
  unchanged = sym (put-put nat_cmp nat_cmp_total nat_cmp-IsAntisymmetric m r (get m r) (get m r)) ∙ put-back nat_cmp nat_cmp_total nat_cmp-IsAntisymmetric m r (get m r)

  put-at : (v : Option Account) → get (entry_set m r v) r ≡ v
  put-at None = get-remove nat_cmp_total m r r ∙ ap (λ (b : Bool). cond b None (get m r)) ((eq_by_cmp_equiv nat_cmp_total).refl r)
  put-at (Some a) = put-there r m a

  module _ (f : Account → Account) where
    pub nothing-changed : None ≡ get m r → m ≡ changed_if_there f m r
    nothing-changed e = sym (ap (λ (o : Option Account). entry_set m r (option_map f o)) (sym e) ∙ ap (λ (o : Option Account). entry_set m r o) e ∙ unchanged)

    -- one change after another
    twice : (g : Account → Account) → changed_if_there g (changed_if_there f m r) r ≡ changed_if_there (λ a. g (f a)) m r
    twice g =
        put-put nat_cmp nat_cmp_total nat_cmp-IsAntisymmetric m r (option_map f (get m r)) (option_map g (get (changed_if_there f m r) r))
        ∙ ap (λ (o : Option Account). entry_set m r (option_map g o)) (put-at (option_map f (get m r)))
        ∙ ap (λ (o : Option Account). entry_set m r o) (mapped (get m r))
      where
        mapped : (o : Option Account) → option_map g (option_map f o) ≡ option_map (λ a. g (f a)) o
        mapped None = refl
        mapped (Some a) = refl

    -- by the change's inverse
    pub back-there : (g : Account → Account) (o : Option Account) → o ≡ get m r → IsSomeAnd o (λ a. g (f a) ≡ a) → changed_if_there g (changed_if_there f m r) r ≡ m
    back-there g None e is = absurd is
    back-there g (Some a) e is = twice g ∙ changed-if r m a (sym e) (λ b. g (f b)) ∙ ap (insert m r) is ∙ put-same r m a (sym e)

  same-there : changed_if_there (λ a. a) m r ≡ m
  same-there = ap (λ (o : Option Account). entry_set m r o) (as-it-is (get m r)) ∙ unchanged
    where
      as-it-is : (o : Option Account) → option_map (λ (a : Account). a) o ≡ o
      as-it-is None = refl
      as-it-is (Some a) = refl

-- ---- one change after another

each-there : {X : Type 0} (made : X → Account → Account) (r : ℕ) (xs : List X) (s : Stored) → changed_each r made xs s ≡ changed_there r (λ a. fold (λ a x. made x a) a xs) s
each-there made r [] s = ap (λ (m : FinMap nat_cmp Account). with_accounts m s) (sym (same-there r s.registry.accounts))
each-there {X} made r (x ∷ xs) s =
    each-there made r xs (changed_there r (made x) s)
    ∙ ap (λ (m : FinMap nat_cmp Account). with_accounts m s) (twice r s.registry.accounts (made x) (λ a. fold (λ (a : Account) (x : X). made x a) a xs))

-- an account that is opened first is there
pub posts-made : (p : PolicyRules) (r : ℕ) (changes : List AccountChange) (s : Stored) → changed_each r (changed p) changes (account_opened r s) ≡ posted_to r (all_changed p changes) s
posts-made p r changes s =
    let m = s.registry.accounts in
    let a = account_of r s.registry in
    each-there (changed p) r changes (account_opened r s)
    ∙ ap (λ (n : FinMap nat_cmp Account). with_accounts n s)
    (changed-if r (insert m r a) a (put-there r m a) (all_changed p changes) ∙ put-put nat_cmp nat_cmp_total nat_cmp-IsAntisymmetric m r (Some a) (Some (all_changed p changes a)))

-- one that is there is open
pub opened-same : (r : ℕ) (s : Stored) → is_some (get s.registry.accounts r) ≡ true → s ≡ account_opened r s
opened-same r s there = by (get s.registry.accounts r) refl there
  where
    by : (o : Option Account) → get s.registry.accounts r ≡ o → is_some o ≡ true → s ≡ account_opened r s
    by None e h = absurd cc
    by (Some a) e h =
        ap (λ (m : FinMap nat_cmp Account). with_accounts m s)
        (sym (ap (λ (o : Option Account). insert s.registry.accounts r (unwrap_or o empty_account)) e ∙ put-same r s.registry.accounts a e))

-- ---- a change, by edits

-- where the edits make of it what the change makes
pub edits-made : (r : ℕ) (f : Account → Account) (edits : List AccountEdit) (s : Stored)
    → changed_if_there (all_edited edits) s.registry.accounts r ≡ changed_if_there f s.registry.accounts r
    → changed_each r account_edited edits s ≡ changed_there r f s
edits-made r f edits s same = each-there account_edited r edits s ∙ ap (λ (m : FinMap nat_cmp Account). with_accounts m s) same

pub swaps-made : (swaps : List LineSwap) (a : Account) → all_edited (swap_edits swaps) a ≡ with_lines (swapped_all swaps) a
swaps-made [] a = refl
swaps-made (x ∷ xs) a = swaps-made xs (with_lines (λ ls. swapped ls x) a)

pub ack-made : (id : List ℕ) (a : Account) (ms : List Message) → a.queue ≡ ms → all_edited (ack_edits id (slice_get ms 0)) a ≡ with_acked id a
ack-made id a [] q = ap (λ (ns : List Message). let b : Account = record a { queue = ns } in b) (q ∙ sym (ap (acked id) q))
ack-made id a (m ∷ ms) q = by (bytes_eq (message_id m) id) refl
  where
    gone : dropped m (m ∷ ms) ≡ ms
    gone = ap (λ (b : Bool). cond b ms (m ∷ dropped m ms)) (message_eq_equiv.refl m)

    by : (b : Bool) → bytes_eq (message_id m) id ≡ b → all_edited (cond b (TakeMessage m ∷ []) []) a ≡ with_acked id a
    by true e = ap (λ (ns : List Message). let b : Account = record a { queue = ns } in b) (ap (dropped m) q ∙ gone ∙ sym (ap (acked id) q ∙ ap (λ (b : Bool). cond b ms (m ∷ ms)) e))
    by false e = ap (λ (ns : List Message). let b : Account = record a { queue = ns } in b) (q ∙ sym (ap (acked id) q ∙ ap (λ (b : Bool). cond b ms (m ∷ ms)) e))
