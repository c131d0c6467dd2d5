-- Values at keys of maps, put, taken away and changed.
use Rattle.std.specs.Prelude.{ℕ, Option, Some, None, option_map}
use Rattle.std.specs.declared.cmp.Ordering.{Ordering}
use Rattle.std.specs.FinMap.{FinMap, get, insert, remove}
use Rattle.std.specs.Ordering.{nat_cmp}
use Rattle.accounts.specs.declared.account.Account.{Account}

-- the key has this value, or none
abbrev pub entry_set : {K X : Type 0} {R : K → K → Ordering} → FinMap R X → K → Option X → FinMap R X
entry_set m k None = remove m k
entry_set m k (Some x) = insert m k x

-- the accounts, where a registrar's is changed if it is there
abbrev pub changed_if_there : (Account → Account) → FinMap nat_cmp Account → ℕ
    → FinMap nat_cmp Account
changed_if_there f accounts r = entry_set accounts r (option_map f (get accounts r))
