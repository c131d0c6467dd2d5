-- Changes of one account, apart from all others.
use Rattle.std.specs.Prelude.{ℕ, Bool, not, nat_eq, if◌then◌else◌, List, [], ◌∷◌, ◌++◌, filter, Option, Some, None, option_to_list}
use Rattle.std.specs.Option.{option_eq, option_or}
use Rattle.decisions.specs.declared.change.Change.{Change}
use Rattle.decisions.specs.declared.change.Change.TheVariants.{OpenAccount, Post}
use Rattle.lifecycle.specs.declared.change.AccountChange.{AccountChange}

-- the account that a change is of; one of an object, or of the clock, is of none
abbrev pub account_of_change : Change → Option ℕ
account_of_change (OpenAccount r) = Some r
account_of_change (Post r what) = Some r
account_of_change _ = None

-- what a change does to its account, if it does anything
abbrev pub done_by : Change → Option AccountChange
done_by (Post r what) = Some what
done_by _ = None

-- the account of the first change that is one of an account
abbrev pub first_account : List Change → Option ℕ
first_account [] = None
first_account (c ∷ cs) = option_or (account_of_change c) (first_account cs)

-- it is of this account
abbrev pub is_of_account : ℕ → Change → Bool
is_of_account r c = option_eq nat_eq (account_of_change c) (Some r)

-- what changes do to this account
abbrev pub posts_of : ℕ → List Change → List AccountChange
posts_of r [] = []
posts_of r (c ∷ cs) = if is_of_account r c then option_to_list (done_by c) ++ posts_of r cs else posts_of r cs

-- the changes that are not of this account
abbrev pub others : ℕ → List Change → List Change
others r changes = filter (λ c. not (is_of_account r c)) changes
