-- What becomes of money over many calls.
use Rattle.std.specs.Prelude.{◌≡◌, ◌⊎◌, ℕ, ◌≤◌, if◌then◌else◌, List, [], ◌∷◌, pos, ◌+ℤ◌, ◌≤ℤ◌}
use Rattle.std.specs.List.{sum_by}
use Rattle.accounts.specs.declared.line.Line.{Line}
use Rattle.accounts.specs.declared.line.LineKind.TheVariants as kinds
use Rattle.accounts.specs.Lines.{balance, is_kind}
use Rattle.policy.specs.Rules.{PolicyRules}
use Rattle.model.specs.Lapse.{lapsed}
use Rattle.model.specs.Money.{IsRefundable, LinesFollow, MoneyFollows}
use Rattle.model.specs.Registry.{Registry, account_of}

-- Calls one after another, each by its moment and the registry that it left. None is later than the
-- last moment.
abbrev pub AreCalls : PolicyRules → ℕ → List (ℕ × Registry) → Registry → Registry → Type 0
AreCalls p last [] before after = after ≡ before
AreCalls p last (call ∷ calls) before after =
    (lapsed p call.0 before).clock ≤ last
    × MoneyFollows p call.0 before call.1 × AreCalls p last calls call.1 after

-- a line may be given back in one of them
abbrev pub IsRefundableIn : PolicyRules → ℕ → List (ℕ × Registry) → Registry → ℕ → Line → Type 0
IsRefundableIn p r [] before t l = ⊥
IsRefundableIn p r (call ∷ calls) before t l =
    IsRefundable p r (lapsed p call.0 before) call.1 t l ⊎ IsRefundableIn p r calls call.1 t l

-- ---- what all of them make of an account

abbrev pub renewal_cents : Line → ℕ
renewal_cents l = if is_kind l.kind kinds.AutoRenew then l.cents else 0

-- A bound on debts: what is owed afterwards, or owed more than before, these automatic renewals cost.
abbrev pub OwesRenewalsAtMost : List Line → List Line → List Line → Type 0
OwesRenewalsAtMost before after added =
    (pos 0 ≤ℤ (balance after +ℤ pos (sum_by renewal_cents added)))
    ⊎ (balance before ≤ℤ (balance after +ℤ pos (sum_by renewal_cents added)))

pub record LinesFollowOver (IsLawful : ℕ → Line → Type 0) (last : ℕ) (before after : List Line) : Type 0 where
  pub change : Line → Line
  pub added : List Line
  pub lines : LinesFollow IsLawful last before after change added
  pub owed : OwesRenewalsAtMost before after added

-- Over any calls no line of an account vanishes, each is given back once at most, lawfully in one of the calls,
-- and debts are bounded. That in each of them automatic renewals alone take a balance below zero is what
-- `AreCalls` says.
abbrev pub MoneyFollowsOver : Type 0
MoneyFollowsOver =
    (p : PolicyRules) (last : ℕ) (calls : List (ℕ × Registry)) (before after : Registry) → AreCalls p last calls before after → (r : ℕ)
    → LinesFollowOver (IsRefundableIn p r calls before) last (account_of r before).lines (account_of r after).lines
