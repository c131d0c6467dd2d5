-- What a deletion gives back: each line of the domain's sponsor whose grace runs (RFC 3915, 3.1).
use Rattle.std.specs.Prelude.{◌≡◌, ℕ, Bool, if◌then◌else◌, List, pos, ◌+ℤ◌}
use Rattle.std.specs.List.{sum_by}
use Rattle.accounts.specs.declared.line.Line.{Line}
use Rattle.accounts.specs.Lines.{balance, in_order}
use Rattle.basis.specs.Bag.{remade}
use Rattle.objects.specs.declared.domain.Domain.{Domain}
use Rattle.policy.specs.Rules.{PolicyRules}
use Rattle.lifecycle.specs.declared.change.RunningRefund.{RunningRefund}
use Rattle.lifecycle.specs.declared.refund.GivenBack.{GivenBack}
use Rattle.lifecycle.specs.Changes.{refunded_by}
use Rattle.lifecycle.specs.Graces.{runs}

-- of a domain that is deleted at t
abbrev pub refund_at : ℕ → Domain → RunningRefund
refund_at t d = record { roid = d.roid; transferred = d.transferred; moment = t }

abbrev pub is_given_back : PolicyRules → RunningRefund → Line → Bool
is_given_back p r l = runs p r.moment r.roid r.transferred l

-- of a line, all of it where its grace runs
abbrev pub cents_back : PolicyRules → RunningRefund → Line → ℕ
cents_back p r l = if is_given_back p r l then l.cents else 0

abbrev pub years_back : PolicyRules → RunningRefund → Line → ℕ
years_back p r l = if is_given_back p r l then l.years else 0

abbrev pub given_back : PolicyRules → RunningRefund → List Line → GivenBack
given_back p r lines = record { cents = sum_by (cents_back p r) lines; years = sum_by (years_back p r) lines }

abbrev pub nothing : GivenBack
nothing = record { cents = 0; years = 0 }

-- What is given back is what the balance of the lines rises by once it is, and then nothing more of
-- them is given back.
pub record IsGivenBack (p : PolicyRules) (r : RunningRefund) (lines : List Line) (given : GivenBack) : Type 0 where
  pub value : given ≡ given_back p r lines
  pub rises : balance (remade in_order (refunded_by p r) lines) ≡ balance lines +ℤ pos given.cents
  pub once : given_back p r (remade in_order (refunded_by p r) lines) ≡ nothing
