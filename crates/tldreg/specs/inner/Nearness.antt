-- Moments that are far from a registry's clock.
use Rattle.std.specs.Prelude.{◌≡◌, ℕ, ◌+◌, ◌-◌, ◌*◌, ◌&&◌, Bool, not, nat_eq, nat_lt, cond, Result, Ok, Err, IfOk, IfErr, ⊤}
use Rattle.books.specs.Book.{BookState}
use Rattle.frames.specs.Clocks.{first_moment}
use Rattle.policy.specs.Rules.{PolicyRules}
use Rattle.registry.specs.Execution.{Fails, Greets}
use Rattle.registry.specs.declared.fault.Fault.{Fault}
use Rattle.registry.specs.declared.fault.Fault.TheVariants.{Moment}
use Rattle.script.specs.declared.exit.Exit.{Exit}
use Rattle.script.specs.declared.exit.Exit.TheVariants.{Registry}

-- A clock that shows the first moment is that of a new registry, and no moment is far from it. What is taken from a
-- number that is smaller is nothing.
abbrev pub is_far : ℕ → ℕ → ℕ → Bool
is_far clock moment days =
    not (nat_eq clock first_moment) && nat_lt (days * 86_400) ((clock - moment) + (moment - clock))

-- how the program ends, or that it goes on, by the clock that the registry shows
abbrev pub near_end : Result ℕ Fault → (moment days : ℕ) → Result ⊤ Exit
near_end (Ok clock) moment days = cond (is_far clock moment days) (Err (Registry Moment)) (Ok tt)
near_end (Err fault) moment days = Err (Registry fault)

-- the registry is asked for its clock at the first moment of all
abbrev pub IsNear : PolicyRules → (moment days : ℕ) → (old new : BookState) → Result ⊤ Exit → Type 0
IsNear p moment days old new result =
    (shown : Result ℕ Fault) × (result ≡ near_end shown moment days)
    × IfOk shown (λ clock. Greets p first_moment clock old new) × IfErr shown (λ fault. Fails fault old new)
