-- What a look-up leaves of a registry, and a call that gave up.
use Rattle.std.proofs.Common.{ℕ, inl, inr, ap}
use Rattle.std.specs.Prelude.{Result, Ok, Err, IfErr, IfOk}
use Rattle.books.specs.Book.{BookState, Stored}
use Rattle.model.specs.Registry.{Registry}
use Rattle.policy.specs.Rules.{PolicyRules}
use Rattle.registry.specs.{Calls.LooksUpKeeping, Execution.{Fails, IsUnchanged}, Faces.LooksUp, declared.fault.Fault.Fault}
use Rattle.registry.specs.declared.fault.Fault.TheVariants as faults
use Rattle.server.specs.Http.{Passes}

pub unchanged : (fault : Fault) (old new : BookState) → Fails fault old new → IsUnchanged old new
unchanged faults.Memory old new fails = fails.0
unchanged faults.Store old new fails = fails.0
unchanged faults.Moment old new fails = fails.0

-- a look-up changes nothing but that time passes
pub passes_by : {X : Type 0} (lapses : ℕ → Registry → Registry) (p : PolicyRules) (moment : ℕ) (find : Registry → X) (makes : Stored → Stored → Type 0) (result : Result X Fault) (after : PolicyRules) (old new : BookState) → IfOk result (λ found. LooksUp p find lapses moment found old new)
    → LooksUpKeeping p moment makes result after old new → IfErr result (λ fault. Fails fault old new) → Passes p moment old new
passes_by lapses p moment find makes (Ok found) after old new step keeps fails = record {
  registry = λ clean. inr (step clean).left;
  terms = keeps.answered.terms;
  follows = keeps.follows;
}
passes_by lapses p moment find makes (Err fault) after old new step keeps fails =
    let kept : IsUnchanged old new = unchanged fault old new fails in
    record {
      registry = λ clean. inl (ap (λ (held : Stored). held.registry) (kept.content clean));
      terms = λ clean. ap (λ (held : Stored). held.terms) (kept.content clean);
      follows = keeps.follows;
    }
