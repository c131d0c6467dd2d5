-- What is found in records, one question after another.
use Rattle.std.proofs.Common.{◌≡◌, true, ap, ◌∙◌}
use Rattle.model.specs.Registry.{Registry}
use Rattle.books.specs.{Book.Stored, Records.RecordsState}
use Rattle.states.specs.States.{Reads}
use Rattle.states.proofs.CallLemmas.{reads-on}

-- what else is found
pub also-found : {P A : Type 0} (f : Registry → A) (x : A) (s m t : RecordsState) → Reads s m × (m.is_clean ≡ true → P) → Reads m t × (t.is_clean ≡ true → x ≡ f m.content.registry)
    → Reads s t × (t.is_clean ≡ true → P × (x ≡ f s.content.registry))
also-found f x s m t known found = (
  reads-on s m t known.0 found.0,
  λ e. (known.1 (found.0.clean e), found.1 e ∙ ap (λ (c : Stored). f c.registry) (known.0.content (found.0.clean e))),
)
