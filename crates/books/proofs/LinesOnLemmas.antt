-- Graces and refunds hang on the lines of the domain alone.
use Rattle.std.proofs.Common.{◌≡◌, ℕ, List, Option, ap, ◌∙◌, true}
use Rattle.std.specs.List.{filter}
use Rattle.accounts.specs.{declared.line.Line.Line, Lines.is_on}
use Rattle.accounts.specs.declared.line.LineKind.TheVariants as kinds
use Rattle.lifecycle.specs.{declared.refund.GivenBack.GivenBack, Graces.{graces, standing}, Phases.phase, Refunds.{given_back, refund_at}}
use Rattle.model.specs.{Registry.account_of, Standing.standing_of}
use Rattle.objects.specs.declared.{domain.Domain.Domain, grace.Standing.Standing, roid.Roid.Roid}
use Rattle.policy.specs.Rules.{PolicyRules}
use Rattle.books.specs.{Book.Stored, Records.RecordsState}
use Rattle.states.specs.States.{Reads}
use Rattle.states.proofs.CallLemmas.{reads-on}
use Rattle.lifecycle.proofs.{GraceLaws.gives-part, RefundLaws.given_back-part}

-- ---- of the lines on a domain

graces-on : (p : PolicyRules) (t : ℕ) (roid : Roid) (since : Option ℕ) (lines : List Line) → graces p t roid since (filter (is_on roid) lines) ≡ graces p t roid since lines
unfolding graces
graces-on p t roid since lines = λ i. record {
  add = gives-part p t roid since kinds.Create lines i;
  auto_renew = gives-part p t roid since kinds.AutoRenew lines i;
  renew = gives-part p t roid since kinds.Renew lines i;
  transfer = gives-part p t roid since kinds.Transfer lines i;
}

standing-on : (p : PolicyRules) (t : ℕ) (lines : List Line) (d : Domain) → standing p t (filter (is_on d.roid) lines) d ≡ standing p t lines d
standing-on p t lines d = λ i. record { graces = graces-on p t d.roid d.transferred lines i; phase = phase p t d }

-- ---- as they are found in records

module _ (d : Domain) (registrar clock : ℕ) (lines : List Line) (s m t : RecordsState) (at : Reads s m × (m.is_clean ≡ true → clock ≡ s.content.registry.clock))
    (on : Reads m t × (t.is_clean ≡ true → lines ≡ filter (is_on d.roid) (account_of registrar m.content.registry).lines)) where
  found : t.is_clean ≡ true → lines ≡ filter (is_on d.roid) (account_of registrar s.content.registry).lines
  found e = on.1 e ∙ ap (λ (x : Stored). filter (is_on d.roid) (account_of registrar x.registry).lines) (at.0.content (on.0.clean e))

  pub standing-found : (p : PolicyRules) (result : Standing) → registrar ≡ d.sponsor → result ≡ standing p clock lines d → Reads s t × (t.is_clean ≡ true → result ≡ standing_of p s.content.registry d)
  standing-found p result sponsor is = (
    reads-on s m t at.0 on.0,
    λ e. is ∙ (λ i. standing p (at.1 (on.0.clean e) i) (found e i) d) ∙ standing-on p s.content.registry.clock (account_of registrar s.content.registry).lines d
        ∙ ap (λ r. standing p s.content.registry.clock (account_of r s.content.registry).lines d) sponsor,
  )

  pub back-found : (p : PolicyRules) (result : GivenBack) → result ≡ given_back p (refund_at clock d) lines
      → Reads s t × (t.is_clean ≡ true → result ≡ given_back p (refund_at s.content.registry.clock d) (account_of registrar s.content.registry).lines)
  back-found p result is = (
    reads-on s m t at.0 on.0,
    λ e. is ∙ (λ i. given_back p (refund_at (at.1 (on.0.clean e) i) d) (found e i)) ∙ given_back-part p (refund_at s.content.registry.clock d) (account_of registrar s.content.registry).lines,
  )
