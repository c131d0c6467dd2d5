-- What is opened where a crash left it is what might have been left.
use Rattle.std.proofs.Common.{◌≡◌, true, List, refl, sym, ap, ◌∙◌, true≢false}
use Rattle.sqltables.proofs.Words.{Content, Covers, is_numbered, IsAdopted, IsKnownAs, IsLeftAs, IsTakenAs, no_schema, registry, Remains, StateOf}
use Rattle.sqltables.proofs.{Words.Trees, AdoptedLemmas.{schema_once, some-tables}}
use Rattle.states.specs.declared.readiness.Ready.{Ready, TheVariants.{Empty, Used, Other}}
use Rattle.sqltables.specs.inner.Reopening.{IsContentFoundAgain, AreRowsReopened}

again : (was now : Ready) (db : Trees) (left x : Content) → IsLeftAs was db left → IsTakenAs now db x → IsKnownAs now db → IsContentFoundAgain was left now x
again Empty Empty db left x it taken known = (refl, taken ∙ sym it.1)
again Empty Used db left x it taken known = absurd (some-tables (schema_once db registry no_schema known.0 it.0))
again Empty Other db left x it taken known = absurd (known.0 it.0)
again Used Empty db left x it taken known = absurd (some-tables (schema_once db registry no_schema it.0 known))
again Used Used db left x it taken known = λ numbered. (refl, taken.0 ∙ sym it.1)
again Used Other db left x it taken known = λ numbered. absurd (true≢false (sym numbered ∙ ap (λ (y : Content). is_numbered y.metas) it.1 ∙ known.1 it.0))
again Other now db left x it taken known = tt

pub reopened : (leaves : List (Remains Content)) (may_leave : Trees → Type 0) (db : Trees) (s : StateOf Content) → Covers leaves may_leave → may_leave db → IsAdopted db s → s.is_clean ≡ true → AreRowsReopened leaves s
reopened leaves may_leave db s covers may adopted clean =
    let it = covers db may in
    (it.0, it.1, again it.0.readiness s.readiness db it.0.content s.content it.2 (adopted.content clean) (adopted.known clean))
