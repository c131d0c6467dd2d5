-- What holds of the changes of a command holds where it was refused, or where it wasn't.
use Rattle.std.proofs.Common.{◌≡◌, ℕ, Bool, cond, List, [], Option, Some, None, refl, sym, subst}
use Rattle.decisions.proofs.Words.{Asked, Change, changes_of, Facts, granted, is_accepted, judged, PolicyRules, refusal_of, refusing, Request, unless_refused}
use Rattle.protocol.specs.declared.code.Code.{Code}
use Rattle.rules.proofs.LawLemmas.{granting}

module _ (p : PolicyRules) (r t : ℕ) (q : Request) (f : Facts) (P : List Change → Type 0) (refused : P []) (taken : refusal_of p r t q f ≡ None → P (changes_of p r t q f)) where
  abbrev changes : List Change
  changes = changes_of p r t q f

  by : (refusal : Option Code) → refusal_of p r t q f ≡ refusal → P (cond (is_accepted (unless_refused refusal (granted p r t q f)).code) changes [])
  by None e = subst (λ (b : Bool). P (cond b changes [])) (sym (granting q f)) (taken e)
  by (Some code) e = subst (λ (b : Bool). P (cond b changes [])) (sym (refusing p r t q f code e)) refused

  pub where-accepted : (cl_trid : Option (List ℕ)) → P (cond (is_accepted (judged p r t (Asked cl_trid q) f).code) changes [])
  unfolding judged
  where-accepted cl_trid = by (refusal_of p r t q f) refl
