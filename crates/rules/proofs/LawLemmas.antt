-- The laws that a verdict keeps.
use Rattle.std.proofs.Common.{arith, ◌≡◌, ℕ, true, true≢false, Option, Some, None, option_map, find, refl, sym, ap, ◌∙◌, option_and_then, Result, Ok, Err, IfOk, subst}
use Rattle.policy.specs.Rules.{PolicyRules}
use Rattle.facts.specs.{Facts.domain_seen, declared.facts.Facts.Facts}
use Rattle.lifecycle.specs.Turns.{turns}
use Rattle.lifecycle.proofs.TurnLaws.{AreTurns, turns-are}
use Rattle.names.specs.RequestedName.{name_of}
use Rattle.objects.specs.declared.domain.{Domain.Domain, DomainFace.DomainFace, FullDomain.FullDomain}
use Rattle.objects.specs.declared.sight.Seen.{TheVariants.Full, Seen}
use Rattle.protocol.specs.{Codes.is_accepted, Requests.asks_of, declared.code.Code.Code}
use Rattle.protocol.specs.declared.command.Request.{TheVariants.{DeleteDomain, TransferContact, TransferDomain, PollRequest}, Request}
use Rattle.protocol.specs.declared.command.Action.TheVariants as actions
use Rattle.rules.specs.{Causes.cause_of, Charges.{years_charged, years_needed}, Conditions.{holds, domain_in_full, full_domain}}
use Rattle.rules.specs.{Laws.{KeepsLaw, KeepsLaws, SecretIsRight}, Refusals.{code_of, first_refusal}, Rules.{refusal_of, table_of}}
use Rattle.rules.specs.{Verdicts.{granted, unless_refused, code_granted}, declared.refusal.Cause.TheVariants.WrongSecret}
use Rattle.rules.specs.declared.{rules.Condition.Condition, verdict.Verdict.Verdict}
use Rattle.rules.proofs.{ActionLemmas.of-action, BreachLemmas.{breaks, not-wrong}, CauseLemmas.keeps}
use Rattle.rules.proofs.RowLemmas.{granted-by-laws, ordered, refused-by-laws}

-- ---- what is granted is accepted

pub granting : (q : Request) (f : Facts) → is_accepted (code_granted q f) ≡ true
granting (DeleteDomain name) f = grind arith
granting (TransferContact name op secret) f = grind arith
granting (TransferDomain name op secret) f = grind arith
granting PollRequest f = grind arith
granting _ f = refl

-- ---- the years for which a report charges

-- the years that a domain needs are its turns
needed-law : (t : ℕ) (seen : Option (Seen FullDomain DomainFace)) (d : Domain) → option_and_then domain_in_full seen ≡ Some d → AreTurns d t (years_needed t seen)
needed-law t (Some (Full known)) d e = let same : known.domain ≡ d = cc in subst (λ (x : Domain). AreTurns x t (turns known.domain t)) same (turns-are known.domain t)
needed-law t _ d e = absurd cc

turns-law : (t : ℕ) (f : Facts) (q : Request) → (asks_of q).action ≡ actions.ReportRestore → (d : Domain) → full_domain q f ≡ Some d → AreTurns d t (years_charged t q f)
turns-law t f =
    of-action (λ (q : Request). (d : Domain) → full_domain q f ≡ Some d → AreTurns d t (years_charged t q f)) actions.ReportRestore
    (λ name del_time res_time. needed-law t (domain_seen f (name_of name)))

-- ---- the laws of a verdict

module _ (p : PolicyRules) (r t : ℕ) (f : Facts) where
  by-first : (q : Request) (o : Option Condition) → find (holds p r t q f) (table_of q) ≡ o
      → KeepsLaws p r t q f (unless_refused (option_map (λ (condition : Condition). code_of (cause_of condition)) o) (granted p r t q f))
  by-first q None none =
      let lawful = granted-by-laws cause_of (holds p r t q f) (table_of q) (KeepsLaw p r t q f) (keeps p r t f q) (breaks p r t f q) none (code_granted q f) (granting q f) in
      let right : SecretIsRight r q f = lawful.carried_out (granting q f) WrongSecret in record {
        lawful = lawful;
        outlasts = λ is d e. (turns-law t f q is d e).after;
        no_more = λ is d e years lt. (turns-law t f q is d e).before years lt;
        secret = λ info wrong. absurd (true≢false (sym wrong ∙ right.shows info));
        requesters_secret = λ requests wrong. absurd (true≢false (sym (right.authorized requests) ∙ wrong));
        strangers_secret = λ queries wrong. absurd (true≢false (sym wrong ∙ not-wrong _ _ _ (right.queries queries)));
      }
  by-first q (Some condition) first = record {
    lawful = refused-by-laws cause_of (holds p r t q f) (table_of q) (KeepsLaw p r t q f) (keeps p r t f q) (breaks p r t f q) (ordered q) condition first;
    outlasts = λ is d e. (turns-law t f q is d e).after;
    no_more = λ is d e years lt. (turns-law t f q is d e).before years lt;
    secret = λ info wrong. refl;
    requesters_secret = λ requests wrong. refl;
    strangers_secret = λ queries wrong. refl;
  }

-- what a well formed command is answered
pub answers-lawfully : {E : Type 0} (p : PolicyRules) (r t : ℕ) (q : Request) (f : Facts) (result : Result Verdict E)
    → IfOk result (λ v. v ≡ unless_refused (refusal_of p r t q f) (granted p r t q f)) → IfOk result (KeepsLaws p r t q f)
unfolding first_refusal
answers-lawfully p r t q f (Ok v) is = subst (KeepsLaws p r t q f) (sym is) (by-first p r t f q (find (holds p r t q f) (table_of q)) refl)
answers-lawfully p r t q f (Err e) is = tt

-- what is granted to a request that isn't refused is its verdict
pub granted-is-answered : {E : Type 0} (refusal : Option Code) (granted : Verdict) (result : Result Verdict E)
    → refusal ≡ None → IfOk result (λ v. v ≡ granted) → IfOk result (λ v. v ≡ unless_refused refusal granted)
granted-is-answered refusal granted (Ok v) free given = given ∙ sym (ap (λ (o : Option Code). unless_refused o granted) free)
granted-is-answered refusal granted (Err e) free given = tt
