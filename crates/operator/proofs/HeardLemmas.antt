-- What is read of a request, and what it begins with.
use Rattle.std.proofs.Common.{◌≡◌, ℕ, ◌≤◌, Option, Some, None, List, ◌++◌, drop, length, sym, ap, arith, ◌∙◌, subst, append_assoc}
use Rattle.std.specs.{Fmt.option_append, Io.KnownBytes.Consumes}
use Rattle.httparse.specs.Grammar.{print_request}
use Rattle.operator.specs.{declared.request.Asked.Asked, Heard.{IsBodyOf, IsHeard, most_head}, Requests.HasHeadAsking}
use Rattle.policy.specs.Rules.{PolicyRules}

-- what was read begins with a head, and so the input does, with what follows
split : (front part rest body printed bytes : List ℕ) (len : ℕ) (joined left : Option (List ℕ)) → bytes ≡ front ++ rest → front ≡ printed ++ drop len front
    → part ≡ drop len front → joined ≡ Some (part ++ rest) → Consumes joined left body → (more : List ℕ) × (bytes ≡ printed ++ (body ++ more))
split front part rest body printed bytes len joined None taken begins behind chained read = absurd (subst (λ (o : Option (List ℕ)). Consumes o None body) chained read)
split front part rest body printed bytes len joined (Some more) taken begins behind chained read =
    let all : part ++ rest ≡ body ++ more = subst (λ (o : Option (List ℕ)). Consumes o (Some more) body) chained read in
    let head : front ++ rest ≡ printed ++ (drop len front ++ rest) = ap (λ (l : List ℕ). l ++ rest) begins ∙ append_assoc printed (drop len front) rest in
    (more, taken ∙ head ∙ ap (λ (l : List ℕ). printed ++ (l ++ rest)) (sym behind) ∙ ap (λ (l : List ℕ). printed ++ l) all)

-- a head that the input begins with, and the body behind it
pub heard_in : (p : PolicyRules) (credentials front part : List ℕ) (asked : Asked) (len : ℕ) (input rest joined left : Option (List ℕ)) (body : List ℕ) → Consumes input rest front → length front ≤ most_head → HasHeadAsking p credentials front asked len
    → part ≡ drop len front → joined ≡ option_append (Some part) rest → Consumes joined left body → IsBodyOf asked body → IsHeard p credentials input asked body
heard_in p credentials front part asked len None rest joined left body taken short has behind chained read is = record {
  head = has.0;
  limits = (omega (arith, has.2, has.3), has.4);
  by = has.5;
  begins = tt;
  body_is = is;
}
heard_in p credentials front part asked len (Some bytes) None joined left body taken short has behind chained read is = absurd taken
heard_in p credentials front part asked len (Some bytes) (Some rest) joined left body taken short has behind chained read is =
    let all = split front part rest body (print_request has.0) bytes len joined left taken has.1.1 behind chained read in
    record {
      head = has.0;
      limits = (omega (arith, has.2, has.3), has.4);
      by = has.5;
      begins = (all.0, (has.1.0, all.1));
      body_is = is;
    }
