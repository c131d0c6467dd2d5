-- Which bytes begin with no head, whatever follows.
use Rattle.std.proofs.Common.{◌≡◌, ℕ, zero, suc, ◌<◌, ◌≤◌, List, [], ◌∷◌, ◌++◌, length, take, refl, ap, arith, sym, subst, ◌∙◌, append_assoc}
use Rattle.std.proofs.lemmas.List.{append-nil, take-append-le, take_all}
use Rattle.httparse.specs.{Grammar.{HasNoRequest, MayBecomeRequest, RequestHead, print_request}, Spans.RequestOverflows}
use Rattle.httparse.proofs.GrammarLemmas.{request_unique}
use Rattle.rdap.specs.Heads.{HasHead, IsCut, NeverHasHead, most_bytes, most_fields}

-- what follows goes on where the bytes of a limit end
pub take_goes_on : (n : ℕ) (bytes more : List ℕ) → (rest : List ℕ) × (take n bytes ++ rest ≡ take n (bytes ++ more))
take_goes_on zero bytes more = ([], refl)
take_goes_on (suc n) [] more = (take (suc n) more, refl)
take_goes_on (suc n) (b ∷ bytes) more =
    let r = take_goes_on n bytes more in
    (r.0, ap (λ (l : List ℕ). b ∷ l) r.1)

-- what no bytes make a head of few fields is never one
pub never_refused : (bytes front : List ℕ) → front ≡ take most_bytes bytes → RequestOverflows most_fields front → NeverHasHead bytes
never_refused bytes front same refused more h (rest, reads, few) =
    let on = take_goes_on most_bytes bytes more in
    let joins : front ++ on.0 ≡ print_request h ++ rest = ap (λ (l : List ℕ). l ++ on.0) same ∙ on.1 ∙ reads.1 in
    let many : most_fields < length h.fields = refused on.0 h rest (reads.0, joins) in
    absurd (omega (arith, many, few))

-- what is cut where the limit of bytes is reached is never a head
pub never_cut : (bytes front : List ℕ) → front ≡ take most_bytes bytes → most_bytes ≤ length bytes → HasNoRequest front → NeverHasHead bytes
never_cut bytes front same long none more h (rest, reads, few) =
    none h rest (reads.0, same ∙ sym (take-append-le most_bytes bytes more long) ∙ reads.1)

-- what is cut within the limit of bytes
pub is_cut : (bytes front : List ℕ) → front ≡ take most_bytes bytes → length bytes < most_bytes → HasNoRequest front → MayBecomeRequest front → IsCut bytes
is_cut bytes front same short none more =
    let fixed_route : front ≡ bytes = same ∙ take_all most_bytes bytes (omega (arith, short)) in
    record {
      short = short;
      no_head = subst (λ (b : List ℕ). HasNoRequest b) fixed_route none;
      unfinished = subst (λ (b : List ℕ). MayBecomeRequest b) fixed_route more;
    }

-- what is cut has no head
pub none_in_cut : (bytes : List ℕ) → IsCut bytes → (h : RequestHead) → ¬ (HasHead bytes h)
none_in_cut bytes cut h (rest, reads, few) =
    cut.no_head h rest (reads.0, sym (take_all most_bytes bytes (omega (arith, cut.short))) ∙ reads.1)

-- nor has what never will have one
pub none_in_bad : (bytes : List ℕ) → NeverHasHead bytes → (h : RequestHead) → ¬ (HasHead bytes h)
none_in_bad bytes never h has = never [] h (subst (λ (b : List ℕ). HasHead b h) (sym (append-nil bytes)) has)

-- bytes begin with at most one head
pub one_head : (bytes : List ℕ) (h k : RequestHead) → HasHead bytes h → HasHead bytes k → h ≡ k
one_head bytes h k (rest, reads, few) (more, others, few_others) = (request_unique (take most_bytes bytes) h k rest more reads others).0

-- whatever follows, a head stays one
pub stays : (bytes more : List ℕ) (h : RequestHead) → HasHead bytes h → HasHead (bytes ++ more) h
stays bytes more h (rest, reads, few) =
    let on = take_goes_on most_bytes bytes more in
    (rest ++ on.0, (reads.0, sym on.1 ∙ ap (λ (l : List ℕ). l ++ on.0) reads.1 ∙ append_assoc (print_request h) rest on.0), few)
