-- What the parser of heads answers: heads within the limits, or none.
use Rattle.std.proofs.Common.{◌≡◌, ℕ, ◌≤◌, Option, List, [], ◌∷◌, ◌++◌, length, drop, refl, ap, arith, sym, subst, ◌∙◌, map, take, length-take}
use Rattle.std.proofs.lemmas.List.{length-map}
use Rattle.httparse.specs.{Grammar.{Field, print_request}, Spans.{AreFieldsAt, IsRequestOf, header_bytes, name_and_value, span_bytes}}
use Rattle.httparse.specs.declared.spans.{HeaderSpan.HeaderSpan, RequestSpans.RequestSpans}
use Rattle.operator.specs.{Heard.{StaysHeadless, most_head}, Requests.{HasHeadAsking, IsLength, asked_by, bears, most_head_fields}}
use Rattle.operator.specs.declared.request.Asked.{Asked}
use Rattle.policy.specs.Rules.{PolicyRules}

-- so many fields as there are places for
pub few : (bytes : List ℕ) (headers : List HeaderSpan) (count : ℕ) (fields : List Field) → AreFieldsAt bytes headers count fields → length headers ≤ most_head_fields → length fields ≤ most_head_fields
few bytes headers count fields same room =
    let places : length fields ≡ length (take count headers) = sym (length-map fields name_and_value) ∙ sym (ap length same) ∙ length-map (take count headers) (header_bytes bytes) in
    omega (arith, places, length-take count headers)

-- a head that was found, and what it asks for
pub found : (p : PolicyRules) (credentials bytes : List ℕ) (headers : List HeaderSpan) (r : RequestSpans) (asked : Asked) (number : Option ℕ) → IsRequestOf bytes headers r → r.len ≤ length bytes → length headers ≤ most_head_fields
    → IsLength (map (header_bytes bytes) (take r.headers headers)) number → asked ≡ asked_by p (bears credentials (map (header_bytes bytes) (take r.headers headers))) (span_bytes bytes r.method) (span_bytes bytes r.path) number → HasHeadAsking p credentials bytes asked r.len
found p credentials bytes headers r asked number (h, at) within room digits is = (
  h,
  at.reads,
  at.len,
  within,
  few bytes headers r.headers h.fields at.fields room,
  record {
    length = number;
    in_digits = subst (λ (fields : List (List ℕ × List ℕ)). IsLength fields number) at.fields digits;
    is = cc (is, at.fields, at.method, at.path);
  },
)

-- what two lists join to begins with the shorter one
begins : (front rest other more : List ℕ) → front ++ rest ≡ other ++ more → length front ≤ length other → other ≡ front ++ drop (length front) other
begins [] rest other more same short = refl
begins (x ∷ front) rest [] more same short = absurd (omega arith)
begins (x ∷ front) rest (y ∷ other) more same short =
    let first : y ≡ x = cc in
    let behind : front ++ rest ≡ other ++ more = cc in
    ap (λ (l : List ℕ). y ∷ l) (begins front rest other more behind (omega arith)) ∙ ap (λ (z : ℕ). z ∷ (front ++ drop (length front) other)) first

-- not behind as many bytes as a head may have
pub decided_full : (bytes : List ℕ) → most_head ≤ length bytes → StaysHeadless bytes
decided_full bytes full none more h rest reads limits =
    none h _ (reads.0, begins (print_request h) rest bytes more (sym reads.1) (omega (arith, limits.0))) limits
