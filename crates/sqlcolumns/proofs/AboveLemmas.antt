-- A host below a domain with a dot has the same name of two labels above it.
use Rattle.std.proofs.Common.{◌≡◌, ℕ, ◌+◌, ◌-◌, ◌<◌, ◌≤◌, ◌==◌, nat_eq, nat_lt, eqb, Bool, true, cond, ◌&&◌, List, [], ◌∷◌, ◌++◌, drop, take, length, get_or, slice_index, refl, sym, ap, ◌∙◌, Bor, map, arith}
use Rattle.std.proofs.{Math.Seq.drop-append-add, lemmas.Bool.{and_parts, ltb-true, Decides.Decides-eqb}}
use Rattle.std.proofs.lemmas.List.{drop-map, drop_more, length-append, length-map, take-append-drop, take_rest}
use Rattle.std.proofs.lemmas.{List.Splits.length-slice_split, Slice.Eq.bytes_eq-Decides}
use Rattle.std.specs.List.{count_by, ends_with, join_with_byte, onto_first}
use Rattle.objects.specs.Hosts.{is_below}
use Rattle.sqlcolumns.specs.Above.{above, last_two, parts_between_dots}

abbrev dot : ℕ → Bool
dot b = eqb b 46

-- what it is below
front_of : (domain host : List ℕ) → is_below domain host ≡ true → (front : List ℕ) × (host ≡ front ++ 46 ∷ domain)
front_of domain host below =
    let n : ℕ = length host - length domain - 1 in
    let parts = and_parts (nat_lt (length domain) (length host) && ends_with nat_eq host domain) (slice_index host n == 46) below in
    let sides = and_parts (nat_lt (length domain) (length host)) (ends_with nat_eq host domain) parts.0 in
    let longer : length domain < length host = ltb-true (length domain) (length host) sides.0 in
    let end : domain ≡ drop (length host - length domain) host = (bytes_eq-Decides domain (drop (length host - length domain) host)).0 sides.1 in
    let byte : get_or host n 0 ≡ 46 = (Decides-eqb (slice_index host n) 46).0 parts.1 in
    let within : n < length host = omega arith in
    let next : n + 1 ≡ length host - length domain = omega arith in (
      take n host,
      sym (take-append-drop n host)
          ∙ ap (λ (t : List ℕ). take n host ++ t) (drop_more host n 0 within ∙ (λ i. byte i ∷ drop (next i) host) ∙ ap (λ (t : List ℕ). 46 ∷ t) (sym end)),
    )

-- ---- labels

split_by : (b : ℕ) (t : Bool) (xs ys : List (List ℕ)) (n : ℕ) → length xs ≡ n + 1 → cond t ([] ∷ (xs ++ ys)) (onto_first b (xs ++ ys)) ≡ cond t ([] ∷ xs) (onto_first b xs) ++ ys
split_by b t [] ys n some = absurd (omega arith)
split_by b t (x ∷ xs) ys n some = grind arith

-- the labels on both sides of a dot
labels_append : (front rest : List ℕ) → parts_between_dots (front ++ 46 ∷ rest) ≡ parts_between_dots front ++ parts_between_dots rest
labels_append [] rest = refl
labels_append (b ∷ bs) rest =
    ap (λ (t : List (List ℕ)). cond (dot b) ([] ∷ t) (onto_first b t)) (labels_append bs rest)
    ∙ split_by b (dot b) (parts_between_dots bs) (parts_between_dots rest) (count_by dot bs) (length-slice_split dot bs)

last_of_more : (xs ys : List (List ℕ)) → 2 ≤ length ys → last_two (xs ++ ys) ≡ last_two ys
last_of_more xs ys two =
    ap (λ (n : ℕ). drop n (xs ++ ys)) (let at : length (xs ++ ys) - 2 ≡ length xs + (length ys - 2) = omega (arith, length-append xs ys) in at)
    ∙ drop-append-add xs ys (length ys - 2)

-- a host below a domain with a dot has the same name of two labels above it
pub same_above : (domain host : List ℕ) → 1 ≤ count_by (λ b. b == 46) domain → is_below domain host ≡ true → above host ≡ above domain
unfolding above
same_above domain host dotted below =
    let front = front_of domain host below in
    ap above front.1
    ∙ ap (λ (t : List (List ℕ)). join_with_byte 46 (last_two t)) (labels_append front.0 domain)
    ∙ ap (join_with_byte 46) (last_of_more (parts_between_dots front.0) (parts_between_dots domain) (omega (arith, length-slice_split dot domain)))

-- ---- computed

pub last_two_is : (labels : List (Bor (List ℕ))) (n : ℕ) → n ≡ length labels - 2 → map (λ l. l.now) (take (length labels - n) (drop n labels)) ≡ last_two (map (λ l. l.now) labels)
last_two_is labels n is =
    let texts : List (List ℕ) = map (λ (l : Bor (List ℕ)). l.now) labels in
    ap (map (λ (l : Bor (List ℕ)). l.now)) (take_rest labels n) ∙ sym (drop-map (λ (l : Bor (List ℕ)). l.now) n labels)
    ∙ ap (λ (k : ℕ). drop k texts) (is ∙ ap (λ (k : ℕ). k - 2) (sym (length-map labels (λ (l : Bor (List ℕ)). l.now))))
