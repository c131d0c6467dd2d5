-- Each input splits into frames in one way.
use Rattle.std.proofs.Common.{◌≡◌, ℕ, zero, suc, ◌+◌, ◌-◌, ◌<◌, ◌≤◌, Bool, true, false, cond, ltb, List, [], ◌∷◌, ◌++◌, length, take, drop, refl, sym, ap, ◌∙◌, arith, length-append, length-drop, length-take, append_assoc, take-append-drop}
use Rattle.std.proofs.lemmas.{Bool.ltb-false, List.{get_or-drop, get_or-take, get_or_past}, Nat.{be_bytes_4, from_be_bytes-to_be_bytes_4}}
use Rattle.std.specs.{Prelude.◌||◌, List.flat_map, Int.{w32, to_be_bytes}}
use Rattle.frames.specs.Frames.{frame, IsPayload, Ending, closed, cut, bad_length, Front, complete, over, total_of, front, Splits, AreBytes, AreFrames, AreFramesInOneWay}
use Rattle.frames.proofs.FrontLemmas.{front_whole}

pub front_of_frame : (p rest : List ℕ) → IsPayload p → front (frame p ++ rest) ≡ complete p rest
front_of_frame p rest fits =
    rw append_assoc (front_whole (to_be_bytes w32 (length p + 4)) p rest (length p + 4) refl (sym (from_be_bytes-to_be_bytes_4 (length p + 4) (omega arith))) (omega arith) (omega arith) refl)

abbrev tail_of : Front → List ℕ
tail_of (complete p rest) = rest
tail_of (over e) = []

-- ---- an input that begins with a whole frame

pub record StartsWith (p rest : List ℕ) (payloads : List (List ℕ)) (ending : Ending) : Type 0 where
  pub more : List (List ℕ)
  pub are : payloads ≡ p ∷ more
  pub splits : Splits rest more ending

pub begins : (input p rest : List ℕ) (payloads : List (List ℕ)) (ending : Ending) → front input ≡ complete p rest → Splits input payloads ending → StartsWith p rest payloads ending
begins input p rest [] ending e s =
    let none : front input ≡ over ending = ap front s.parts ∙ s.ends in
    absurd (cc)
begins input p rest (q ∷ qs) ending e s =
    let t : List ℕ = flat_map frame qs ++ s.rest in
    let split : input ≡ frame q ++ t = s.parts ∙ append_assoc (frame q) (flat_map frame qs) s.rest in
    let found : front input ≡ complete q t = ap front split ∙ front_of_frame q t s.each.0 in
    let same : complete q t ≡ complete p rest = sym found ∙ e in
    let head : q ≡ p = cc in
    let tail : t ≡ rest = ap tail_of same in
    record { more = qs; are = ap (λ (x : List ℕ). x ∷ qs) head; splits = record { rest = s.rest; parts = sym tail; each = s.each.1; ends = s.ends } }

-- ---- an input without a whole frame

pub none_left : (input : List ℕ) (d : Ending) (payloads : List (List ℕ)) (ending : Ending) → front input ≡ over d → Splits input payloads ending → (payloads ≡ []) × (ending ≡ d)
none_left input d [] ending e s =
    let found : front input ≡ over ending = ap front s.parts ∙ s.ends in
    let same : over ending ≡ over d = sym found ∙ e in
    (refl, cc)
none_left input d (q ∷ qs) ending e s =
    let t : List ℕ = flat_map frame qs ++ s.rest in
    let split : input ≡ frame q ++ t = s.parts ∙ append_assoc (frame q) (flat_map frame qs) s.rest in
    let found : front input ≡ complete q t = ap front split ∙ front_of_frame q t s.each.0 in
    absurd (cc)

abbrev IsComplete : ℕ → ℕ → Front → List ℕ → List ℕ → Type 0
IsComplete len total it p rest = (6 ≤ total) × (total ≤ 65540) × (total ≤ len) × (it ≡ complete p rest)

chain_is : (len total : ℕ) (it : Front) (p rest : List ℕ) (a b c d f : Bool) → ltb total 6 ≡ c → ltb 65540 total ≡ d → ltb len total ≡ f
    → cond a (over closed) (cond b (over cut) (cond (c || d) (over bad_length) (cond f (over cut) it))) ≡ complete p rest → IsComplete len total it p rest
chain_is len total it p rest true b c d f lo hi fits e = absurd cc
chain_is len total it p rest false true c d f lo hi fits e = absurd cc
chain_is len total it p rest false false true d f lo hi fits e = absurd cc
chain_is len total it p rest false false false true f lo hi fits e = absurd cc
chain_is len total it p rest false false false false true lo hi fits e = absurd cc
chain_is len total it p rest false false false false false lo hi fits e = (ltb-false _ _ lo, ltb-false _ _ hi, ltb-false _ _ fits, e)

bytes_taken : (n : ℕ) (input : List ℕ) → AreBytes input → AreBytes (take n input)
bytes_taken n input h i = grind (arith, get_or-take n input i 0, get_or_past (take n input) i 0, length-take n input, h i)

bytes_dropped : (n : ℕ) (input : List ℕ) → AreBytes input → AreBytes (drop n input)
bytes_dropped n input h i = rw get_or-drop (h (n + i))

payload_of : Front → List ℕ
payload_of (complete p rest) = p
payload_of (over e) = []

rest_of : Front → List ℕ
rest_of (complete p rest) = rest
rest_of (over e) = []

whole_is : (input p rest : List ℕ) → AreBytes input → front input ≡ complete p rest → (input ≡ frame p ++ rest) × IsPayload p × AreBytes rest
unfolding front payload_of rest_of
whole_is input p rest bytes e =
    let total = total_of input in
    let body = drop 4 input in
    let f = chain_is (length input) total (complete (take (total - 4) body) (drop (total - 4) body)) p rest _ _ _ _ _ refl refl refl e in
    let p-is : take (total - 4) body ≡ p = ap payload_of f.3 in
    let rest-is : drop (total - 4) body ≡ rest = ap rest_of f.3 in
    let len : length p + 4 ≡ total = omega (arith, ap length p-is, length-take (total - 4) body, length-drop 4 input) in
    let header : to_be_bytes w32 (length p + 4) ≡ take 4 input = be_bytes_4 (take 4 input) (length p + 4) (omega (arith, length-take 4 input)) (bytes_taken 4 input bytes) len in
    let back : p ++ rest ≡ body = rw (← p-is, ← rest-is) (take-append-drop (total - 4) body) in (
      sym (append_assoc (to_be_bytes w32 (length p + 4)) p rest ∙ ap (λ (h : List ℕ). h ++ (p ++ rest)) header ∙ ap (λ (t : List ℕ). take 4 input ++ t) back ∙ take-append-drop 4 input),
      (omega arith, omega arith),
      rw (← rest-is) (bytes_dropped (total - 4) body (bytes_dropped 4 input bytes)),
    )

abbrev HasSplit : List ℕ → Type 0
HasSplit input = (payloads : List (List ℕ)) × (ending : Ending) × Splits input payloads ending

add_frame : (input p rest : List ℕ) → input ≡ frame p ++ rest → IsPayload p → HasSplit rest → HasSplit input
add_frame input p rest e fits (ps, d, s) =
    (p ∷ ps, d, record { rest = s.rest; parts = e ∙ ap (λ (t : List ℕ). frame p ++ t) s.parts ∙ sym (append_assoc (frame p) (flat_map frame ps) s.rest); each = (fits, s.each); ends = s.ends })

module _ (input : List ℕ) (bytes : AreBytes input) (rest_splits : (rest : List ℕ) → length rest < length input → AreBytes rest → HasSplit rest) where
  split_by : (f : Front) → front input ≡ f → HasSplit input
  split_by (over d) e = ([], d, record { rest = input; parts = refl; each = tt; ends = e })
  split_by (complete p rest) e =
      let w = whole_is input p rest bytes e in
      let shorter : length rest < length input = omega (arith, ap length w.0, length-append (frame p) rest, length-append (to_be_bytes w32 (length p + 4)) p) in
      add_frame input p rest w.0 w.1 (rest_splits rest shorter w.2)

split_within : (n : ℕ) (input : List ℕ) → length input ≤ n → AreBytes input → HasSplit input
split_within zero input le bytes = split_by input bytes (λ rest lt b. absurd (omega arith)) (front input) refl
split_within (suc n) input le bytes = split_by input bytes (λ rest lt b. split_within n rest (omega arith) b) (front input) refl

pub inputs_split : AreFrames
inputs_split input bytes = split_within (length input) input (omega arith) bytes

splits_once : (ps qs : List (List ℕ)) (input : List ℕ) (d e : Ending) → Splits input ps d → Splits input qs e → (ps ≡ qs) × (d ≡ e)
splits_once [] qs input d e s t =
    let n = none_left input d qs e (ap front s.parts ∙ s.ends) t in
    (sym n.0, sym n.1)
splits_once (p ∷ ps) qs input d e s t =
    let tail : List ℕ = flat_map frame ps ++ s.rest in
    let found : front input ≡ complete p tail = ap front (s.parts ∙ append_assoc (frame p) (flat_map frame ps) s.rest) ∙ front_of_frame p tail s.each.0 in
    let b = begins input p tail qs e found t in
    let here : Splits tail ps d = record { rest = s.rest; parts = refl; each = s.each.1; ends = s.ends } in
    let more = splits_once ps b.more tail d e here b.splits in
    (ap (λ (x : List (List ℕ)). p ∷ x) more.0 ∙ sym b.are, more.1)

pub inputs_split_once : AreFramesInOneWay
inputs_split_once input ps qs d e s t = splits_once ps qs input d e s t
