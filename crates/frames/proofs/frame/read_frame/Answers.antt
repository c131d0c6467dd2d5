use Rattle.std.proofs.Common.{◌≡◌, ◌<◌, ◌≤◌, ◌⊎◌, inl, inr, rules, ℕ, List, length, take, drop, ◌-◌, arith, take_all, length-take}
use Rattle.std.proofs.lemmas.List.{take_at}
use Rattle.frames.proofs.FrontLemmas.{Takes-from, closed-from, short-from, bad-from, cut-from}
use Rattle.frames.proofs.frame.read_frame.Goals as goal

split : {t : ℕ} → (t < 6) ⊎ ((6 ≤ t) × (65540 < t)) → (t < 6) ⊎ (65540 < t)
split (inl lt) = inl lt
split (inr gt) = inr gt.1

pub returns-in-Ok-eq0-clause-received : goal.returns-in-Ok-eq0-clause-received
returns-in-Ok-eq0-clause-received g c =
    let h = c.in-Ok-eq0.ensures in
    let four : length c.read_to_fill.new.buffer ≡ 4 = search rules in
    closed-from _ _ _ h.bytes (omega (arith, length-take c.in-Ok-eq0.field-0 c.read_to_fill.new.buffer)) (h.end (omega arith))

pub returns-in-Ok-clause-received : goal.returns-in-Ok-clause-received
returns-in-Ok-clause-received g c =
    let h = c.in-Ok.ensures in
    let four : length c.read_to_fill.new.buffer ≡ 4 = search rules in
    let len = length-take c.in-Ok.field-0 c.read_to_fill.new.buffer in
    short-from _ _ _ h.bytes (omega arith) (omega arith) (h.end (omega arith))

pub returns-then-total-lt-LEAST-clause-received : goal.returns-then-total-lt-LEAST-clause-received
returns-then-total-lt-LEAST-clause-received g c =
    let h = c.in-Ok-eq4.ensures in
    let four : length c.read_to_fill.new.buffer ≡ 4 = search rules in
    let complete : take c.in-Ok-eq4.field-0 c.read_to_fill.new.buffer ≡ c.read_to_fill.new.buffer = take_all c.in-Ok-eq4.field-0 c.read_to_fill.new.buffer (omega arith) in
    bad-from _ _ _ c.from_be_bytes-total.result (rw complete at h.bytes) four c.from_be_bytes-total.ensures (split c.then-total-lt-LEAST.either)

pub returns-in-Ok-read_to_fill-clause-received : goal.returns-in-Ok-read_to_fill-clause-received
returns-in-Ok-read_to_fill-clause-received g c =
    let h = c.in-Ok-eq4.ensures in
    let four : length c.read_to_fill.new.buffer ≡ 4 = search rules in
    let complete : take c.in-Ok-eq4.field-0 c.read_to_fill.new.buffer ≡ c.read_to_fill.new.buffer = take_all c.in-Ok-eq4.field-0 c.read_to_fill.new.buffer (omega arith) in
    let len = c.from_be_bytes-total.result - 4 in
    let body : List ℕ = c.read_to_fill-2.new.buffer in
    let full : length body ≡ len = search rules in
    let all : take c.in-Ok-read_to_fill.count body ≡ body = take_all c.in-Ok-read_to_fill.count body (omega arith) in
    rw (take_at body (drop len c.args.buffer.now) len full)
    (Takes-from _ _ _ _ body c.from_be_bytes-total.result (rw complete at h.bytes) (rw all at c.in-Ok-read_to_fill.ensures.bytes) four c.from_be_bytes-total.ensures (omega arith) (omega arith) (omega arith))

pub returns-in-Ok-2-clause-received : goal.returns-in-Ok-2-clause-received
returns-in-Ok-2-clause-received g c =
    let h = c.in-Ok-eq4.ensures in
    let four : length c.read_to_fill.new.buffer ≡ 4 = search rules in
    let complete : take c.in-Ok-eq4.field-0 c.read_to_fill.new.buffer ≡ c.read_to_fill.new.buffer = take_all c.in-Ok-eq4.field-0 c.read_to_fill.new.buffer (omega arith) in
    let len = c.from_be_bytes-total.result - 4 in
    let body : List ℕ = c.read_to_fill-2.new.buffer in
    let full : length body ≡ len = search rules in
    let b = c.in-Ok-read_to_fill.ensures.bound in
    let short = length-take c.in-Ok-read_to_fill.count body in
    cut-from _ _ _ _ _ c.from_be_bytes-total.result (rw complete at h.bytes) c.in-Ok-read_to_fill.ensures.bytes (c.in-Ok-read_to_fill.ensures.end (omega arith)) four c.from_be_bytes-total.ensures (omega arith) (omega arith) (omega arith)
