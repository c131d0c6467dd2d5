-- Who is counted, of those who hold a domain.
use Rattle.std.proofs.Common.{◌≡◌, ◌+◌, ℕ, Bool, true, false, cond, not, ◌&&◌, ◌||◌, ◌==◌, Option, Some, None, refl, sym, ap, ◌∙◌, arith}
use Rattle.std.proofs.Math.Bool.{and-false, and-true}
use Rattle.sqlderived.proofs.Words.{counts_one, counts_where, Domain, eqb-true, Holders, incoming_without, is_held_by, is_incoming, is_pending_state}
use Rattle.sqlderived.proofs.Words.{is_some_holder, is_written, maybe_holders_of, option_map_or, sponsor_without, Transfer}
use Rattle.sqlderived.specs.inner.Holders.{incoming_of, is_settled}

-- ---- the parties of a domain hold it

incoming-is : (r : ℕ) (t : Option Transfer) → option_map_or (λ q. q == r) (incoming_of t) false ≡ is_incoming r t
incoming-is r None = refl
incoming-is r (Some t) = go (is_pending_state t.state)
  where
    go : (b : Bool) → option_map_or (λ q. q == r) (cond b (Some t.requester) None) false ≡ (b && (t.requester == r))
    go true = refl
    go false = refl

pub held-by : (r : ℕ) (d : Option Domain) → counts_where (is_held_by r) d ≡ counts_one (is_some_holder r (maybe_holders_of d))
held-by r None = refl
held-by r (Some d) = ap (λ b. counts_one ((d.sponsor == r) || b)) (sym (incoming-is r d.transfer))

-- ---- one place after the other

bits : (b c p q d e : Bool) → (b ≡ true → p ≡ d) → (c ≡ true → q ≡ d) → (c ≡ true → e ≡ b)
    → counts_one (b && not p) + counts_one (c && not (e || q)) ≡ counts_one ((b || c) && not d)
bits false false p q d e f g h = refl
bits false true p q d e f g h = rw (h refl, g refl) (omega arith)
bits true false p q d e f g h = rw (f refl) (omega arith)
bits true true p q d e f g h = rw (f refl, h refl) (omega arith)

seat : (r q : ℕ) (b : Bool) → is_written r (cond b None (Some q)) ≡ ((q == r) && not b)
seat r q true = sym (and-false (q == r))
seat r q false = sym (and-true (q == r))

-- who was among the first and isn't settled
pub leaving : (r : ℕ) (written : Option ℕ) (first others : Option Holders)
    → counts_one (is_written r (sponsor_without written first others)) + counts_one (is_written r (incoming_without written first others))
    ≡ counts_one (is_some_holder r first && not (is_settled written others r))
leaving r written None others = refl
leaving r written (Some p) others = go p.incoming
  where
    go : (q : Option ℕ) → counts_one (is_written r (sponsor_without written (Some p) others)) + counts_one (is_written r (incoming_without written (Some (record p { incoming = q })) others))
        ≡ counts_one (is_some_holder r (Some (record p { incoming = q })) && not (is_settled written others r))
    go None = (λ i. counts_one (seat r p.sponsor (is_settled written others p.sponsor) i) + 0)
        ∙ bits (p.sponsor == r) false (is_settled written others p.sponsor) false (is_settled written others r) false (λ e. ap (is_settled written others) (eqb-true p.sponsor r e)) (λ e. cc) (λ e. cc)
    go (Some q) = (λ i. counts_one (seat r p.sponsor (is_settled written others p.sponsor) i) + counts_one (seat r q ((p.sponsor == q) || is_settled written others q) i))
        ∙ bits (p.sponsor == r) (q == r) (is_settled written others p.sponsor) (is_settled written others q) (is_settled written others r) (p.sponsor == q)
        (λ e. ap (is_settled written others) (eqb-true p.sponsor r e)) (λ e. ap (is_settled written others) (eqb-true q r e)) (λ e. ap (λ x. p.sponsor == x) (eqb-true q r e))

-- ---- all that are counted

on : (b : Bool) → counts_one (b && true) ≡ counts_one b
on b = ap counts_one (and-true b)

off : (b : Bool) → counts_one (b && false) ≡ 0
off b = ap counts_one (and-false b)

-- whoever leaves, and those of the others, are those who come, and those of the first; the one whose row is written among them
pub balanced : (w a b c d p q : Bool) → counts_one a + counts_one b ≡ counts_one (p && not (q || w)) → counts_one c + counts_one d ≡ counts_one (q && not (p || w))
    → (counts_one (w && p) + (counts_one (a && p) + (counts_one (b && p) + (counts_one (c && p) + counts_one (d && p))))) + counts_one q
    ≡ (counts_one (w && q) + (counts_one (a && q) + (counts_one (b && q) + (counts_one (c && q) + counts_one (d && q))))) + counts_one p
balanced w a b c d true true e f = refl
balanced w a b c d false false e f = refl
balanced true a b c d true false e f = omega (arith, e, f, on a, on b, on c, on d, off a, off b, off c, off d)
balanced true a b c d false true e f = omega (arith, e, f, on a, on b, on c, on d, off a, off b, off c, off d)
balanced false a b c d true false e f = omega (arith, e, f, on a, on b, on c, on d, off a, off b, off c, off d)
balanced false a b c d false true e f = omega (arith, e, f, on a, on b, on c, on d, off a, off b, off c, off d)
