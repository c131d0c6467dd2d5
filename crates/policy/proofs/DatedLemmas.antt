-- Tables of days one after the other.
use Rattle.std.proofs.Common.{◌≡◌, ℕ, ◌<◌, true, false, nat_lt, List, [], ◌∷◌, ◌++◌, Option, Some, None, Result, Ok, Err, refl, sym, ap, subst, ◌∙◌, append_assoc, arith}
use Rattle.std.proofs.lemmas.{Bool.{and_parts, Decides.nat_tests}, List.append-nil}
use Rattle.std.specs.{Prelude.unwrap_or, List.AllByRecursion, Result.IfOk}
use Rattle.toml.specs.Data.{Data}
use Rattle.policy.specs.declared.{fault.PolicyFault.PolicyFault, schedule.DatedDays.DatedDays, days.Days.Days}
use Rattle.policy.specs.declared.days.LengthTable.TheVariants.{Dated}
use Rattle.policy.specs.{Reading.{◌>>=◌, Fails, Gives, begin_after, dated_in, days_in, each_dated, from_of}, Rules.BeginAfter}
use Rattle.policy.specs.declared.fault.PolicyFault.TheVariants as told
use Rattle.policy.proofs.TextLemmas.{with_front}

-- ---- when they begin

pub begin-here : (before m : ℕ) (d : Data) (ds : List Data) → from_of d ≡ Some m → nat_lt before m ≡ true → begin_after before (d ∷ ds) ≡ begin_after m ds
unfolding begin_after
begin-here before m d ds e later = rw (e, later) refl

pub begin-none : (before : ℕ) (d : Data) (ds : List Data) → from_of d ≡ None → begin_after before (d ∷ ds) ≡ false
unfolding begin_after
begin-none before d ds e = rw e refl

pub begin-early : (before m : ℕ) (d : Data) (ds : List Data) → from_of d ≡ Some m → nat_lt before m ≡ false → begin_after before (d ∷ ds) ≡ false
unfolding begin_after
begin-early before m d ds e early = rw (e, early) refl

pub begin-nil : (before : ℕ) → begin_after before [] ≡ true
unfolding begin_after
begin-nil before = refl

-- ---- the tables one by one

regroup : (front : List DatedDays) (x : DatedDays) (read : Result (List DatedDays) PolicyFault) → with_front front (read >>= λ rest. Ok (x ∷ rest)) ≡ with_front (front ++ x ∷ []) read
regroup front x (Ok rest) = ap (λ xs. Ok xs) (simp append_assoc)
regroup front x (Err f) = refl

pub each-cons : (d : Data) (ds : List Data) (t : DatedDays) (front : List DatedDays) (all : Result (List DatedDays) PolicyFault) → dated_in d ≡ Ok t → with_front front (each_dated (d ∷ ds)) ≡ all → with_front (front ++ t ∷ []) (each_dated ds) ≡ all
unfolding each_dated
each-cons d ds t front all e so_far =
    let one : with_front front (each_dated (d ∷ ds)) ≡ with_front (front ++ t ∷ []) (each_dated ds) = rw e (regroup front t (each_dated ds)) in
    sym one ∙ so_far

pub each-nil : (front : List DatedDays) (all : Result (List DatedDays) PolicyFault) → with_front front (each_dated []) ≡ all → all ≡ Ok front
unfolding each_dated
each-nil front all so_far = sym so_far ∙ ap (λ xs. Ok xs) (append-nil front)

pub each-fails : (e : PolicyFault) (d : Data) (ds : List Data) (front : List DatedDays) (all : Result (List DatedDays) PolicyFault) → Fails e (dated_in d) → with_front front (each_dated (d ∷ ds)) ≡ all → Fails e all
unfolding each_dated
each-fails told.Memory d ds front all h so_far = tt
each-fails told.NotToml d ds front all h so_far = sym so_far ∙ rw h refl
each-fails (told.Missing k) d ds front all h so_far = sym so_far ∙ rw h refl
each-fails (told.Range k) d ds front all h so_far = sym so_far ∙ rw h refl
each-fails (told.Twice id) d ds front all h so_far = sym so_far ∙ rw h refl

pub all-more : (P : DatedDays → Type 0) (xs : List DatedDays) (x : DatedDays) → AllByRecursion P xs → P x → AllByRecursion P (xs ++ x ∷ [])
all-more P [] x all h = (h, tt)
all-more P (y ∷ ys) x all h = (all.0, all-more P ys x all.1 h)

-- ---- what was found to begin in turn is read so

made : (x : DatedDays) (xs items : List DatedDays) → (let all : Result (List DatedDays) PolicyFault = Ok (x ∷ xs) in all) ≡ Ok items → x ∷ xs ≡ items
made x xs items e = cc

pub each-rise : (before : ℕ) (ds : List Data) (items : List DatedDays) → begin_after before ds ≡ true → each_dated ds ≡ Ok items → BeginAfter before items
unfolding begin_after each_dated dated_in
each-rise before [] [] h e = tt
each-rise before [] (x ∷ xs) h e = cc
each-rise before (d ∷ ds) items h e = by (from_of d) (days_in Dated d) (each_dated ds) refl refl refl (each-rise (unwrap_or (from_of d) before) ds)
  where
    by : (o : Option ℕ) (r : Result Days PolicyFault) (rest : Result (List DatedDays) PolicyFault) → from_of d ≡ o → days_in Dated d ≡ r → each_dated ds ≡ rest
        → ((more : List DatedDays) → begin_after (unwrap_or (from_of d) before) ds ≡ true → each_dated ds ≡ Ok more → BeginAfter (unwrap_or (from_of d) before) more) → BeginAfter before items
    by None r rest p q s again = absurd (let never = rw p at e in cc)
    by (Some m) (Err f) rest p q s again = absurd (let never = rw (p, q) at e in cc)
    by (Some m) (Ok days) (Err f) p q s again = absurd (let never = rw (p, q, s) at e in cc)
    by (Some m) (Ok days) (Ok more) p q s again =
        let parts = and_parts (nat_lt before m) (begin_after m ds) (rw p at h) in
        let lt : before < m = grind (arith, nat_tests, parts.0) in
        let rest : BeginAfter m more = (rw p at again) more parts.1 s in
        subst (BeginAfter before) (made (record { from = m; days = days }) more items (rw (p, q, s) at e)) (lt, rest)

pub rise-result : {V : Type 0} (items : V → List DatedDays) (ds : List Data) → begin_after 946_684_800 ds ≡ true → (r : Result V PolicyFault) → Gives items r (each_dated ds) → IfOk r (λ v. BeginAfter 946_684_800 (items v))
rise-result items ds h (Ok v) e = each-rise 946_684_800 ds (items v) h e
rise-result items ds h (Err f) e = tt
