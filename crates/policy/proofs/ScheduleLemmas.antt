-- What the comparison of schedules means, and what it keeps.
use Rattle.std.proofs.Common.{◌≡◌, ℕ, ◌<◌, ◌≤◌, Bool, true, false, cond, ◌&&◌, nat_le, nat_lt, List, [], ◌∷◌, ◌++◌, drop, length, refl, sym, ap, ◌∙◌, append-nil, arith, length-append}
use Rattle.std.proofs.{Math.Seq.drop-append_seam, lemmas.Bool.{and_parts, Decides.{Decides-and, Decides-eqb, Decides-like, nat_tests}}}
use Rattle.std.proofs.lemmas.{Slice.Eq.starts_is, Bool.and_from}
use Rattle.std.specs.{Prelude.fold, Bool.Decides, List.{AllByRecursion, list_all, starts_with}}
use Rattle.policy.specs.declared.days.{Days.Days, Period.Period}
use Rattle.policy.specs.declared.days.Period.TheVariants.{Add, AutoRenew, Renew, Transfer, Redemption, Restore, PendingDelete, Answer, Lock}
use Rattle.policy.specs.declared.schedule.{DatedDays.DatedDays, Schedule.Schedule}
use Rattle.policy.specs.Rules.{AreDays, IsDayCount, IsSchedule, in_force, length_of, then_by}
use Rattle.policy.specs.Terms.{DaysContinue, begins_after, days_continue, same_days, same_table}

-- ---- the test

days-same : (a b c d e f g h i a' b' c' d' e' f' g' h' i' : ℕ) → a ≡ a' → b ≡ b' → c ≡ c' → d ≡ d' → e ≡ e' → f ≡ f' → g ≡ g' → h ≡ h' → i ≡ i'
    → let x : Days = record { add = a; auto_renew = b; renew = c; transfer = d; redemption = e; restore = f; pending_delete = g; answer = h; lock = i } in let y : Days = record { add = a'; auto_renew = b'; renew = c'; transfer = d'; redemption = e'; restore = f'; pending_delete = g'; answer = h'; lock = i' } in x ≡ y
days-same a b c d e f g h i a' b' c' d' e' f' g' h' i' e1 e2 e3 e4 e5 e6 e7 e8 e9 = rw (e1, e2, e3, e4, e5, e6, e7, e8, e9) refl

days-Decides : (x y : Days) → Decides (same_days x y) (x ≡ y)
days-Decides x y = Decides-like (same_days x y)
    (λ h. days-same _ _ _ _ _ _ _ _ _ _ _ _ _ _ _ _ _ _ h.0.0.0.0.0.0.0.0 h.0.0.0.0.0.0.0.1 h.0.0.0.0.0.0.1 h.0.0.0.0.0.1 h.0.0.0.0.1 h.0.0.0.1 h.0.0.1 h.0.1 h.1)
    (λ e. ((((((((ap (λ (d : Days). d.add) e, ap (λ (d : Days). d.auto_renew) e), ap (λ (d : Days). d.renew) e), ap (λ (d : Days). d.transfer) e), ap (λ (d : Days). d.redemption) e), ap (λ (d : Days). d.restore) e), ap (λ (d : Days). d.pending_delete) e), ap (λ (d : Days). d.answer) e), ap (λ (d : Days). d.lock) e))
    (Decides-and _ _ (Decides-and _ _ (Decides-and _ _ (Decides-and _ _ (Decides-and _ _ (Decides-and _ _ (Decides-and _ _ (Decides-and _ _ (Decides-eqb x.add y.add) (Decides-eqb x.auto_renew y.auto_renew)) (Decides-eqb x.renew y.renew)) (Decides-eqb x.transfer y.transfer)) (Decides-eqb x.redemption y.redemption)) (Decides-eqb x.restore y.restore)) (Decides-eqb x.pending_delete y.pending_delete)) (Decides-eqb x.answer y.answer)) (Decides-eqb x.lock y.lock))

table-same : (m m' : ℕ) (x x' : Days) → m ≡ m' → x ≡ x' → let a : DatedDays = record { from = m; days = x } in let b : DatedDays = record { from = m'; days = x' } in a ≡ b
table-same m m' x x' e f = rw (e, f) refl

table-Decides : (a b : DatedDays) → Decides (same_table a b) (a ≡ b)
table-Decides a b = Decides-like (same_table a b)
    (λ h. table-same a.from b.from a.days b.days h.0 h.1)
    (λ e. (ap (λ (t : DatedDays). t.from) e, ap (λ (t : DatedDays). t.days) e))
    (Decides-and _ _ (Decides-eqb a.from b.from) (days-Decides a.days b.days))

all-after : (clock : ℕ) (tables : List DatedDays) → list_all (begins_after clock) tables ≡ true → AllByRecursion (λ (t : DatedDays). clock < t.from) tables
all-after clock [] h = tt
all-after clock (t ∷ ts) h =
    let parts = and_parts (nat_lt clock t.from) (list_all (begins_after clock) ts) h in
    (grind (arith, nat_tests, parts.0), all-after clock ts parts.1)

after-all : (clock : ℕ) (tables : List DatedDays) → AllByRecursion (λ (t : DatedDays). clock < t.from) tables → list_all (begins_after clock) tables ≡ true
after-all clock [] h = refl
after-all clock (t ∷ ts) h = and_from (nat_lt clock t.from) (list_all (begins_after clock) ts) (let lt = h.0 in grind (arith, nat_tests)) (after-all clock ts h.1)

pub days-continue-Decides : (clock : ℕ) (later earlier : Schedule) → Decides (days_continue clock later earlier) (DaysContinue clock later earlier)
unfolding days_continue
days-continue-Decides clock later earlier =
    let starts = starts_is table-Decides later.later earlier.later (starts_with same_table later.later earlier.later) refl in
    let firsts = days-Decides later.first earlier.first in (
      λ t.
          let all = and_parts (same_days later.first earlier.first && starts_with same_table later.later earlier.later) _ t in
          let two = and_parts (same_days later.first earlier.first) (starts_with same_table later.later earlier.later) all.0 in
          record {
            first = firsts.0 two.0;
            added = drop (length earlier.later) later.later;
            tables = starts.0 two.1;
            after = all-after clock (drop (length earlier.later) later.later) all.1;
          },
      λ k. and_from _ _ (and_from _ _ (firsts.1 k.first) (starts.1 k.added k.tables))
          (ap (list_all (begins_after clock)) (ap (drop (length earlier.later)) k.tables ∙ drop-append_seam earlier.later k.added) ∙ after-all clock k.added k.after),
    )

-- ---- what began by the clock keeps its length

fold-append : (m : ℕ) (days : Days) (xs ys : List DatedDays) → fold (then_by m) days (xs ++ ys) ≡ fold (then_by m) (fold (then_by m) days xs) ys
fold-append m days [] ys = refl
fold-append m days (x ∷ xs) ys = fold-append m (then_by m days x) xs ys

-- tables that begin later make no difference
not-yet : (m clock : ℕ) (days : Days) (tables : List DatedDays) → m ≤ clock → AllByRecursion (λ (t : DatedDays). clock < t.from) tables → fold (then_by m) days tables ≡ days
not-yet m clock days [] le after = refl
not-yet m clock days (t ∷ ts) le after =
    let lt = after.0 in
    let no : nat_le t.from m ≡ false = grind (arith, nat_tests) in
    ap (λ (b : Bool). fold (then_by m) (cond b t.days days) ts) no ∙ not-yet m clock days ts le after.1

pub in-force-same : (clock m : ℕ) (later earlier : Schedule) → DaysContinue clock later earlier → m ≤ clock → in_force m later ≡ in_force m earlier
in-force-same clock m later earlier continues le =
    ap (λ (days : Days). fold (then_by m) days later.later) continues.first
    ∙ ap (fold (then_by m) earlier.first) continues.tables
    ∙ fold-append m earlier.first earlier.later continues.added
    ∙ not-yet m clock (fold (then_by m) earlier.first earlier.later) continues.added le continues.after

-- ---- all lengths are within the range

fold-days : (m : ℕ) (days : Days) (tables : List DatedDays) → AreDays days → AllByRecursion (λ (t : DatedDays). AreDays t.days) tables → AreDays (fold (then_by m) days tables)
fold-days m days [] first all = first
fold-days m days (t ∷ ts) first all = fold-days m (then_by m days t) ts (by (nat_le t.from m)) all.1
  where
    by : (b : Bool) → AreDays (cond b t.days days)
    by true = all.0
    by false = first

pub days-in-force : (m : ℕ) (s : Schedule) → IsSchedule s → AreDays (in_force m s)
days-in-force m s is = fold-days m s.first s.later is.first is.later

each-count : (period : Period) (days : Days) → AreDays days → IsDayCount (length_of period days)
each-count Add days are = are.add
each-count AutoRenew days are = are.auto_renew
each-count Renew days are = are.renew
each-count Transfer days are = are.transfer
each-count Redemption days are = are.redemption
each-count Restore days are = are.restore
each-count PendingDelete days are = are.pending_delete
each-count Answer days are = are.answer
each-count Lock days are = are.lock

-- a period that begins at a moment lasts a day at least, and ten years at most
pub day-count : (period : Period) (m : ℕ) (s : Schedule) → IsSchedule s → IsDayCount (length_of period (in_force m s))
day-count period m s is = each-count period (in_force m s) (days-in-force m s is)

-- ---- the same tables, and no others

no-more : (xs added : List DatedDays) → length (xs ++ added) ≡ length xs → added ≡ []
no-more xs [] e = refl
no-more xs (t ∷ ts) e = absurd (omega (arith, length-append xs (t ∷ ts), e))

schedule-same : (a b : Days) (xs ys : List DatedDays) → a ≡ b → xs ≡ ys → let s : Schedule = record { first = a; later = xs } in let t : Schedule = record { first = b; later = ys } in s ≡ t
schedule-same a b xs ys e f = rw (e, f) refl

pub same-schedule : (clock : ℕ) (later earlier : Schedule) → length later.later ≡ length earlier.later → DaysContinue clock later earlier → later ≡ earlier
same-schedule clock later earlier many continues =
    let none = no-more earlier.later continues.added (ap length (sym continues.tables) ∙ many) in
    schedule-same later.first earlier.first later.later earlier.later continues.first (continues.tables ∙ ap (λ ts. earlier.later ++ ts) none ∙ append-nil earlier.later)

pub continues-itself : (clock : ℕ) (s : Schedule) → DaysContinue clock s s
continues-itself clock s = record { first = refl; added = []; tables = sym (append-nil s.later); after = tt }
