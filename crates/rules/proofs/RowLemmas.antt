-- The rows of a table that hold, and those that stand before the first.
use Rattle.std.proofs.Common.{◌≡◌, ℕ, Bool, true, false, true≢false, cond, ◌⊎◌, inl, inr, List, [], ◌∷◌, Option, Some, None, is_none, is_some, option_map, find, refl, sym, ap, ◌∙◌, ◌<◌, subst, arith, ◌≤◌, le_trans, le_of_eq}
use Rattle.std.proofs.lemmas.{Bool.{and_parts, leb-true}, Option.same_Some}
use Rattle.policy.specs.Rules.{PolicyRules}
use Rattle.facts.specs.declared.facts.Facts.{Facts}
use Rattle.protocol.specs.{Codes.is_accepted, declared.{code.Code.Code, command.Request.TheVariants.{TransferContact, TransferDomain}}}
use Rattle.protocol.specs.declared.command.Request.{Request}
use Rattle.rules.specs.{Causes.cause_of, Conditions.holds, Refusals.{AnswersByLaws, code_of, first_refusal, in_order, in_order_from, place_of}}
use Rattle.rules.specs.{Rules.{refusal_of, table_of}, declared.{refusal.Cause.{TheVariants.NamesRefused, Cause}, rules.Condition.Condition}}

-- the condition stands in the table
abbrev pub StandsIn : {C : Type 0} → List C → C → Type 0
StandsIn [] condition = ⊥
StandsIn (first ∷ rest) condition = (first ≡ condition) ⊎ StandsIn rest condition

-- no condition of the cause holds that stands in the table
abbrev pub IsClear : {C : Type 0} → (C → Cause) → (C → Bool) → List C → Cause → Type 0
IsClear {C} cause test table it = (condition : C) → StandsIn table condition → cause condition ≡ it → test condition ≡ false

abbrev pub Clear : PolicyRules → ℕ → ℕ → Request → Facts → Cause → Type 0
Clear p r t q f cause = IsClear cause_of (holds p r t q f) (table_of q) cause

-- ---- what is there

pub some-is : {A : Type 0} (o : Option A) → is_none o ≡ false → is_some o ≡ true
some-is o e = grind arith

pub not-none : {A : Type 0} (o : Option A) → is_some o ≡ true → is_none o ≡ false
not-none o e = grind arith

-- ---- where no row holds

unfound : {C : Type 0} (test : C → Bool) (table : List C) → find test table ≡ None → (condition : C) → StandsIn table condition → test condition ≡ false
unfound test [] none condition stands = absurd stands
unfound {C} test (first ∷ rest) none condition stands = by (test first) refl none stands (λ none further. unfound test rest none condition further)
  where
    by : (b : Bool) → test first ≡ b → cond b (Some first) (find test rest) ≡ None → (first ≡ condition) ⊎ StandsIn rest condition
        → (find test rest ≡ None → StandsIn rest condition → test condition ≡ false) → test condition ≡ false
    by true is none stands more = absurd cc
    by false is none (inl same) more = ap test (sym same) ∙ is
    by false is none (inr further) more = more none further

unmapped : {A B : Type 0} (f : A → B) (o : Option A) → option_map f o ≡ None → o ≡ None
unmapped f None e = refl
unmapped f (Some x) e = absurd cc

-- of a command that isn't refused no condition holds that stands in its table
pub unrefused : (p : PolicyRules) (r t : ℕ) (q : Request) (f : Facts) → refusal_of p r t q f ≡ None → (condition : Condition) → StandsIn (table_of q) condition → holds p r t q f condition ≡ false
unfolding first_refusal
unrefused p r t q f none condition stands = unfound (holds p r t q f) (table_of q) (unmapped (λ (condition : Condition). code_of (cause_of condition)) _ none) condition stands

-- ---- the first row that holds, and the rows of earlier causes

found : {C : Type 0} (test : C → Bool) (table : List C) (condition : C) → find test table ≡ Some condition → StandsIn table condition × (test condition ≡ true)
found test [] condition e = absurd cc
found {C} test (first ∷ rest) condition e = by (test first) refl e (found test rest condition)
  where
    by : (b : Bool) → test first ≡ b → cond b (Some first) (find test rest) ≡ Some condition → (find test rest ≡ Some condition → StandsIn rest condition × (test condition ≡ true))
        → ((first ≡ condition) ⊎ StandsIn rest condition) × (test condition ≡ true)
    by true is e more = let same : first ≡ condition = same_Some first condition e in (inl same, ap test (sym same) ∙ is)
    by false is e more = (inr (more e).0, (more e).1)

-- no row stands before the place from which its table is in order
placed : {C : Type 0} (cause : C → Cause) (place : ℕ) (table : List C) → in_order_from cause place table ≡ true → (condition : C) → StandsIn table condition → place ≤ place_of (cause condition)
placed cause place [] e condition stands = absurd stands
placed {C} cause place (first ∷ rest) e condition (inl same) = subst (λ (x : C). place ≤ place_of (cause x)) same (leb-true place (place_of (cause first)) (and_parts _ _ e).0)
placed cause place (first ∷ rest) e condition (inr further) = le_trans (leb-true place (place_of (cause first)) (and_parts _ _ e).0) (placed cause (place_of (cause first)) rest (and_parts _ _ e).1 condition further)

earlier : {C : Type 0} (cause : C → Cause) (test : C → Bool) (place : ℕ) (table : List C) (condition : C) → in_order_from cause place table ≡ true → find test table ≡ Some condition
    → (row : C) → StandsIn table row → place_of (cause row) < place_of (cause condition) → test row ≡ false
earlier cause test place [] condition ordered e row stands less = absurd stands
earlier {C} cause test place (first ∷ rest) condition ordered e row stands less =
    by (test first) refl e stands (λ e further. earlier cause test (place_of (cause first)) rest condition (and_parts _ _ ordered).1 e row further less)
  where
    behind : (first ≡ row) ⊎ StandsIn rest row → place_of (cause first) ≤ place_of (cause row)
    behind (inl same) = le_of_eq (ap (λ (x : C). place_of (cause x)) same)
    behind (inr further) = placed cause (place_of (cause first)) rest (and_parts _ _ ordered).1 row further

    by : (b : Bool) → test first ≡ b → cond b (Some first) (find test rest) ≡ Some condition → (first ≡ row) ⊎ StandsIn rest row
        → (find test rest ≡ Some condition → StandsIn rest row → test row ≡ false) → test row ≡ false
    by true is e stands more =
        let same : place_of (cause first) ≡ place_of (cause condition) = ap (λ (x : C). place_of (cause x)) (same_Some first condition e) in
        let after : place_of (cause first) ≤ place_of (cause row) = behind stands in absurd (omega arith)
    by false is e (inl same) more = ap test (sym same) ∙ is
    by false is e (inr further) more = more e further

pub ordered : (q : Request) → in_order cause_of (table_of q) ≡ true
ordered (TransferContact name op secret) = grind arith
ordered (TransferDomain name op secret) = grind arith
ordered _ = refl

-- no cause answers that a command was carried out
never-accepted : (cause : Cause) → is_accepted (code_of cause) ≡ false
never-accepted NamesRefused = refl
never-accepted _ = refl

pub refusing : (p : PolicyRules) (r t : ℕ) (q : Request) (f : Facts) (code : Code) → refusal_of p r t q f ≡ Some code → is_accepted code ≡ false
unfolding first_refusal
refusing p r t q f code e = by (find (holds p r t q f) (table_of q)) e
  where
    by : (o : Option Condition) → option_map (λ (condition : Condition). code_of (cause_of condition)) o ≡ Some code → is_accepted code ≡ false
    by None e = absurd cc
    by (Some condition) e = ap is_accepted (sym (same_Some (code_of (cause_of condition)) code e)) ∙ never-accepted (cause_of condition)

-- ---- what is answered by a table

module _ {C : Type 0} (cause : C → Cause) (test : C → Bool) (table : List C) (Keeps : Cause → Type 0) (keeps : (it : Cause) → IsClear cause test table it → Keeps it)
    (breaks : (condition : C) → StandsIn table condition → Keeps (cause condition) → test condition ≡ false) where
  pub granted-by-laws : find test table ≡ None → (code : Code) → is_accepted code ≡ true → AnswersByLaws Keeps code
  granted-by-laws none code granted = record {
    carried_out = λ accepted it. keeps it (λ condition stands is. unfound test table none condition stands);
    accepted = λ lawful. granted;
    refused = λ refused. absurd (true≢false (sym granted ∙ refused));
  }

  pub refused-by-laws : in_order cause table ≡ true → (condition : C) → find test table ≡ Some condition → AnswersByLaws Keeps (code_of (cause condition))
  refused-by-laws ordered condition first =
      let row : StandsIn table condition × (test condition ≡ true) = found test table condition first in record {
        carried_out = λ accepted. absurd (true≢false (sym accepted ∙ never-accepted (cause condition)));
        accepted = λ lawful. absurd (true≢false (sym row.1 ∙ breaks condition row.0 (lawful (cause condition))));
        refused = λ refused. record {
          cause = cause condition;
          answer_is = refl;
          broken = λ kept. true≢false (sym row.1 ∙ breaks condition row.0 kept);
          first = λ other less. keeps other (λ before stands is. earlier cause test 0 table condition ordered first before stands (subst (λ (x : Cause). place_of x < place_of (cause condition)) (sym is) less));
        };
      }
