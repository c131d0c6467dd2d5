-- What was read by steps was read by each.
use Rattle.std.proofs.Common.{◌≡◌, Bool, true, false, cond, List, [], ◌∷◌, find, Option, Some, None, IfSome, refl, ap, arith}
use Rattle.std.specs.Prelude.{option_map}
use Rattle.sqlcolumns.specs.Steps.{◌>>=◌}

pub record Step {A B : Type 0} (o : Option A) (f : A → Option B) (b : B) : Type 0 where
  pub given : A
  pub is : o ≡ Some given
  pub rest : f given ≡ Some b

pub step : {A B : Type 0} (o : Option A) (f : A → Option B) (b : B) → (o >>= f) ≡ Some b → Step o f b
step None f b e = cc
step (Some a) f b e = record { given = a; is = refl; rest = e }

pub same_some : {A : Type 0} (a b : A) → Some a ≡ Some b → a ≡ b
same_some a b e = cc

-- and what holds of this, however it is read, holds of all
pub all_read : {X : Type 0} (P : X → Type 0) (read : Option X) → ((x : X) → read ≡ Some x → P x) → IfSome read P
all_read P None each = tt
all_read P (Some x) each = each x refl

-- what holds of each some that is read holds of what a column that may be NULL reads as
pub some_read : {X : Type 0} (read : Option X) (m : Option X) (P : Option X → Type 0) → ((x : X) → read ≡ Some x → P (Some x)) → option_map Some read ≡ Some m → P m
some_read None m P each e = cc
some_read (Some x) None P each e = cc
some_read (Some x) (Some y) P each e = let same : x ≡ y = cc in each y (ap Some same)

-- what a test lets through
pub kept : {X : Type 0} (x y : X) (b : Bool) → cond b (Some x) None ≡ Some y → (b ≡ true) × (x ≡ y)
kept x y true e = (refl, same_some x y e)
kept x y false e = cc

pub passed : {X : Type 0} (x : X) (b : Bool) → b ≡ true → cond b (Some x) None ≡ Some x
passed x b e = ap (λ t. cond t (Some x) None) e

-- what is found passes the test
pub found_passes : {K : Type 0} (test : K → Bool) (all : List K) (k : K) → find test all ≡ Some k → test k ≡ true
found_passes test [] k e = cc
found_passes test (x ∷ xs) k e = grind (arith, found_passes test xs k, e)
