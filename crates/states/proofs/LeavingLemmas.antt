-- What a crash may leave after one call and another.
use Rattle.std.proofs.Common.{◌≡◌, ◌⊎◌, inl, inr, List, [], ◌∷◌, ◌++◌, refl, ◌∙◌}
use Rattle.states.specs.States.{Has, LeavesSame, StateOf}

pub leaves-refl : {X : Type 0} (s : StateOf X) → LeavesSame s s
leaves-refl s = record { honest = λ e. e; same = refl; ready = refl }

pub leaves-on : {X : Type 0} (s m t : StateOf X) → LeavesSame s m → LeavesSame m t → LeavesSame s t
leaves-on s m t a b = record { honest = λ e. a.honest (b.honest e); same = b.same ∙ a.same; ready = b.ready ∙ a.ready }

-- ---- one of a list with one more

pub has-front : {X : Type 0} (xs : List X) (y x : X) → Has xs x → Has (xs ++ y ∷ []) x
has-front [] y x h = absurd h
has-front (z ∷ xs) y x (inl is) = inl is
has-front (z ∷ xs) y x (inr h) = inr (has-front xs y x h)

pub has-last : {X : Type 0} (xs : List X) (y : X) → Has (xs ++ y ∷ []) y
has-last [] y = inl refl
has-last (z ∷ xs) y = inr (has-last xs y)

pub has-either : {X : Type 0} (xs : List X) (y x : X) → Has (xs ++ y ∷ []) x → Has xs x ⊎ (x ≡ y)
has-either [] y x (inl is) = inr is
has-either [] y x (inr none) = absurd none
has-either (z ∷ xs) y x (inl is) = inl (inl is)
has-either (z ∷ xs) y x (inr h) = elim (has-either xs y x h) [ inl there ↦ inl (inr there) | inr is ↦ inr is ]

pub has-alone : {X : Type 0} (y x : X) → Has (y ∷ []) x → x ≡ y
has-alone y x (inl is) = is
has-alone y x (inr none) = absurd none
