-- A word that is looked for, from the front on.
use Rattle.std.proofs.Common.{◌≡◌, ◌∙◌, ℕ, ◌+◌, ◌<◌, ◌≤◌, true, false, cond, Option, None, List, length, take, drop, bytes_eq, refl, sym, ap, subst}
use Rattle.std.proofs.lemmas.List.{drop_more, drop_all}
use Rattle.wires.specs.inner.Replies.{number_of, number_behind}

step : (word : List ℕ) (digits : ℕ) (bytes : List ℕ) (at : ℕ) → at < length bytes
    → number_behind word digits (drop at bytes) ≡ cond (bytes_eq (take (length word) (drop at bytes)) word) (number_of (drop (length word) (drop at bytes)) digits) (number_behind word digits (drop (at + 1) bytes))
unfolding number_behind
step word digits bytes at within =
    let P : List ℕ → Type 0 = λ rest. number_behind word digits rest ≡ cond (bytes_eq (take (length word) rest) word) (number_of (drop (length word) rest) digits) (number_behind word digits (drop (at + 1) bytes)) in
    subst P (sym (drop_more bytes at 0 within)) refl

-- it isn't at this place
pub not_here : (word : List ℕ) (digits : ℕ) (bytes : List ℕ) (at : ℕ) → at < length bytes
    → number_behind word digits (drop at bytes) ≡ number_behind word digits bytes → bytes_eq (take (length word) (drop at bytes)) word ≡ false
    → number_behind word digits (drop (at + 1) bytes) ≡ number_behind word digits bytes
not_here word digits bytes at within so_far differs =
    sym (step word digits bytes at within ∙ ap (λ is. cond is (number_of (drop (length word) (drop at bytes)) digits) (number_behind word digits (drop (at + 1) bytes))) differs) ∙ so_far

-- it is at this place
pub here : (word : List ℕ) (digits : ℕ) (bytes : List ℕ) (at : ℕ) → at < length bytes
    → number_behind word digits (drop at bytes) ≡ number_behind word digits bytes → bytes_eq (take (length word) (drop at bytes)) word ≡ true
    → number_of (drop (length word) (drop at bytes)) digits ≡ number_behind word digits bytes
here word digits bytes at within so_far same =
    sym (step word digits bytes at within ∙ ap (λ is. cond is (number_of (drop (length word) (drop at bytes)) digits) (number_behind word digits (drop (at + 1) bytes))) same) ∙ so_far

-- it is at no place
pub nowhere : (word : List ℕ) (digits : ℕ) (bytes : List ℕ) (at : ℕ) → length bytes ≤ at
    → number_behind word digits (drop at bytes) ≡ number_behind word digits bytes → ◌≡◌ {A = Option ℕ} None (number_behind word digits bytes)
unfolding number_behind
nowhere word digits bytes at past so_far = ap (λ rest. number_behind word digits rest) (sym (drop_all at bytes past)) ∙ so_far
