-- Connections of two ports, one after the other.
use Rattle.std.proofs.Common.{◌≡◌, ◌∷◌, List, ℕ, subst}
use Rattle.policy.specs.Rules.{PolicyRules}
use Rattle.listening.specs.Ports.{ConnectionLeaves, LeavesOne, ServesPorts}
use Rattle.books.specs.Book.{BookState}

-- one more behind those that were served
pub one_more_turn : (p q : PolicyRules) (g : List (List ℕ)) (credentials : List ℕ) (old between new : BookState) → q ≡ p → ServesPorts p g credentials old between → LeavesOne q g credentials between new → ServesPorts p g credentials old new
one_more_turn p q g credentials old between new same before one =
    (one.0 ∷ before.0, (between, before.1, subst (λ (r : PolicyRules). ConnectionLeaves r g credentials one.0 between new) same one.1))
