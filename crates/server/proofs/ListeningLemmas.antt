-- Connections one after the other.
use Rattle.std.proofs.Common.{◌≡◌, ℕ, List, None, ◌∷◌, subst}
use Rattle.policy.specs.Rules.{PolicyRules}
use Rattle.server.specs.{Connections.Serves, Listening.{ServesInTurn, ServesUnknown}}
use Rattle.books.specs.Book.{BookState}

-- one more behind those that were served
pub one_more : (p q : PolicyRules) (g : List (List ℕ)) (old between new : BookState) → q ≡ p → ServesInTurn p g old between → ServesUnknown q g between new → ServesInTurn p g old new
one_more p q g old between new same before one =
    (one.0 ∷ before.0, (between, before.1, subst (λ (r : PolicyRules). Serves r g None None between None None None new one.0) same one.1))
