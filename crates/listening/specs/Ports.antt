-- Connections of two ports, one after the other: sessions and look-ups by the one, the operator's requests by the
-- other. Of what a socket gives and takes nothing is known; so this says what becomes of the registry.
use Rattle.std.specs.Prelude.{◌≡◌, ℕ, List, [], ◌∷◌, None}
use Rattle.operator.specs.Operations.{Operates}
use Rattle.operator.specs.declared.serving.RequestEnd.{RequestEnd}
use Rattle.policy.specs.Rules.{PolicyRules}
use Rattle.server.specs.Connections.{Serves}
use Rattle.server.specs.declared.connection.ConnectionEnd.{ConnectionEnd}
use Rattle.books.specs.Book.{BookState, Follows}

-- by which port a connection came, and how it ended
pub data PortTurn : Type 0 where
  public : ConnectionEnd → PortTurn
  office : RequestEnd → PortTurn

-- What a connection leaves: what a session's steps or a look-up do, or what a request does that was made with these
-- credentials. What is taken wrongly in it isn't forgotten.
abbrev pub ConnectionLeaves : PolicyRules → List (List ℕ) → List ℕ → PortTurn → BookState → BookState → Type 0
ConnectionLeaves p passwords credentials (public end) old new =
    Serves p passwords None None old None None None new end
ConnectionLeaves p passwords credentials (office end) old new =
    Operates p credentials None None old None None None new end × Follows old new

abbrev pub LeavesOne : PolicyRules → List (List ℕ) → List ℕ → BookState → BookState → Type 0
LeavesOne p passwords credentials old new =
    (turn : PortTurn) × ConnectionLeaves p passwords credentials turn old new

-- connections, the last one first: each begins with what the one before it left
abbrev pub Turns : PolicyRules → List (List ℕ) → List ℕ → List PortTurn → BookState → BookState → Type 0
Turns p passwords credentials [] old new = new ≡ old
Turns p passwords credentials (turn ∷ earlier) old new =
    (between : BookState) × Turns p passwords credentials earlier old between
    × ConnectionLeaves p passwords credentials turn between new

abbrev pub ServesPorts : PolicyRules → List (List ℕ) → List ℕ → BookState → BookState → Type 0
ServesPorts p passwords credentials old new =
    (turns : List PortTurn) × Turns p passwords credentials turns old new
