-- Connections of a listener, one after the other. Of what a socket gives and takes nothing is known, nor
-- of the machine's clock; so this says what becomes of the registry.
use Rattle.std.specs.Prelude.{◌≡◌, ℕ, List, [], ◌∷◌, None}
use Rattle.policy.specs.Rules.{PolicyRules}
use Rattle.server.specs.Connections.{Serves}
use Rattle.server.specs.declared.connection.ConnectionEnd.{ConnectionEnd}
use Rattle.books.specs.Book.{BookState}

-- what a connection of which nothing is known leaves: what a session's steps or a request do
abbrev pub ServesUnknown : PolicyRules → List (List ℕ) → BookState → BookState → Type 0
ServesUnknown p passwords old new =
    (end : ConnectionEnd) × Serves p passwords None None old None None None new end

-- connections that ended so, the last one first: each begins with what the one before it left
abbrev pub Serve : PolicyRules → List (List ℕ) → List ConnectionEnd → BookState → BookState → Type 0
Serve p passwords [] old new = new ≡ old
Serve p passwords (end ∷ earlier) old new =
    (between : BookState) × Serve p passwords earlier old between
    × Serves p passwords None None between None None None new end

abbrev pub ServesInTurn : PolicyRules → List (List ℕ) → BookState → BookState → Type 0
ServesInTurn p passwords old new =
    (ends : List ConnectionEnd) × Serve p passwords ends old new
