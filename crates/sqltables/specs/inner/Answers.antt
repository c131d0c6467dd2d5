-- Answers that are kept.
use Rattle.std.specs.Prelude.{◌≡◌, ◌⊎◌, ◌||◌, ◌==◌, ◌≤◌, nat_le, ℕ, Bool, List, [], ◌∷◌, ◌++◌, length, filter, map, true, if◌then◌else◌, IsTrue}
use Rattle.std.specs.List.{All}
use Rattle.sqlite_value.specs.Order.{Row}
use Rattle.sqlite_trees.specs.Tree.{Trees}
use Rattle.sqlite_sql.specs.Query.{Query, IsAnswer}
use Rattle.sqlite_sql.specs.Program.{overlay}
use Rattle.sqlite.specs.State.{State, HasCleanDisk}
use Rattle.sqlite.specs.Values.{bound_value}
use Rattle.sqlrows.specs.inner.Layouts.{IsSelect}
use Rattle.sqltables.specs.Account.{accounts}
use Rattle.sqltables.specs.Day.{days}
use Rattle.sqltables.specs.Meta.{metas}
use Rattle.sqltables.specs.Tables.{registry}
use Rattle.sqltables.specs.inner.Statements.{IsOfTable}
use Rattle.sqltables.specs.declared.answers.Answer.{Answer}

-- these rows answer the question that the text is, of the trees
abbrev pub IsAnsweredByRows : Trees → List ℕ → Row → List Row → Type 0
IsAnsweredByRows db sql params rows =
    (query : Query) → IsSelect registry sql query → IsAnswer query (overlay db []) params rows

-- the text is a query of the table in this tree alone
abbrev pub IsQueryOf : ℕ → List ℕ → Type 0
IsQueryOf tree sql = (query : Query) → IsSelect registry sql query → IsOfTable tree query

-- its question is this one
abbrev pub IsOf : Answer → List ℕ → Row → Type 0
IsOf it sql params = (it.sql.items ≡ sql) × (map bound_value it.params ≡ params)

-- its rows answer its question, which is of the table in its tree alone
abbrev pub IsRight : Trees → Answer → Type 0
IsRight db it = IsAnsweredByRows db it.sql.items (map bound_value it.params) it.rows.items
    × IsQueryOf it.tree it.sql.items

-- each one does, of the trees
abbrev pub AreRight : Trees → List Answer → Type 0
AreRight db kept = All (IsRight db) kept

-- so many rows of the table in this tree are kept: up to 16, and of `days` all
abbrev pub is_short : ℕ → ℕ → Bool
is_short tree count = nat_le count 16 || (tree == days.tree)

-- they are 32 at most, of so many rows
abbrev pub AreFew : List Answer → Type 0
AreFew kept = (length kept ≤ 32) × All (λ (it : Answer). is_short it.tree (length it.rows.items) ≡ true) kept

-- answers about the table in this tree outlast a transaction
abbrev pub lasts : ℕ → Bool
lasts tree = (tree == accounts.tree) || ((tree == metas.tree) || (tree == days.tree))

-- those of several that do
abbrev pub lasting : List Answer → List Answer
lasting kept = filter (λ (it : Answer). lasts it.tree) kept

-- no more than there may be beside one more
abbrev pub unless_full : List Answer → List Answer
unless_full kept = if nat_le 32 (length kept) then [] else kept

-- those beside which one more is kept: where there are 32, those that outlast a transaction
abbrev pub beside : List Answer → List Answer
beside kept = if nat_le 32 (length kept) then unless_full (lasting kept) else kept

-- One more is kept, if memory is there for it.
abbrev pub IsPutIn : Answer → List Answer → List Answer → Type 0
IsPutIn it old new = (new ≡ beside old ++ it ∷ []) ⊎ (new ≡ beside old)

-- While the disk is clean and the connection open, each is what the database would answer now.
abbrev pub Recalls : State → List Answer → Type 0
Recalls s kept = HasCleanDisk s → IsTrue s.is_open → AreRight s.now.trees kept
