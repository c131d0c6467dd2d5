-- The tables of the schema before this one: those of today, without the lengths that are in force from a
-- moment on, and without the ends of lines' graces.
use Rattle.std.specs.Prelude.{◌≡◌, ◌⊎◌, ◌&&◌, Bool, true, false, List, ℕ, [], map, IsTrue, if◌then◌else◌, Result, Ok, Err}
use Rattle.sqlite_value.specs.Order.{Row}
use Rattle.sqlite_catalog.specs.Listing.{IsSound}
use Rattle.sqlite_trees.specs.Tree.{Trees}
use Rattle.sqlite_sql.specs.Query.{Query, IsAnswer}
use Rattle.sqlite_sql.specs.Program.{overlay}
use Rattle.sqlite.specs.Effect.{Database}
use Rattle.sqlite.specs.State.{State, HasCleanDisk}
use Rattle.sqlrows.specs.inner.Layouts.{Holds, IsSelect}
use Rattle.states.specs.States.{Has, Remains}
use Rattle.states.specs.declared.fault.BookFault.{BookFault}
use Rattle.states.specs.declared.readiness.Ready.{Ready}
use Rattle.states.specs.declared.readiness.Ready.TheVariants.{Empty, Used, Other}
use Rattle.sqltables.specs.inner.FirstTables.{first_registry}
use Rattle.sqltables.specs.Content.{Content, no_content}
use Rattle.sqltables.specs.Decoding.{contents}
use Rattle.sqltables.specs.inner.Consistent.{AreKeyed}
use Rattle.sqltables.specs.Meta as meta_table
use Rattle.sqltables.specs.Account as account_table
use Rattle.sqltables.specs.Contact as contact_table
use Rattle.sqltables.specs.Domain as domain_table
use Rattle.sqltables.specs.Host as host_table
use Rattle.sqltables.specs.Address as address_table
use Rattle.sqltables.specs.Link as link_table
use Rattle.sqltables.specs.Message as message_table
use Rattle.sqltables.specs.Transfer as transfer_table
use Rattle.oldrows.specs.inner.Lines.{first_line_in, first_lines, without_end}
use Rattle.oldrows.specs.Stored.{OldState, IsAsked, IsRead}

-- the rows that a database holds
abbrev pub old_contents : Trees → Content
old_contents db = record (contents db) { lines = map first_line_in (db 11); days = [] }

-- the tables are those before, and hold these rows
pub record IsOld (content : Content) (db : Database) : Type 0 where
  pub schema : db.schema ≡ first_registry
  pub metas : Holds meta_table.metas db.trees content.metas
  pub accounts : Holds account_table.accounts db.trees content.accounts
  pub contacts : Holds contact_table.contacts db.trees content.contacts
  pub domains : Holds domain_table.domains db.trees content.domains
  pub hosts : Holds host_table.hosts db.trees content.hosts
  pub addresses : Holds address_table.addresses db.trees content.addresses
  pub links : Holds link_table.links db.trees content.links
  pub lines : Holds first_lines db.trees content.lines
  pub messages : Holds message_table.messages db.trees content.messages
  pub transfers : Holds transfer_table.transfers db.trees content.transfers
  pub endless : map without_end content.lines ≡ content.lines
  pub days : content.days ≡ []

-- the text asks for these records of whatever the tables hold
pub record Asks {R : Type 0} (shown : R → Row) (sql : List ℕ) (f : Content → List R) : Type 0 where
  pub query : Query
  pub is : IsSelect first_registry sql query
  pub means : (db : Trees) (xs : Content) (rows : List Row)
      → IsOld xs (record { schema = first_registry; trees = db })
      → IsAnswer query (overlay db []) [] rows → rows ≡ map shown (f xs)

-- the rows of each table rise, and none is of a table that wasn't there
pub record IsOldContent (xs : Content) : Type 0 where
  pub keyed : AreKeyed xs
  pub days : xs.days ≡ []

abbrev pub old_rows : Bool → Trees → Content
old_rows is_there db = if is_there then old_contents db else no_content

abbrev pub old_readiness : Bool → Ready
old_readiness is_there = if is_there then Used else Other

-- what is seen, by the tables alone
abbrev pub IsSeenAs : Ready → Trees → Content → Type 0
IsSeenAs Used trees content = content ≡ old_contents trees
IsSeenAs Empty trees content = content ≡ no_content
IsSeenAs Other trees content = content ≡ no_content

-- whether it has these tables
abbrev pub IsShapedAsOld : Ready → Trees → Type 0
IsShapedAsOld Used trees = IsSound first_registry trees
IsShapedAsOld Empty trees = ⊥
IsShapedAsOld Other trees = IsSound first_registry trees → ⊥

-- what this database is, by its tables
abbrev pub IsLeftAsOld : Remains Content → Trees → Type 0
IsLeftAsOld left db = IsShapedAsOld left.readiness db × IsSeenAs left.readiness db left.content

-- whatever a crash may leave is one of these
abbrev pub CoversOld : List (Remains Content) → (Trees → Type 0) → Type 0
CoversOld leaves may_leave =
    (db : Trees) → may_leave db → (left : Remains Content) × Has leaves left × IsLeftAsOld left db

-- both have these tables, with the same rows, or neither has them
abbrev pub IsSameOld : Trees → Trees → Type 0
IsSameOld was db = (left : Remains Content) × IsLeftAsOld left was × IsLeftAsOld left db

-- of a database that was found a crash may leave that, or the same registry
abbrev pub LeavesAlone : Trees → (Trees → Type 0) → Type 0
LeavesAlone found may_leave = (db : Trees) → may_leave db → (db ≡ found) ⊎ IsSameOld found db

-- what an opening finds of what is seen now
abbrev pub old_remains : Bool → State → Remains Content
old_remains is_there s = record { readiness = old_readiness is_there; content = old_rows is_there s.now.trees }

-- the same of several
abbrev pub old_leaves : {C : Type 0} → (C → State) → List (C × Bool) → List (Remains Content)
old_leaves {C} state-of items = map (λ (it : C × Bool). old_remains it.1 (state-of it.0)) items

abbrev pub as_found : Bool → State → List (Remains Content) → OldState
as_found is_there s leaves = record {
  content = old_rows is_there s.now.trees;
  is_clean = s.is_clean && s.is_open;
  is_honest = s.is_clean;
  readiness = old_readiness is_there;
  crash_leaves = leaves;
}

-- a question: this is the answer; whatever is answered, nothing is changed
abbrev pub FindsOld : {A : Type 0} → Result A BookFault → A → OldState → OldState → Type 0
FindsOld (Ok it) value old new = IsAsked old new × (new.is_clean ≡ true → it ≡ value)
FindsOld (Err fault) value old new = IsRead old new

-- no transaction is open, and each row is a record's
pub record AgreesAsOld (s : State) : Type 0 where
  pub mode : s.in_transaction ≡ false
  pub holds : IsOld (old_contents s.now.trees) s.now
  pub settled : s.now ≡ s.committed

-- while the disk is clean and the connection open
abbrev pub FitsOld : Bool → State → Type 0
FitsOld is_there s = HasCleanDisk s → IsTrue s.is_open → is_there ≡ true → AgreesAsOld s

-- while the disk is clean, nothing but these may be left
abbrev pub GuardsOld : State → List (Remains Content) → Type 0
GuardsOld s leaves = HasCleanDisk s → CoversOld leaves s.may_leave
