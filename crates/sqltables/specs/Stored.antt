-- The state of a store of rows, by its database.
use Rattle.std.specs.Prelude.{◌≡◌, List}
use Rattle.sqlite_catalog.specs.Listing.{IsSound}
use Rattle.sqlite_trees.specs.Tree.{Trees}
use Rattle.sqlrows.specs.Columns.{no_schema}
use Rattle.sqltables.specs.Content.{Content, no_content}
use Rattle.sqltables.specs.Decoding.{contents}
use Rattle.sqltables.specs.Readiness.{IsKnownAs}
use Rattle.sqltables.specs.Tables.{registry}
use Rattle.states.specs.States.{Has, Remains}
use Rattle.states.specs.declared.readiness.Ready.{Ready}
use Rattle.states.specs.declared.readiness.Ready.TheVariants as readiness

-- what is held where nothing was made yet
abbrev pub fresh : Content
fresh = no_content

-- what an opening takes this database for
abbrev pub IsLeftAs : Ready → Trees → Content → Type 0
IsLeftAs readiness.Empty db x = IsSound no_schema db × (x ≡ fresh)
IsLeftAs readiness.Used db x = IsSound registry db × (x ≡ contents db)
IsLeftAs readiness.Other db x = IsKnownAs readiness.Other db × (x ≡ fresh)

-- whatever a crash may leave is one of these
abbrev pub Covers : List (Remains Content) → (Trees → Type 0) → Type 0
Covers leaves may_leave =
    (db : Trees) → may_leave db
    → (left : Remains Content) × Has leaves left × IsLeftAs left.readiness db left.content
