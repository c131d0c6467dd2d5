-- A database that was found in files lies in order, whatever they held.
use Rattle.std.proofs.{Common.{◌≡◌, List, [], inl, inr, sym, ap, subst}, Math.Logic.∥∥₁_elim}
use Rattle.sqltables.proofs.Words.{AllByRecursion, catalog_tree, Database, HasCleanDisk, IsDatabase, IsFound, IsInOrder, IsListed, IsLive, IsOrdered}
use Rattle.sqltables.proofs.{Words.{IsShaped, IsSound, no_schema, Opens, Row, State, Table, Trees}, AdoptedLemmas.schema_once}
use Rattle.sqltables.proofs.AdoptionLemmas.{lies_in_order}
use Rattle.sqlite_wal.specs.Recovery.{Image}
use Rattle.sqlite_pool.specs.File.{in_use, version_in}
use Rattle.sqlite_trees.specs.declared.store.Shape.TheVariants as shape
use Rattle.sqlite_trees.specs.Props.{IsOrdered-prop}
use Rattle.sqlite_store.specs.{Listing.{all_reals, all_shapes, file_trees}, Listed.{catalog_rows, is_listed}}
use Rattle.sqlite_store.proofs.ListingLemmas.{all_ordered}
use Rattle.sqlite_schema.specs.declared.schema.Schema.{Schema}
use Rattle.sqlite.specs.{Files.AreFoundIn, Start.FindsIn}
use Rattle.sqlite.proofs.ListingLemmas.{empty_is_sound}

-- where nothing was found, there is no table
empty-in-order : (trees : Trees) (schema : Schema) → trees catalog_tree ≡ [] → IsSound schema trees → AllByRecursion (λ (t : Table). IsShaped shape.Table (trees t.tree)) schema.tables
empty-in-order trees schema none sound =
    subst (λ (s : Schema). AllByRecursion (λ (t : Table). IsShaped shape.Table (trees t.tree)) s.tables) (sym (schema_once trees schema no_schema sound (empty_is_sound trees none))) tt

found-in-order : (image : Image) (db : Database) → AreFoundIn image db.trees → IsDatabase db → IsInOrder db
found-in-order image db (inl (size, pages, wanted, adopts, ours, is)) sound =
    let read = file_trees size wanted pages in
    let ordered : IsOrdered (all_shapes wanted) read = ∥∥₁_elim ours (IsOrdered-prop (all_shapes wanted) read) (λ it. all_ordered it.file.db (version_in pages)) in
    let listed : IsListed (read catalog_tree) (all_shapes wanted) (all_reals wanted) =
    subst (λ (rows : List Row). IsListed rows (all_shapes wanted) (all_reals wanted)) (sym (catalog_rows size wanted (in_use size pages))) (is_listed wanted) in
    subst (λ (trees : Trees). AllByRecursion (λ (t : Table). IsShaped shape.Table (trees t.tree)) db.schema.tables) (sym is)
    (lies_in_order read (all_shapes wanted) (all_reals wanted) db.schema listed ordered (subst (IsSound db.schema) is sound))
found-in-order image db (inr (nothing, empty)) sound = empty-in-order db.trees db.schema empty.1 sound

-- what is known of a connection that was just opened over files, whatever they held
pub found_in_files : (image : Image) (s : State) → (HasCleanDisk s → Opens s × IsLive s) → (HasCleanDisk s → FindsIn image s) → IsFound s
found_in_files image s opened finds clean =
    let it = opened clean in
    let sound = (it.1 it.0.is_open).0 in
    let same : s.now.trees ≡ s.committed.trees = ap (λ (db : Database). db.trees) it.0.clean in
    (it.0, sound, found-in-order image s.now (subst (AreFoundIn image) (sym same) (finds clean).reads) sound)
