use Rattle.std.proofs.Common.{◌≡◌, true, ◌∙◌, ap, refl}
use Rattle.sqlite.specs.Effect.{Database}
use Rattle.sqlite_trees.specs.View.{doubt}
use Rattle.sqltables.proofs.readiness.registry_schema.Goals as goal

-- memory is always clean
clean : doubt true ≡ 0
unfolding doubt
clean = refl

pub returns : goal.returns
returns c =
    let fresh = c.in_ok-conn.ensures.empty in
    let begun = c.in_ok-begin.ensures.does fresh.0.autocommit clean in
    let content = c.in_ok-create.ensures.empty (ap (λ (db : Database). db.schema) begun.now_is ∙ fresh.2) begun.is_open begun.mode clean in
    c.in_ok-copy.ensures ∙ c.schema.ensures.value ∙ content.schema
