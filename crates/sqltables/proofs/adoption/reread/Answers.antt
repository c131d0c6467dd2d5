use Rattle.std.proofs.Common.{◌≡◌, sym, ap, subst, ◌∙◌, arith}
use Rattle.sqltables.proofs.Words.{AllByRecursion, Database, IsClean, IsShaped, IsSound, Table, Trees, View}
use Rattle.sqltables.proofs.AdoptionLemmas.{commit_adds_none, fresh_if_committed, last_commit, lies_in_order, open_if_consistent}
use Rattle.sqlite_trees.specs.declared.store.Shape.TheVariants as shape
use Rattle.sqltables.proofs.adoption.reread.Goals as goal

pub returns-in-Ok-over-clause-clean : goal.returns-in-Ok-over-clause-clean
returns-in-Ok-over-clause-clean g c clean = omega (arith, c.into_store-store.ensures.quiet.clean, c.commit.ensures.clean, c.in-Ok-over.ensures.clean, clean)

pub returns-in-Ok-over-clause-reread : goal.returns-in-Ok-over-clause-reread
returns-in-Ok-over-clause-reread g c clean =
    let left = g.S.Store.view c.into_store-store.result in
    let kept = g.S.Store.view c.commit.new.self in
    let found = c.in-Ok-over.ensures in
    let was : IsClean kept = omega (arith, found.clean, clean) in
    let done = c.in-Ok.ensures.ok was in
    let fresh = fresh_if_committed left kept c.into_store-store.ensures.numbered done was in
    let it = found.opens clean in
    let trees = found.trees clean in
    let sound = (it.1 it.0.is_open).0 in
    let opened = open_if_consistent left.is_open left.is_broken (g.met.S.Store.broken_if_shut c.into_store-store.result) done.sound in
    let schema = c.in-Ok-over.conn.schema in
    record {
      opens = it.0;
      sound = sound;
      trees = trees ∙ ap (λ (v : View). v.trees) done.is ∙ (c.into_store-store.ensures.undone.undone opened).0;
      in_order = subst (λ (db : Trees). AllByRecursion (λ (t : Table). IsShaped shape.Table (db t.tree)) schema.tables) (sym trees)
          (lies_in_order kept.trees kept.shape kept.reals schema (g.met.S.Alter.listed c.commit.new.self fresh.sound) (g.met.S.Store.ordered c.commit.new.self fresh.sound) (subst (λ (db : Trees). IsSound schema db) trees sound));
    }

pub returns-in-Ok-over-clause-leaves : goal.returns-in-Ok-over-clause-leaves
returns-in-Ok-over-clause-leaves g c clean db may =
    let was = c.args.conn.store in
    let left = c.into_store-store.result in
    let kept = g.S.Store.view c.commit.new.self in
    let found = c.in-Ok-over.ensures in
    let consistent : IsClean kept = omega (arith, found.clean, clean) in
    let done = c.in-Ok.ensures.ok consistent in
    let it = (found.opens clean).0 in
    let same : db ≡ (g.S.Store.view left).trees =
    g.met.S.Store.settled c.in-Ok-over.conn.store db it.is_open may ∙ sym (ap (λ (d : Database). d.trees) it.clean) ∙ found.trees clean ∙ ap (λ (v : View). v.trees) done.is in
    subst (g.S.Store.recovers was) (sym same) (last_commit (g.S.Store.view was) (g.S.Store.view left) c.into_store-store.ensures.undone (g.met.S.Store.broken_if_shut left) (g.met.S.Store.shut_if_dirty left)
    (g.S.Store.recovers was) (g.met.S.Store.stays was) done.sound)

pub returns-in-Err-clause-refused : goal.returns-in-Err-clause-refused
returns-in-Err-clause-refused g c db left =
    let was = c.args.conn.store in
    let undone = c.into_store-store.result in
    let new = c.commit.new.self in
    commit_adds_none (g.S.Store.view was) (g.S.Store.view undone) c.into_store-store.ensures.undone (g.met.S.Store.broken_if_shut undone) (g.met.S.Store.shut_if_dirty undone) (g.S.Store.recovers was) (g.met.S.Store.stays was)
    (g.S.Store.recovers undone) (g.S.Store.recovers new) c.into_store-store.ensures.quiet.outcomes c.commit.ensures.crash db (c.in-Err.ensures.unharmed.outcomes db left)

pub returns-in_default-clause-refused : goal.returns-in_default-clause-refused
returns-in_default-clause-refused g c =
    let was = c.args.conn.store in
    let undone = c.into_store-store.result in
    let new = c.commit.new.self in
    commit_adds_none (g.S.Store.view was) (g.S.Store.view undone) c.into_store-store.ensures.undone (g.met.S.Store.broken_if_shut undone) (g.met.S.Store.shut_if_dirty undone) (g.S.Store.recovers was) (g.met.S.Store.stays was)
    (g.S.Store.recovers undone) (g.S.Store.recovers new) c.into_store-store.ensures.quiet.outcomes c.commit.ensures.crash
