use Rattle.std.proofs.Common.{◌≡◌, true, [], ◌∷◌, map, sym, subst, ◌∙◌}
use Rattle.sqltables.proofs.Words.{bound, Content, IsAnsweredByRows, IsContent, leaves_of, owned, registry, state, StateOf, Trees}
use Rattle.sqltables.proofs.AnswerLemmas.{recalls-known}
use Rattle.sqltables.proofs.store.RowStore.know.Goals as goal

pub invariant_of-self : goal.invariant_of-self
invariant_of-self g c =
    let inside = c.self.inside in
    let rows = sym c.has_rows.ensures ∙ c.if-has_rows.true in
    let sql = c.args.sql.now in
    let params = bound c.args.params.now in
    let found = map owned c.args.row.now ∷ [] in
    let right = subst (λ (s : StateOf Content). s.is_clean ≡ true → (db : Trees) → IsContent s.content (record { schema = registry; trees = db }) → IsAnsweredByRows db sql params found) (sym c.self.view_is) c.requires.right in (
      c.self.invariant.0,
      c.self.invariant.1,
      recalls-known inside.form inside.begun (state g.S.Store inside.conn) (leaves_of (state g.S.Store) inside.left.items) inside.answers c.self.invariant.0 rows c.self.invariant.2 c.keep_row.new.self sql params found right c.keep_row.ensures,
    )
