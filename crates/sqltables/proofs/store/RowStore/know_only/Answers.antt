use Rattle.std.proofs.Common.{[], ◌∷◌, sym, subst}
use Rattle.sqltables.proofs.{Words.{IsAnsweredByRows, meta_shown, metas, Row}, AnswerLemmas.reads-by, KnownLemmas.meta-known}
use Rattle.sqltables.proofs.QueryLemmas.{all_metas}
use Rattle.sqltables.specs.declared.meta.TheConstants as meta_texts
use Rattle.sqltables.proofs.store.RowStore.know_only.Goals as goal

pub know-requires-clause-reads : goal.know-requires-clause-reads
know-requires-clause-reads g c = reads-by metas.tree meta_shown meta_texts.ALL.now _ _ all_metas

pub know-requires-clause-right : goal.know-requires-clause-right
know-requires-clause-right g c clean db is =
    subst (λ (row : Row). IsAnsweredByRows db meta_texts.ALL.now [] (row ∷ [])) (sym c.params.ensures.owned)
    (meta-known c.args.meta.now db c.args.self.now.content is (c.requires clean))
