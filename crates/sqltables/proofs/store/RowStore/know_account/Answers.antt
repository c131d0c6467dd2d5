use Rattle.std.proofs.Common.{[], ◌∷◌, sym, subst₂}
use Rattle.sqltables.proofs.{Words.{account_shown, accounts, IsAnsweredByRows, Row}, AnswerLemmas.reads-by}
use Rattle.sqltables.proofs.{KnownLemmas.account-known, QueryLemmas.accounts_by_id}
use Rattle.sqltables.specs.declared.account.TheConstants as account_texts
use Rattle.sqltables.proofs.store.RowStore.know_account.Goals as goal

pub know-requires-clause-reads : goal.know-requires-clause-reads
know-requires-clause-reads g c = reads-by accounts.tree account_shown account_texts.BY_ID.now _ _ (accounts_by_id c.args.account.now.id)

pub know-requires-clause-right : goal.know-requires-clause-right
know-requires-clause-right g c clean db is =
    subst₂ (λ (params row : Row). IsAnsweredByRows db account_texts.BY_ID.now params (row ∷ [])) (sym c.number.ensures) (sym c.params.ensures.owned)
    (account-known c.args.account.now.id c.args.account.now db c.args.self.now.content is (c.requires clean))
