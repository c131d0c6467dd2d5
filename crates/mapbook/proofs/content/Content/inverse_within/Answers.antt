use Rattle.std.proofs.Common.{Option, IfSome, IsSomeAnd, subst, ap, ◌≡◌, ◌∙◌}
use Rattle.std.specs.Option.{option_copied}
use Rattle.mapbook.proofs.{Words.{account_edited, AccountEdit, content_of, Edit, edited, FinMap, nat_cmp}, EditLemmas.{edited-back, if-ok}}
use Rattle.mapbook.proofs.PostingLemmas.{back-there}
use Rattle.accounts.specs.declared.account.Account.{Account}
use Rattle.mapbook.specs.declared.edit.Edit.TheVariants as edits
use Rattle.mapbook.proofs.content.Content.inverse_within.Goals as goal

pub returns-in-None : goal.returns-in-None
returns-in-None c =
    let held = content_of c.args.self.now in
    let edit = edits.Within c.args.registrar c.args.edit.now in
    if-ok c.account_put.result
    (λ back is. ap (λ (b : Edit). edited b (edited edit held)) (is ∙ ap (λ (o : Option Account). edits.Account c.args.registrar o) c.get-account.ensures) ∙ edited-back edit held)
    c.account_put.ensures

pub returns-in-Some : goal.returns-in-Some
returns-in-Some c =
    let held = content_of c.args.self.now in
    let edit = c.args.edit.now in
    let there = subst (λ (o : Option AccountEdit). IfSome o (λ it. IsSomeAnd (option_copied c.get-account.result) (λ a. account_edited it (account_edited edit a) ≡ a))) c.in-Some.is c.in_ok-inverse_there.ensures in
    ap (λ (m : FinMap nat_cmp Account). record held { registry = record held.registry { accounts = m } })
    (back-there c.args.registrar c.args.self.now.accounts (account_edited edit) (account_edited c.in-Some.back) (option_copied c.get-account.result) c.get-account.ensures there)
