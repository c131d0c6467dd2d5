use Rattle.std.proofs.Common.{◌∙◌, ap}
use Rattle.mapbook.proofs.{Words.{content_of, Edit, edited}, EditLemmas.{edited-back, if-ok}}
use Rattle.mapbook.proofs.content.Content.inverse.Goals as goal

pub returns-in_default : goal.returns-in_default
returns-in_default c =
    let held = content_of c.args.self.now in
    if-ok c.as_it_was.result (λ back is. ap (λ (b : Edit). edited b (edited c.args.edit.now held)) is ∙ edited-back c.args.edit.now held) c.as_it_was.ensures
