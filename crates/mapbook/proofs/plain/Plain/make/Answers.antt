use Rattle.std.proofs.Common.{◌∙◌, ap}
use Rattle.mapbook.specs.Edits.{edited}
use Rattle.mapbook.proofs.EditLemmas.{on-ok, whichever}
use Rattle.mapbook.proofs.plain.Plain.make.Goals as goal

pub returns-in-Ok-clause-at_begin : goal.returns-in-Ok-clause-at_begin
returns-in-Ok-clause-at_begin c =
    whichever c.set_kept.result (λ made. made ∙ c.in-Ok.ensures.ok.made) (λ unmade. unmade ∙ c.in-Ok.ensures.ok.unmade) c.set_kept.ensures.kept
    c.set_kept.ensures.err

pub returns-in-Ok-clause-ok : goal.returns-in-Ok-clause-ok
returns-in-Ok-clause-ok c = on-ok c.set_kept.result (λ made. made ∙ ap (edited c.args.edit) c.keep_inverse.ensures.content) c.set_kept.ensures.ok
