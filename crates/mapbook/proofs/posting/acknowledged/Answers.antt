use Rattle.std.proofs.Common.{List, Option, ap, refl, ◌∙◌}
use Rattle.mapbook.proofs.{Words.{AccountEdit, ack_edits, all_edited, Message}, EditLemmas.if-ok, PostingLemmas.ack-made}
use Rattle.mapbook.proofs.posting.acknowledged.Goals as goal

pub returns : goal.returns
returns c =
    let a = c.args.account.now in
    let id = c.args.id.now in
    if-ok c.taken_if_named.result
    (λ edits is. ap (λ (es : List AccountEdit). all_edited es a) (is ∙ ap (λ (o : Option Message). ack_edits id o) c.oldest.ensures) ∙ ack-made id a a.queue refl)
    c.taken_if_named.ensures
