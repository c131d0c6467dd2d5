use Rattle.std.proofs.Common.{◌∙◌, Some, None, ap}
use Rattle.mapbook.proofs.{Words.{edited, host_moved, host_set, leaves-on, plain_records}, RenameLemmas.{moved, naming-open}}
use Rattle.states.proofs.CallLemmas.{makes-on}
use Rattle.mapbook.specs.declared.edit.Edit.TheVariants as edit
use Rattle.mapbook.proofs.plain.Plain.move_host.Goals as goal

pub returns : goal.returns
returns c =
    let from = c.args.from in
    let h = c.args.host in
    let s = plain_records c.args.self.now in
    let one = plain_records c.rename_in.new.self in
    let two = plain_records c.set.new.self in
    let three = plain_records c.put_named.new.self in
    let first = c.in_ok-rename_in.ensures {u = tt} in
    let second = c.in_ok-set.ensures {u = tt} in
    makes-on c.put_named.result s two three (host_set h.name (Some h) two.content) (host_moved from h s.content)
    (λ e. first.clean (second.clean e)) (λ e. second.before e ∙ first.before (second.clean e)) (λ was. second.answers (first.answers was)) (leaves-on s one two first.leaves second.leaves)
    (λ e.
    ap (host_set h.name (Some h)) (second.content e ∙ ap (edited (edit.Host from None)) (first.content (second.clean e)))
    ∙ moved from c.as_slice.result.now h s.content (c.as_slice.ensures ∙ c.in_ok-names.ensures {u = tt} ∙ naming-open c.args.self.now from c.requires))
    c.put_named.ensures
