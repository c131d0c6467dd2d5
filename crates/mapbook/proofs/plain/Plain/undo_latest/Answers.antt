use Rattle.std.proofs.Common.{◌≡◌, ◌-◌, length, ap, sym, ◌∙◌, List, Some}
use Rattle.mapbook.proofs.{Words.{content_of, Edit, edited, slice_get, undone_all}, EditLemmas.undone_all-latest}
use Rattle.mapbook.proofs.plain.Plain.undo_latest.Goals as goal

pub returns-in_ok-set-clause-at_begin : goal.returns-in_ok-set-clause-at_begin
returns-in_ok-set-clause-at_begin c =
    let us = c.args.self.now.undo in
    let last : slice_get us (length us - 1) ≡ Some c.in-Some.latest.now = ap (λ (xs : List Edit). slice_get xs (length xs - 1)) (sym c.as_slice.ensures) ∙ sym c.in-Some.ensures.value in
    ap (λ (vs : List Edit). undone_all vs (content_of c.set.new.self)) c.drop_last.ensures
    ∙ undone_all-latest us c.in-Some.latest.now (content_of c.args.self.now.content) (content_of c.set.new.self) last (c.in_ok-set.ensures.ok ∙ ap (λ (e : Edit). edited e (content_of c.args.self.now.content)) c.in_ok-copy.ensures)
