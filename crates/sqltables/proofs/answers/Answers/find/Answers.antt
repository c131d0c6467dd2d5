use Rattle.std.proofs.Common.{List, ◌<◌, length, get_or, refl, sym, ap, subst, ◌∙◌}
use Rattle.sqltables.proofs.{Words.{All, Answer, bound, IsRight}, AnswerLemmas.shown-by}
use Rattle.sqltables.proofs.answers.Answers.find.Goals as goal

pub returns-then-is_of : goal.returns-then-is_of
returns-then-is_of g c tree f db xs asks right is =
    let it = c.answer-item.result in
    let at = c.answers.answer-index in
    let rights = subst (All (IsRight db)) (sym c.self.view_is) right in
    let here = c.answer-item.is ∙ ap (λ (items : List Answer). get_or items at it) c.deref-answer-items.ensures.value in
    let short = subst (λ (items : List Answer). at < length items) c.deref-answer-items.ensures.value c.answers-test.true in
    c.read_all.ensures (f xs) (c.deref.ensures.value ∙ shown-by tree g.R.Record.shown c.args.sql.now (bound c.args.params.now) f asks db xs is it (c.if-is_of.ensures refl) (subst (IsRight db) (sym here) (rights at it short)))
