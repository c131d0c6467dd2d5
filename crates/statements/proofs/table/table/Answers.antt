use Rattle.std.proofs.{Common.{◌≡◌, ◌∙◌, ◌∷◌, ◌+◌, ap, sym, drop, string_bytes}, lemmas.List.drop_more}
use Rattle.accounts.specs.declared.line.Line.{Line}
use Rattle.statements.proofs.TableLemmas.{one_more}
use Rattle.statements.proofs.table.table.Goals as goal

pub loop-line-preserved : goal.loop-line-preserved
loop-line-preserved c =
    let lines = c.args.lines.now in
    let i = c.loop-line.line-index in
    let l = c.line-item.result in
    let next : drop i lines ≡ l ∷ drop (i + 1) lines = drop_more lines i l c.loop-line-test.true ∙ ap (λ (x : Line). x ∷ drop (i + 1) lines) (sym c.line-item.is) in
    one_more c.args.bounds.now lines i l (string_bytes c.loop-line.written.text) (string_bytes c.add.new.self.text) _ c.loop-line.written.balance c.add.new.self.balance
    next c.in_ok-add.ensures.text c.in_ok-add.ensures.balance c.loop-line.invariant
