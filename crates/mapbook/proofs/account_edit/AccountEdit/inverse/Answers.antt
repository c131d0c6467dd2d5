use Rattle.std.proofs.Common.{List, sym, ap, ◌∙◌}
use Rattle.mapbook.proofs.Words.{account_edited, AccountEdit, in_order, Line, Message, taken}
use Rattle.accounts.specs.{Entries.{with_lines, with_queue}, Queue.dropped}
use Rattle.accounts.proofs.{LineLaws.lines_in_order, QueueLaws.dropped-put}
use Rattle.basis.proofs.BagLaws.{taken-add}
use Rattle.mapbook.proofs.account_edit.AccountEdit.inverse.Goals as goal

pub returns-in-AddLine : goal.returns-in-AddLine
returns-in-AddLine c =
    let a = c.args.account.now in
    let line = c.in-AddLine.line in
    ap (λ (e : AccountEdit). with_lines (taken in_order line) (account_edited e a)) c.in-AddLine.is ∙ ap (λ (ls : List Line). record a { lines = ls }) (taken-add in_order lines_in_order line a.lines)

pub returns-in_ok-message_clone-in-AddMessage : goal.returns-in_ok-message_clone-in-AddMessage
returns-in_ok-message_clone-in-AddMessage c =
    let a = c.args.account.now in
    let message = c.in-AddMessage.message in
    ap (λ (m : Message). with_queue (dropped m) (account_edited c.args.self.now a)) c.in_ok-message_clone-in-AddMessage.ensures
    ∙ ap (λ (e : AccountEdit). with_queue (dropped message) (account_edited e a)) c.in-AddMessage.is
    ∙ ap (λ (ms : List Message). record a { queue = ms }) (dropped-put message a.queue (sym c.if-not-has.ensures.there))
