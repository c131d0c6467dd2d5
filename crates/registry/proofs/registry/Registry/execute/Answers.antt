use Rattle.std.proofs.Common.{sym, ◌∙◌}
use Rattle.registry.proofs.Answering.{command_kept, command_isolated}
use Rattle.registry.proofs.registry.Registry.execute.Goals as goal

pub returns-clause-isolation : goal.returns-clause-isolation
returns-clause-isolation g c =
    command_isolated c.args.self.now.policy c.args.caller c.args.command.now c.args.moment c.transact.result (g.B.Book.state c.args.self.now.book) (g.B.Book.state c.transact.new.self.book)
    c.args.self.now.sound (sym c.is_late.ensures ∙ c.if-is_late.false) c.transact.ensures.step

pub returns-clause-keeps : goal.returns-clause-keeps
returns-clause-keeps g c =
    command_kept c.args.self.now.policy c.args.moment c.transact.new.self.policy (g.B.Book.state c.args.self.now.book) (g.B.Book.state c.transact.new.self.book)
    c.args.self.now.sound (sym c.is_late.ensures ∙ c.if-is_late.false) c.args.self.now.kept
    c.args.caller c.args.command.now c.transact.result c.requires c.show_can_be_asked.ensures c.transact.ensures.keeps c.transact.ensures.step
