use Rattle.std.proofs.Common.{sym, ◌∙◌}
use Rattle.mapbook.specs.Plain.{at_begin, content_of}
use Rattle.mapbook.proofs.PlainLemmas.{opens-same}
use Rattle.mapbook.proofs.plain.Plain.open_account.Goals as goal

pub returns-then-has_account : goal.returns-then-has_account
returns-then-has_account c =
    opens-same c.args.registrar (content_of c.args.self.now.content) (at_begin c.args.self.now) c.args.self.now.is_open c.args.self.now.is_used c.requires (sym c.has_account.ensures ∙ c.if-has_account.true)
