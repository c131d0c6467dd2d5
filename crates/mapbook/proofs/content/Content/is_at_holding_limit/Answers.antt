use Rattle.mapbook.specs.Plain.{content_of}
use Rattle.mapbook.proofs.HeldLemmas.{few}
use Rattle.mapbook.proofs.content.Content.is_at_holding_limit.Goals as goal

pub returns-then-len-lt-HOLDING_LIMIT : goal.returns-then-len-lt-HOLDING_LIMIT
returns-then-len-lt-HOLDING_LIMIT c = few c.args.caller (content_of c.args.self.now).registry c.len.result c.len.ensures c.if-len-lt-HOLDING_LIMIT.true
