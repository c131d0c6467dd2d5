use Rattle.std.proofs.Common.{rules}
use Rattle.rdap.proofs.RouteLemmas.{no_token}
use Rattle.rdap.proofs.request.is_get.Goals as goal

pub returns-in-Err-Invalid : goal.returns-in-Err-Invalid
returns-in-Err-Invalid c = no_token c.args.method.now (c.from_bytes.ensures.invalid.0 (search rules))
