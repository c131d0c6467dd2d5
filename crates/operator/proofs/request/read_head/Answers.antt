use Rattle.std.proofs.Common.{rules, ◌≤◌, length}
use Rattle.httparse.specs.Spans.{IsRequestOf}
use Rattle.operator.specs.Requests.{most_head_fields}
use Rattle.operator.proofs.HeadLemmas.{found}
use Rattle.operator.proofs.request.read_head.Goals as goal

pub returns-in-Ok-Complete : goal.returns-in-Ok-Complete
returns-in-Ok-Complete c =
    let is : IsRequestOf c.args.bytes.now c.parse_request.new.headers c.in-Ok-Complete.head = search rules in
    let within : c.in-Ok-Complete.head.len ≤ length c.args.bytes.now = search rules in
    let room : length c.parse_request.new.headers ≤ most_head_fields = search rules in
    found c.args.policy.now c.args.credentials.now c.args.bytes.now c.parse_request.new.headers c.in-Ok-Complete.head c.asked_by-asked.result c.length_of.result is within room c.length_of.ensures (search rules)
