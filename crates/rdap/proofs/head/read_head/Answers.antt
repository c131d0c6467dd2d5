use Rattle.rdap.proofs.HeadLemmas.{is_cut, never_cut, never_refused}
use Rattle.rdap.proofs.head.read_head.Goals as goal

pub returns-then-bytes-lt-MOST_BYTES : goal.returns-then-bytes-lt-MOST_BYTES
returns-then-bytes-lt-MOST_BYTES c = is_cut c.args.bytes.now c.front_of.result.now c.front_of.ensures c.if-bytes-lt-MOST_BYTES.true c.in-Cut.ensures.0 c.in-Cut.ensures.1

pub returns-else-bytes-lt-MOST_BYTES : goal.returns-else-bytes-lt-MOST_BYTES
returns-else-bytes-lt-MOST_BYTES c = never_cut c.args.bytes.now c.front_of.result.now c.front_of.ensures c.if-bytes-lt-MOST_BYTES.false c.in-Cut.ensures.0

pub returns-in-Bad : goal.returns-in-Bad
returns-in-Bad c = never_refused c.args.bytes.now c.front_of.result.now c.front_of.ensures c.in-Bad.ensures
