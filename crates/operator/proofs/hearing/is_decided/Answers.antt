use Rattle.operator.proofs.HeadLemmas.{decided_full}
use Rattle.operator.proofs.hearing.is_decided.Goals as goal

pub returns-then-bytes-ge-MOST_HEAD-clause-decided :
    goal.returns-then-bytes-ge-MOST_HEAD-clause-decided
returns-then-bytes-ge-MOST_HEAD-clause-decided c = λ same. decided_full c.args.bytes.now c.if-bytes-ge-MOST_HEAD.true
