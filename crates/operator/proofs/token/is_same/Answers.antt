use Rattle.std.proofs.Common.{rules, ◌≡◌, length, add-one}
use Rattle.operator.proofs.TokenLemmas.{one_more}
use Rattle.operator.proofs.token.is_same.Goals as goal

pub loop-at-preserved : goal.loop-at-preserved
loop-at-preserved c =
    let same : length c.args.one.now ≡ length c.args.other.now = search rules in
    let within = c.loop-at-test.true in
    rw (add-one, one_more c.args.one.now c.args.other.now c.loop-at.at same within) (search rules)
