use Rattle.std.proofs.Common.{rules, List, ℕ, ◌≤◌, length, length-take, subst, sym, ap, arith}
use Rattle.std.specs.Io.KnownBytes.{Consumes}
use Rattle.operator.specs.{Heard.most_head, Requests.HasHeadAsking}
use Rattle.operator.proofs.HeardLemmas.{heard_in}
use Rattle.operator.proofs.hearing.hear_in.Goals as goal

pub returns-in-Some-body_of : goal.returns-in-Some-body_of
returns-in-Some-body_of g c =
    let input = g.R.Read.remaining c.args.reader.now in
    let rest = g.R.Read.remaining c.read_to_head.new.reader in
    let front = c.front_of-front.result.now in
    let has : HasHeadAsking c.args.policy.now c.args.credentials.now front c.in-Some.asked c.in-Some.len = search rules in
    let taken : Consumes input rest front = subst (λ (l : List ℕ). Consumes input rest l) (sym c.front_of-front.ensures) c.in-Ok.ensures.bytes in
    let short : length front ≤ most_head = omega (arith, ap length c.front_of-front.ensures, length-take c.in-Ok.count c.read_to_head.new.buffer) in
    heard_in c.args.policy.now c.args.credentials.now front c.behind.result.now c.in-Some.asked c.in-Some.len input rest _ _ c.in-Some-body_of.body.items taken short has c.behind.ensures c.chain.ensures.bytes c.in-Some-body_of.ensures.bytes c.in-Some-body_of.ensures.body_is
