use Rattle.std.proofs.Common.{sym, ◌∙◌}
use Rattle.sqlobjects.proofs.{Words.{AreHostsMoved, IsSponsorSetBelow}, HostSponsorLemmas.followed, StepLemmas.asked-then}
use Rattle.sqlobjects.proofs.host_sponsors.set_sponsor_below.Goals as goal

pub returns : goal.returns
returns g c =
    let old = c.args.store.now in
    let new = c.move_hosts.new.store in
    let above = c.args.above.now in
    let before = c.in_ok-before.before in
    let column = c.maybe_registrar_column.result in
    let asked = c.in_ok-before.ensures {u = tt} in
    let made = c.in_ok-move_hosts.ensures {u = tt} in
    asked-then (AreHostsMoved above (record { before = before; after = column })) (IsSponsorSetBelow above c.args.after) old c.domain_sponsor.new.store new asked.0 made
    (λ clean moved.
    let then = made.clean clean in
    followed old.content new.content above c.as_str.result.now before column c.args.after c.as_str.ensures (asked.1 then) c.maybe_registrar_column.ensures (sym c.are_same.ensures ∙ c.if-are_same.false)
    (c.show_consistent.ensures (asked.0.clean then)) (c.show_consistent-2.ensures clean) moved)
