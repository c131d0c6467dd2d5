use Rattle.std.proofs.Common.{length, ap, sym, ◌∙◌}
use Rattle.sqlobjects.proofs.Words.{AreHostsMoved, eqb-true, host_takes_sponsor, HostRow, hosts_to, list_all, nil_from_length, update_where}
use Rattle.sqlobjects.proofs.{HostSponsorLemmas.{Had, hosts-moved, none-below}, StepLemmas.{asked-makes, asked-stood}}
use Rattle.sqlobjects.proofs.host_sponsors.move_hosts.Goals as goal

pub returns-then-is_empty : goal.returns-then-is_empty
returns-then-is_empty g c =
    let asked = c.in_ok-rows.ensures {u = tt} in
    let tested = sym (c.had_sponsor.ensures ∙ ap (list_all (Had c.args.sponsors.now)) c.as_slice.ensures) ∙ c.if-not-had_sponsor.false in
    asked-stood (AreHostsMoved c.args.above.now c.args.sponsors.now) c.args.store.now c.hosts_by_above.new.self asked.0 c.requires
    (λ e. none-below c.args.store.now.content c.args.above.now c.as_str.result.now c.args.sponsors.now c.in_ok-rows.rows c.as_str.ensures (asked.1 e) tested (nil_from_length c.in_ok-rows.rows (eqb-true (length c.in_ok-rows.rows) 0 (sym c.is_empty.ensures ∙ c.if-is_empty.true))))

pub returns : goal.returns
returns g c =
    let asked = c.in_ok-rows.ensures {u = tt} in
    let tested = sym (c.had_sponsor.ensures ∙ ap (list_all (Had c.args.sponsors.now)) c.as_slice.ensures) ∙ c.if-not-had_sponsor.false in
    asked-makes c.update_hosts_sponsor.result (hosts_to (update_where (host_takes_sponsor c.as_str-2.result.now) (λ (x : HostRow). record x { sponsor = c.args.sponsors.now.after }))) (AreHostsMoved c.args.above.now c.args.sponsors.now)
    c.args.store.now c.hosts_by_above.new.self c.update_hosts_sponsor.new.self asked.0 c.update_hosts_sponsor.ensures
    (λ e. hosts-moved c.args.store.now.content c.args.above.now c.as_str.result.now c.args.sponsors.now c.in_ok-rows.rows c.as_str.ensures (asked.1 e) tested c.as_str-2.result.now c.as_str-2.ensures)
