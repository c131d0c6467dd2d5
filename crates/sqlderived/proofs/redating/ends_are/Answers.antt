use Rattle.std.proofs.Common.{◌≡◌, true, List, sym, ap, subst, ◌∙◌}
use Rattle.sqlderived.proofs.{Words.{DomainRow, is_end, is_timed, list_all}, RedateLemmas.all-timed}
use Rattle.sqlderived.proofs.redating.ends_are.Goals as goal

pub returns-then-all_timed : goal.returns-then-all_timed
returns-then-all_timed g c =
    let rows = c.in_ok-rows.ensures in
    (rows.0, λ e. subst (λ (xs : List DomainRow). list_all (is_end c.args.days.now) xs ≡ true) (rows.1 e) (all-timed c.args.days.now c.in_ok-rows.rows (ap (list_all (is_timed c.args.days.now)) (sym c.as_slice.ensures) ∙ sym c.all_timed.ensures ∙ c.if-all_timed.true)))
