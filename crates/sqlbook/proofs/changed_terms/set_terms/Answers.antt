use Rattle.std.proofs.Common.{◌≡◌, Ok, Option, sym, subst}
use Rattle.sqlbook.specs.Suiting.{AreRedated}
use Rattle.sqlbook.proofs.{Words.{asked-then, Content, days_of_rows, IsSetOver, Schedule}, MeaningLemmas.alters}
use Rattle.sqlbook.proofs.changed_terms.set_terms.Goals as goal

pub returns : goal.returns
returns g c =
    let value = c.args.terms in
    let before = c.in_ok-before.before in
    let old = c.args.store.now in
    let new = c.set_over-set.new.store in
    let asked = c.in_ok-before.ensures.found in
    let made = c.in_ok-set.ensures {u = tt} in
    let way = IsSetOver before value in
    let set = asked-then (λ (a b : Content). days_of_rows a ≡ before → way a b) way old c.days.new.store new asked.0 made (λ t it. it (sym (asked.1 (made.clean t)))) in
    record {
      held = alters {A = Unit {0}} (Ok tt) way _ old new set (λ it. (it.set.stored, it.set.sums));
      lines = λ t. (set.content t).set.lines;
      ends = λ t. subst (λ (o : Option Schedule). AreRedated o value.days new.content) (asked.1 (made.clean t)) (set.content t).ends;
    }
