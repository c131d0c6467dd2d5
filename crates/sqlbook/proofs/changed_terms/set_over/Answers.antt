use Rattle.std.proofs.Common.{◌≡◌, Option, Some, inl, sym, ap, subst, ◌∙◌}
use Rattle.sqlbook.proofs.Words.{asked-turns, Changes, Content, days_of_rows, IsSetOver, IsTermsSet, reads-same, Schedule}
use Rattle.sqlbook.proofs.TermLemmas.{set-down}
use Rattle.sqlbook.proofs.changed_terms.set_over.Goals as goal

pub returns : goal.returns
returns g c =
    subst (λ (o : Option Schedule). Changes c.set_others.result (λ (a b : Content). days_of_rows a ≡ o → IsSetOver o c.args.terms.now a b) c.args.store.now c.set_others.new.store) (sym c.in-Some.is) c.set_others.ensures

-- the days are those that were put down
pub returns-then-is_same : goal.returns-then-is_same
returns-then-is_same g c =
    let value = c.args.terms.now in
    let old = c.args.store.now in
    let new = c.set_terms.new.store in
    let same = c.is_same.ensures.same c.if-is_same.true in
    subst (λ (o : Option Schedule). Changes c.set_terms.result (λ (a b : Content). days_of_rows a ≡ o → IsSetOver o value a b) old new) (sym c.in-Some.is)
    (asked-turns c.set_terms.result (IsTermsSet value) _ old old new (reads-same old) c.set_terms.ensures
    (λ t it were. record { set = set-down value old.content new.content it (inl (were ∙ ap (λ (s : Schedule). Some s) same)); ends = inl same }))
