use Rattle.std.proofs.Common.{rules, ap, subst, sym, ◌∙◌, nat_le, FitsSigned, w64, to_z-of_z}
use Rattle.sqlderived.proofs.{Words.{exact_in, IsConsistent}, HeldLemmas.count-found}
use Rattle.sqlderived.proofs.holding.is_at_holding_limit.Goals as goal

pub returns-in-Some : goal.returns-in-Some
returns-in-Some g c =
    let found = c.in_ok-row.ensures.row in
    let fits : FitsSigned w64 c.held_in.result = search rules in (
      found.0,
      λ clean right.
          ap (nat_le c.args.most)
          (count-found c.args.store.now.content c.args.registrar c.in_ok-row.row c.in-Some.count (subst IsConsistent (found.0.content clean) (c.show_consistent.ensures clean)) c.in_ok-row.ensures.place (found.1 clean) right
          (ap exact_in (sym c.held_in.ensures ∙ sym (to_z-of_z fits)) ∙ sym c.in-Some.ensures.value)),
    )
