use Rattle.std.proofs.{Common.{◌≡◌, ◌∙◌, ◌+◌, ◌<◌, ◌+ℤ◌, List, length, ap, subst, sym, arith, to_z, of_z}, lemmas.Int.ints}
use Rattle.std.specs.{Int.w128, List.AllByRecursion}
use Rattle.accounts.specs.{declared.line.Line.Line, Groups.{IsSmall, bag_in}, Lines.balance}
use Rattle.accounts.proofs.{GroupLaws.{length-add, small-add, sum-fits}, LineLaws.balance-add}
use Rattle.accounts.proofs.lines.Lines.add.Goals as goal

pub invariant_of-self-2 : goal.invariant_of-self-2
invariant_of-self-2 c =
    let old = bag_in c.self.inside.groups.entries in
    let new = bag_in c.put.new.groups.entries in
    let held = c.self.invariant.counted in
    let line = c.args.line in
    let more : length new ≡ length old + 1 = ap (λ (ls : List Line). length ls) c.in_ok-put.ensures.ok ∙ length-add line old in
    let few : length new < 4_611_686_018_427_387_904 = omega (arith, more, held.count, c.if-self.false) in
    let small = subst (AllByRecursion IsSmall) (sym c.in_ok-put.ensures.ok) (small-add line old c.amount.ensures.small held.small) in
    let amounts : to_z w128 (of_z w128 c.amount.result) ≡ c.amount.result = omega (arith, ints) in
    let before : to_z w128 (of_z w128 c.self.inside.balance) ≡ c.self.inside.balance = omega (arith, ints) in
    let back : to_z w128 (of_z w128 c.saturating_add-self-inside.result) ≡ c.saturating_add-self-inside.result = omega (arith, ints) in
    let sum : balance new ≡ balance old +ℤ to_z w128 (of_z w128 c.amount.result) =
    ap balance c.in_ok-put.ensures.ok ∙ balance-add line old ∙ omega (arith, ints, amounts, c.amount.ensures.value) in
    record {
      grouped = c.put.ensures.grouped;
      counted = record {
        count = omega (arith, more, held.count);
        few = few;
        small = small;
        sum = back ∙ sum-fits new few small old _ _ _ (before ∙ held.sum) sum c.saturating_add-self-inside.ensures;
      };
    }
