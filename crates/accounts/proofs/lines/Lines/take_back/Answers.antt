use Rattle.std.proofs.{Common.{◌≡◌, ◌∙◌, ◌+◌, ◌<◌, ◌+ℤ◌, List, length, ap, subst, arith, to_z, of_z}, lemmas.Int.ints}
use Rattle.std.specs.{Int.w128, List.AllByRecursion}
use Rattle.basis.specs.Bag.{add}
use Rattle.accounts.specs.{declared.line.Line.Line, Groups.{IsSmall, bag_in}, Lines.{amount, balance, in_order}}
use Rattle.accounts.proofs.{GroupLaws.{length-add, rest-fits, small-rest}, LineLaws.balance-add}
use Rattle.accounts.proofs.lines.Lines.take_back.Goals as goal

fewer : (line : Line) (old new : List Line) → old ≡ add in_order line new → length old ≡ length new + 1
fewer line old new e = ap (λ (ls : List Line). length ls) e ∙ length-add line new

pub overflow_sub-self : goal.overflow_sub-self
overflow_sub-self c = omega (arith, c.self.invariant.counted.count, fewer c.args.line.now (bag_in c.self.inside.groups.entries) (bag_in c.take_out.new.groups.entries) (c.take_out.ensures.found c.if-take_out.true))

pub invariant_of-self : goal.invariant_of-self
invariant_of-self c =
    let old = bag_in c.self.inside.groups.entries in
    let new = bag_in c.take_out.new.groups.entries in
    let held = c.self.invariant.counted in
    let found = c.take_out.ensures.found c.if-take_out.true in
    let less = fewer c.args.line.now old new found in
    let few : length new < 4_611_686_018_427_387_904 = omega (arith, held.few, less) in
    let small = small-rest c.args.line.now new (subst (AllByRecursion IsSmall) found held.small) in
    let amounts : to_z w128 (of_z w128 c.amount.result) ≡ c.amount.result = omega (arith, ints) in
    let before : to_z w128 (of_z w128 c.self.inside.balance) ≡ c.self.inside.balance = omega (arith, ints) in
    let back : to_z w128 (of_z w128 c.saturating_sub-self-inside.result) ≡ c.saturating_sub-self-inside.result = omega (arith, ints) in
    let sum : balance old ≡ amount c.args.line.now +ℤ balance new = ap balance found ∙ balance-add c.args.line.now new in
    record {
      grouped = c.take_out.ensures.grouped;
      counted = record {
        count = omega (arith, held.count, less);
        few = few;
        small = small;
        sum = back ∙ rest-fits new few small old (amount c.args.line.now) _ _ _ (before ∙ held.sum) (amounts ∙ c.amount.ensures.value) sum c.saturating_sub-self-inside.ensures;
      };
    }
