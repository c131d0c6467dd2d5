use Rattle.std.proofs.{Common.{◌≡◌, ◌∙◌, ap, ℕ, List, arith, to_z, of_z}, lemmas.{Int.ints, List.Elements.same_from_all_zip, Map.Entries.entries_from_clone}}
use Rattle.std.specs.{Array.AllZipBelow, Int.w128}
use Rattle.accounts.specs.{declared.line.Line.Line, Groups.bag_in}
use Rattle.accounts.proofs.lines.LinesClone.clone.Goals as goal

same_groups : (c : goal.After-result-2-1) → c.in_ok-clone.field-0.entries ≡ c.self.inside.groups.entries
same_groups c =
    entries_from_clone (λ (x y : List ℕ). AllZipBelow (λ (a b : ℕ). b ≡ a) x y 3) (λ (v w : List Line). w ≡ v)
    (λ x y h. same_from_all_zip (λ (a b : ℕ). b ≡ a) x y h.whole (λ a b e. e)) (λ v w e. e)
    c.self.inside.groups.entries c.in_ok-clone.field-0.entries c.in_ok-clone.ensures.cases

pub invariant_of-result : goal.invariant_of-result
invariant_of-result c =
    let kept = c.self.invariant in
    let same : to_z w128 (of_z w128 c.self.inside.balance) ≡ c.self.inside.balance = omega (arith, ints) in
    rw (same_groups c) (record { grouped = kept.grouped; counted = record { count = kept.counted.count; few = kept.counted.few; small = kept.counted.small; sum = same ∙ kept.counted.sum } })

pub returns : goal.returns
returns c = record { cases = ap bag_in (same_groups c) ∙ c.self.view_is }
