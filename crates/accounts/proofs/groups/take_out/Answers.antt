use Rattle.std.proofs.Common.{◌≡◌, ◌∙◌, ℕ, List, [], Option, Some, ap, sym}
use Rattle.std.specs.{Prelude.unwrap_or, BTreeMap.is_at, Cmp.Lexicographic.slice_cmp, List.list_any, Map.{lookup, set_value}, Ordering.nat_cmp}
use Rattle.basis.specs.Bag.{add, same}
use Rattle.accounts.specs.{declared.line.Line.Line, Groups.lines_at, Lines.{in_order, roid_numbers}}
use Rattle.accounts.proofs.GroupLaws.{back, gone, taken-grouped, taken-there}
use Rattle.accounts.proofs.groups.take_out.Goals as goal

pub returns-in_default-clause-taken : goal.returns-in_default-clause-taken
returns-in_default-clause-taken c =
    let key = ap (λ (key : List ℕ). lookup (is_at (slice_cmp nat_cmp key)) c.args.groups.now.entries) c.key_of.ensures in
    let none = ap (λ (o : Option (List Line)). list_any (same in_order c.args.line.now) (unwrap_or o [])) (sym (c.in_default.ensures.value ∙ key)) in
    rw c.get_mut.follows.holds-at-none (sym (gone c.args.line.now c.args.groups.now.entries c.requires none))

at_line : (c : goal.After-groups-2-1) → Some c.in-Some.group.now ≡ lookup (is_at (slice_cmp nat_cmp (roid_numbers c.args.line.now.roid))) c.args.groups.now.entries
at_line c = c.in-Some.ensures.value ∙ ap (λ (key : List ℕ). lookup (is_at (slice_cmp nat_cmp key)) c.args.groups.now.entries) c.key_of.ensures

after : (c : goal.After-groups-2-1) → (c.get_mut.follows.lender c.take.new.self).entries ≡ set_value (is_at (slice_cmp nat_cmp (roid_numbers c.args.line.now.roid))) c.args.groups.now.entries c.take.new.self
after c = (c.get_mut.follows.holds c.take.new.self).0 ∙ ap (λ (key : List ℕ). set_value (is_at (slice_cmp nat_cmp key)) c.args.groups.now.entries c.take.new.self) c.key_of.ensures

pub returns-clause-grouped : goal.returns-clause-grouped
returns-clause-grouped c =
    taken-grouped c.args.line.now c.args.groups.now.entries c.requires (c.get_mut.follows.lender c.take.new.self).entries c.in-Some.group.now c.take.new.self (at_line c) (after c)
    c.take.ensures.taken (c.get_mut.follows.holds c.take.new.self).4

pub returns-clause-taken : goal.returns-clause-taken
returns-clause-taken c =
    taken-there c.args.line.now c.args.groups.now.entries c.requires (c.get_mut.follows.lender c.take.new.self).entries c.in-Some.group.now c.take.new.self (at_line c) (after c) c.take.ensures.taken

there : (c : goal.After-groups-2-1) → list_any (same in_order c.args.line.now) (lines_at (roid_numbers c.args.line.now.roid) c.args.groups.now.entries) ≡ c.take.result
there c = ap (λ (o : Option (List Line)). list_any (same in_order c.args.line.now) (unwrap_or o [])) (sym (at_line c)) ∙ sym c.take.ensures.there

pub returns-clause-found : goal.returns-clause-found
returns-clause-found c = λ is.
    sym (back c.args.line.now c.args.groups.now.entries c.requires (there c ∙ is))
    ∙ ap (add in_order c.args.line.now) (sym (returns-clause-taken c))

pub returns-clause-missed : goal.returns-clause-missed
returns-clause-missed c = λ is.
    returns-clause-taken c ∙ gone c.args.line.now c.args.groups.now.entries c.requires (there c ∙ is)
