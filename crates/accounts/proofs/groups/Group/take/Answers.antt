use Rattle.std.proofs.Common.{◌≡◌, ◌∙◌, ℕ, List, Option, None, Some, sym, ap}
use Rattle.std.specs.List.{list_any, position}
use Rattle.basis.specs.Bag.{same, taken}
use Rattle.basis.proofs.BagLaws.{position-met, position-missed, position-taken, taken-absent}
use Rattle.accounts.specs.{declared.line.Line.Line, Lines.{in_order, is_line}}
use Rattle.accounts.proofs.LineLaws.{line-told}
use Rattle.accounts.proofs.groups.Group.take.Goals as goal

at_place : (line : Line) (ls items : List Line) (r o : Option ℕ) → ls ≡ items → r ≡ position (is_line line) ls → r ≡ o → position (is_line line) items ≡ o
at_place line ls items r o same found is = ap (position (is_line line)) (sym same) ∙ sym found ∙ is

pub returns-in-None-clause-taken : goal.returns-in-None-clause-taken
returns-in-None-clause-taken c =
    let items = c.self.inside.lines.items in
    let nowhere = at_place c.args.line.now c.deref.result.now items c.place_of.result None c.deref.ensures.value c.place_of.ensures.value c.in-None.is in
    let missed = position-missed in_order c.args.line.now (is_line c.args.line.now) (line-told c.args.line.now) items nowhere in
    sym c.self.view_is ∙ sym (taken-absent in_order c.args.line.now items missed) ∙ ap (taken in_order c.args.line.now) c.self.view_is

pub returns-in-None-clause-there : goal.returns-in-None-clause-there
returns-in-None-clause-there c =
    let items = c.self.inside.lines.items in
    let nowhere = at_place c.args.line.now c.deref.result.now items c.place_of.result None c.deref.ensures.value c.place_of.ensures.value c.in-None.is in
    sym (position-missed in_order c.args.line.now (is_line c.args.line.now) (line-told c.args.line.now) items nowhere) ∙ ap (list_any (same in_order c.args.line.now)) c.self.view_is

pub returns-in-Some-clause-taken : goal.returns-in-Some-clause-taken
returns-in-Some-clause-taken c =
    let items = c.self.inside.lines.items in
    let met = at_place c.args.line.now c.deref.result.now items c.place_of.result (Some c.in-Some.at) c.deref.ensures.value c.place_of.ensures.value c.in-Some.is in
    c.remove.ensures.by_index.2 ∙ position-taken in_order c.args.line.now (is_line c.args.line.now) (line-told c.args.line.now) items c.in-Some.at met ∙ ap (taken in_order c.args.line.now) c.self.view_is

pub returns-in-Some-clause-there : goal.returns-in-Some-clause-there
returns-in-Some-clause-there c =
    let items = c.self.inside.lines.items in
    let met = at_place c.args.line.now c.deref.result.now items c.place_of.result (Some c.in-Some.at) c.deref.ensures.value c.place_of.ensures.value c.in-Some.is in
    sym (position-met in_order c.args.line.now (is_line c.args.line.now) (line-told c.args.line.now) items c.in-Some.at met) ∙ ap (list_any (same in_order c.args.line.now)) c.self.view_is
