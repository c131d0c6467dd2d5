use Rattle.std.proofs.Common.{◌≡◌, ◌∙◌, ℕ, List, Option, None, Some, ap, sym}
use Rattle.std.specs.{Prelude.is_some, List.{list_any, position}}
use Rattle.basis.specs.Bag.{add, same, taken}
use Rattle.basis.proofs.BagLaws.{position-met, position-missed}
use Rattle.accounts.specs.{declared.line.Line.Line, Groups.lines_at, Lines.{in_order, is_line, roid_numbers}}
use Rattle.accounts.proofs.{GroupLaws.{any-here, back}, LineLaws.line-told}
use Rattle.accounts.proofs.lines.Lines.has.Goals as goal

found : (line : Line) (ls : List Line) (r : Option ℕ) → r ≡ position (is_line line) ls → is_some r ≡ list_any (same in_order line) ls
found line ls None e = sym (position-missed in_order line (is_line line) (line-told line) ls (sym e))
found line ls (Some n) e = sym (position-met in_order line (is_line line) (line-told line) ls n (sym e))

here : (c : goal.After-is_some) → c.is_some.result ≡ list_any (same in_order c.args.line.now) (lines_at (roid_numbers c.args.line.now.roid) c.self.inside.groups.entries)
here c =
    c.is_some.ensures ∙ found c.args.line.now c.lines_at.result.now c.place_of.result c.place_of.ensures.value
    ∙ ap (list_any (same in_order c.args.line.now)) (c.lines_at.ensures ∙ ap (λ (key : List ℕ). lines_at key c.self.inside.groups.entries) c.key_of.ensures)

pub returns-clause-there : goal.returns-clause-there
returns-clause-there c = here c ∙ any-here c.args.line.now c.self.inside.groups.entries c.self.invariant.grouped ∙ ap (list_any (same in_order c.args.line.now)) c.self.view_is

pub returns-clause-back : goal.returns-clause-back
returns-clause-back c = λ there.
    ap (λ (ls : List Line). add in_order c.args.line.now (taken in_order c.args.line.now ls)) (sym c.self.view_is)
    ∙ back c.args.line.now c.self.inside.groups.entries c.self.invariant.grouped (sym (here c) ∙ there)
    ∙ c.self.view_is
