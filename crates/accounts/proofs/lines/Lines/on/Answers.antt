use Rattle.std.proofs.Common.{◌∙◌, ℕ, List, ap}
use Rattle.std.specs.List.{filter}
use Rattle.basis.specs.Bag.{bag_of}
use Rattle.accounts.specs.{Groups.lines_at, Lines.{in_order, is_on}}
use Rattle.accounts.proofs.GroupLaws.{on-found}
use Rattle.accounts.proofs.lines.Lines.on.Goals as goal

pub returns : goal.returns
returns c =
    ap (bag_of in_order) (c.lines_at.ensures ∙ ap (λ (key : List ℕ). lines_at key c.self.inside.groups.entries) c.key_of.ensures)
    ∙ on-found c.args.roid.now c.self.inside.groups.entries c.self.invariant.grouped
    ∙ ap (filter (is_on c.args.roid.now)) c.self.view_is
