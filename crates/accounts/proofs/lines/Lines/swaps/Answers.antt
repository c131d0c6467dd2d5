use Rattle.std.proofs.Common.{◌∙◌, Some, Result, Ok, Err, ap, sym}
use Rattle.std.specs.Result.{IfOk}
use Rattle.basis.specs.Bag.{remade}
use Rattle.objects.specs.declared.roid.Roid.{Roid}
use Rattle.accounts.specs.{Groups.lines_at, Lines.{in_order, roid_numbers, swapped_all, swaps_of}}
use Rattle.accounts.proofs.GroupLaws.{swaps-found}
use Rattle.accounts.proofs.lines.Lines.swaps.Goals as goal

if-ok : {A E : Type 0} {P Q : A → Type 0} (r : Result A E) → ((x : A) → P x → Q x) → IfOk r P → IfOk r Q
if-ok (Ok x) f p = f x p
if-ok (Err e) f p = tt

pub returns : goal.returns
returns g c =
    let change = g.C.LineChange.changed c.args.change.now in
    let domain = g.C.LineChange.domain c.args.change.now in
    let key = c.key_of.ensures ∙ ap (λ (roid : Roid). roid_numbers (Some roid)) c.domain.ensures in
    if-ok c.swaps_of.result
    (λ swaps made.
    ap (λ xs. swapped_all xs c.args.self.now) (made ∙ ap (swaps_of change) (c.lines_at-lines.ensures ∙ ap (λ k. lines_at k c.self.inside.groups.entries) key))
    ∙ ap (swapped_all (swaps_of change (lines_at (roid_numbers (Some domain)) c.self.inside.groups.entries))) (sym c.self.view_is)
    ∙ swaps-found domain change (g.met.C.LineChange.elsewhere c.args.change.now) c.self.inside.groups.entries c.self.invariant.grouped
    ∙ ap (remade in_order change) c.self.view_is)
    c.swaps_of.ensures
