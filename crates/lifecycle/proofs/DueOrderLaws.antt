-- What is due ties with itself alone.
use Rattle.std.specs.{Cmp.Lexicographic.slice_cmp, FinMap.{IsAntisymmetric, nat_cmp-IsAntisymmetric, slice_cmp-IsAntisymmetric}, Ordering.{nat_cmp, ordering_then}}
use Rattle.accounts.{specs.Lines.object_rank, proofs.{LineLaws.same-object, MessageLaws.then_equal}}
use Rattle.lifecycle.specs.DueObjects.{due_cmp}

pub due_cmp_only : IsAntisymmetric due_cmp
due_cmp_only d x e =
    let last = then_equal (ordering_then (nat_cmp d.due x.due) (nat_cmp (object_rank d.kind) (object_rank x.kind))) (slice_cmp nat_cmp d.name x.name) e in
    let first = then_equal (nat_cmp d.due x.due) (nat_cmp (object_rank d.kind) (object_rank x.kind)) last.0 in
    let due = nat_cmp-IsAntisymmetric d.due x.due first.0 in
    let kind = same-object d.kind x.kind (nat_cmp-IsAntisymmetric (object_rank d.kind) (object_rank x.kind) first.1) in
    let name = slice_cmp-IsAntisymmetric nat_cmp-IsAntisymmetric d.name x.name last.1 in
    λ i. record { due = due i; kind = kind i; name = name i }
