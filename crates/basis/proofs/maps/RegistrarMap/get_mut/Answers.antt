use Rattle.std.proofs.Common.{◌≡◌, MutBor, Option, Some, None, refl, sym, subst, ap, ◌∙◌}
use Rattle.std.specs.{Cmp.nat_cmp_total, FinMap.nat_cmp-IsAntisymmetric, Option.{IsSome, OnSome, option_copied_mut}, Ordering.nat_cmp}
use Rattle.std.specs.FinMap as map
use Rattle.basis.proofs.MapLemmas.{entries_insert, get_placed}
use Rattle.basis.proofs.maps.RegistrarMap.get_mut.Goals as goal

-- where a value was found
on-found : {X A : Type 0} (r : Option (MutBor X)) (o : Option X) → option_copied_mut r ≡ o → (IsSome o → A) → OnSome r A
on-found None o e there = tt
on-found (Some x) o e there = there (subst IsSome e refl)

pub returns : goal.returns
returns g c =
    let es = c.self.inside.tree.entries in
    let written = λ (w : g.row.V.Denot).
    on-found c.get_mut.result _ c.get_mut.ensures.value (λ there.
    entries_insert nat_cmp nat_cmp_total nat_cmp-IsAntisymmetric es (c.get_mut.follows.lender w).entries c.place.result w ((c.get_mut.follows.holds w).3 there).0
    ∙ ap (λ m. map.insert m c.place.result w) c.self.view_is ∙ ap (λ k. map.insert c.args.self.now k w) c.place.ensures) in
    let kept = ap (λ t. map.from_entries t.entries) c.get_mut.follows.holds-at-none ∙ c.self.view_is in
    let value = c.get_mut.ensures.value ∙ sym (get_placed es c.place.result) ∙ ap (λ m. map.get m c.place.result) c.self.view_is ∙ ap (map.get c.args.self.now) c.place.ensures in
    ((refl, written, kept), record { writes_back = tt; value = value })
