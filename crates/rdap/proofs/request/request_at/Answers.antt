use Rattle.std.proofs.{Common.{rules, Bor, ◌≡◌, ◌∙◌, List, ℕ, Some, None, ap, refl, subst, sym}, lemmas.Result.IfOk-weaker}
use Rattle.matchit.specs.{Params.{AllText, walk}, Router.RouteOf, Seek.first}
use Rattle.rdap.specs.{Routes.{name_of, request_for, routes}, declared.routes.Kind.Kind}
use Rattle.rdap.proofs.RouteLemmas.{Routed, by_route, name_read, no_route}
use Rattle.rdap.proofs.request.request_at.Goals as goal

pub returns-in_default : goal.returns-in_default
returns-in_default c =
    let none : first routes c.args.path.now ≡ None = rw (sym c.routes.invariant) (search rules) in
    sym (no_route c.args.path.now c.utf8.path none)

pub returns : goal.returns
returns c =
    let params = c.in-Ok.found.params in
    let route : RouteOf Kind = record { pattern = params.pattern.now; text = params.text.now; names = params.names.now; value = c.in-Ok.found.value.now } in
    let found : first routes c.args.path.now ≡ Some route = rw (sym c.routes.invariant) c.in-Ok.ensures.found in
    let routed : Routed c.args.path.now (Some route) = by_route c.args.path.now route c.utf8.path found in
    let same : params.path.now ≡ c.args.path.now = c.in-Ok.ensures.path in
    let texts : AllText (walk route.pattern route.text params.path.now route.names 0 0) =
    subst (λ (path : List ℕ). AllText (walk route.pattern route.text path route.names 0 0)) (sym same) routed.0 in
    let name : c.unwrap_or-name.result.now ≡ name_of route c.args.path.now =
    ap (λ (it : Bor (List ℕ)). it.now) c.unwrap_or-name.ensures ∙ name_read c.get.result _ _ refl (c.get.ensures texts)
    ∙ ap (λ (path : List ℕ). name_of route path) same in
    IfOk-weaker c.request_for.result _ _ (λ request is. is ∙ ap (λ (it : List ℕ). request_for route.value it) name ∙ routed.1) c.request_for.ensures
