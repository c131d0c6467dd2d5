use Rattle.std.proofs.{Common.{◌≡◌, ◌++◌, ◌∷◌, ◌∙◌, List, ℕ, ap}, lemmas.List.Filters.dedup_is}
use Rattle.std.specs.{List.dedup, Str.bytes_eq}
use Rattle.objects.specs.Links.{in_order}
use Rattle.rdap.proofs.domain.contacts_of.Goals as goal

pub returns : goal.returns
returns c =
    let named : List (List ℕ) = (c.args.links.now.registrant ∷ c.args.links.now.admin) ++ c.args.links.now.tech in
    let names : c.deref.result.now ≡ named = c.deref.ensures.value ∙ c.in_ok-named_contacts.ensures in
    let sorted : c.into_vec-sorted.result.items ≡ in_order named =
    c.into_vec-sorted.ensures ∙ c.in_ok-in_order.ensures ∙ ap (λ (found : List (List ℕ)). in_order found) names in
    c.from_vec.ensures ∙ dedup_is _ _ _ c.dedup.ensures.filtered ∙ ap (λ (found : List (List ℕ)). dedup bytes_eq found) sorted
