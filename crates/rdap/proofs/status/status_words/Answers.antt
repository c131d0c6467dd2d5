use Rattle.std.proofs.{Common.{◌≡◌, ◌++◌, ◌∙◌, List, ℕ, ap, map}, lemmas.List.Filters.dedup_is}
use Rattle.std.specs.{List.dedup, Str.bytes_eq}
use Rattle.objects.specs.Links.{in_order}
use Rattle.rdap.specs.StatusWords.{grace_word, status_word}
use Rattle.rdap.proofs.status.status_words.Goals as goal

pub returns : goal.returns
returns c =
    let graces : List (List ℕ) = map grace_word c.args.states.now in
    let words : c.add_graces.new.words.items ≡ map status_word c.args.statuses.now ++ graces =
    c.in_ok-add_graces.ensures ∙ ap (λ (found : List (List ℕ)). found ++ graces) c.in_ok-words.ensures in
    let sorted : c.into_vec-sorted.result.items ≡ in_order (map status_word c.args.statuses.now ++ graces) =
    c.into_vec-sorted.ensures ∙ c.in_ok-in_order.ensures ∙ ap (λ (found : List (List ℕ)). in_order found) (c.deref.ensures.value ∙ words) in
    c.from_vec.ensures ∙ dedup_is _ _ _ c.dedup.ensures.filtered ∙ ap (λ (found : List (List ℕ)). dedup bytes_eq found) sorted
