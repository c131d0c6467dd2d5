use Rattle.std.proofs.Common.{◌≡◌, ◌∙◌, refl, sym, subst}
use Rattle.sqlaccounts.proofs.CallLemmas.{then-kept}
use Rattle.sqlrows.proofs.StateLemmas.{then-became}
use Rattle.sqltables.specs.Content.{Content}
use Rattle.sqlterms.specs.inner.Changes.{IsTermsSet}
use Rattle.sqlterms.proofs.TermsLemmas.{terms_are_there}
use Rattle.sqlterms.proofs.writing.set_terms.Goals as goal

pub returns : goal.returns
returns g c =
    let way = IsTermsSet c.args.value.now in
    let old = c.args.store.now in
    let new = c.write_terms.new.store in
    let same = λ (a b : Content). b ≡ a in
    then-became same way way old c.terms.new.store new (then-kept same old c.terms.new.store c.in_ok-there.ensures.found.0 c.requires (λ _. refl)) (c.in_ok-write_terms.ensures {u = tt})
    (λ _ is it. subst (λ (a : Content). way a new.content) is it)

-- where they are there
pub returns-then-are : goal.returns-then-are
returns-then-are g c =
    let found = c.in_ok-there.ensures.found in
    then-kept (IsTermsSet c.args.value.now) c.args.store.now c.terms.new.store found.0 c.requires
    (λ clean. terms_are_there c.args.store.now.content c.args.value.now (sym (found.1 clean) ∙ c.are.ensures.0 c.if-are.true))
