use Rattle.std.proofs.Common.{◌≡◌, Some, refl, sym, subst, ap, ◌∙◌}
use Rattle.sqlite_keyed.specs.Keyed.{insert_by}
use Rattle.sqlaccounts.proofs.CallLemmas.{then-kept}
use Rattle.sqlrows.proofs.StateLemmas.{then-became, then-made}
use Rattle.sqlrows.specs.Read.{rows_of}
use Rattle.sqltables.specs.{Content.Content, inner.Content.metas_to, Meta.metas}
use Rattle.sqlterms.specs.{inner.{Changes.{ArePutBeside, IsTermsSet}, Meta.with_terms_columns}, Terms.terms_of_rows}
use Rattle.sqlterms.proofs.TermsLemmas.{terms_are_set}
use Rattle.sqlterms.proofs.writing.write_terms.Goals as goal

pub returns : goal.returns
returns g c =
    let old = c.args.store.now in
    let beside = c.put_beside.new.store in
    let value = c.args.value.now in
    let e = c.in_ok-meta.ensures {u = tt} in
    let read = c.in_ok-read.ensures.found in
    let row = c.in_ok-row.row in
    let made = c.in_ok-put_beside.ensures {u = tt} in
    let with-row = λ (xs : Content). metas_to (λ rows. insert_by metas.key rows row) xs in
    let one = λ (xs ys : Content). (ys ≡ with-row xs) × (xs.metas ≡ rows_of c.in_ok-meta.meta) in
    let two = λ (xs ys : Content). ArePutBeside (with-row xs) ys × (xs.metas ≡ rows_of c.in_ok-meta.meta) in
    let three = λ (xs ys : Content). (ys ≡ xs) × (terms_of_rows xs ≡ Some value) in
    let put = then-made with-row one old c.maybe_meta.new.store c.put_meta.new.self e.0 (c.in_ok-put_meta.ensures {u = tt}) (λ clean. (refl, e.1 clean)) in
    let all = then-became one ArePutBeside two old c.put_meta.new.self beside put made (λ _ is it. (subst (λ (xs : Content). ArePutBeside xs beside.content) is.0 it, is.1)) in
    then-became two three (IsTermsSet value) old beside c.terms.new.store all
    (then-kept three beside c.terms.new.store read.0 made.opened (λ clean. (refl, sym (read.1 clean) ∙ c.are-same.ensures.0 c.if-not-same.false)))
    (λ _ is it. subst (IsTermsSet value old.content) (sym it.0)
    (terms_are_set old.content beside.content c.in_ok-meta.meta value c.in_ok-labels.labels row is.1
    (c.in_ok-row.ensures {u = tt} ∙ ap (with_terms_columns value c.in_ok-labels.labels) c.meta_or_new.ensures) is.0 it.1))
