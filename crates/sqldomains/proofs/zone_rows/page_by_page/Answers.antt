use Rattle.std.proofs.Common.{filter, take, ap, subst, sym, ◌∙◌}
use Rattle.sqldomains.proofs.Words.{Content, domain_after_id, ends_of, reads-on, with_page}
use Rattle.sqldomains.proofs.PageLemmas.{WalksOn, walk-begins, walk-ends, walk-goes-on}
use Rattle.sqldomains.proofs.zone_rows.page_by_page.Goals as goal

pub pages-init : goal.pages-init
pages-init g c =
    let asked = c.in_ok-page.ensures {u = tt} in
    (asked.0, λ e. subst (λ all. WalksOn c.args.store.now.content 63 all c.in_ok-page.page) (sym c.new-all.ensures) (walk-begins c.args.store.now.content 63 c.in_ok-page.page (asked.1 e)))

pub pages-preserved : goal.pages-preserved
pages-preserved g c =
    let old = c.args.store.now in
    let before = c.pages.invariant.0 in
    let told = c.in_ok-all.ensures {u = tt} in
    let asked = c.in_ok-page-2.ensures {u = tt} in
    let gathered = reads-on old c.pages.store c.with_page.new.store before told.0 in (
      reads-on old c.with_page.new.store c.domains_after.new.self gathered asked.0,
      λ e.
          let clean = asked.0.clean e in
          let then = told.0.clean clean in
          walk-goes-on old.content 63 (c.show_consistent.ensures (before.clean then)).keyed.domains c.pages.all c.in_ok-all.all c.in_ok-page-2.page c.pages.page c.in-Some.ends
          (sym (c.ends_of.ensures ∙ ap ends_of c.as_slice.ensures) ∙ c.in-Some.is) (c.pages.invariant.1 then)
          ((λ i. with_page (sym (before.content then) i) c.in-Some.ends c.pages.all c.pages.page) ∙ told.1 clean)
          (asked.1 e ∙ ap (λ (xs : Content). take 64 (filter (domain_after_id c.in-Some.ends.1) xs.domains)) (gathered.content clean)),
    )

pub returns-in_default : goal.returns-in_default
returns-in_default g c =
    let before = c.pages.invariant in
    (before.0, λ e. walk-ends c.args.store.now.content 63 c.pages.all c.pages.page (sym (c.ends_of.ensures ∙ ap ends_of c.as_slice.ensures) ∙ c.in_default.is) (before.1 e))
