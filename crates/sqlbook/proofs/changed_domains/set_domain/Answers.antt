use Rattle.std.proofs.Common.{◌≡◌, IfSome, Ok, Option, subst}
use Rattle.sqlbook.proofs.Words.{are_right, asked-then, capped, Content, Domain, domain_set, due_at, HaveEnds, IsReplacedPosting, maybe_posted}
use Rattle.sqlbook.proofs.{Words.{rules_with, stored_of}, MeaningLemmas.alters, PostingLemmas.put-posting}
use Rattle.sqlbook.proofs.changed_domains.set_domain.Goals as goal

pub returns : goal.returns
returns g c =
    let name = c.args.name in
    let after = c.args.domain in
    let due = c.due_of-due.result in
    let days = c.args.policy.now.days in
    let made = maybe_posted c.args.policy.now c.args.posts in
    let before = c.in_ok-before.before in
    let old = c.args.store.now in
    let new = c.replace_posting-replaced.new.store in
    let asked = c.in_ok-before.ensures {u = tt} in
    let replaced = c.in_ok-replaced.ensures {u = tt} in
    let way = λ (xs ys : Content). ((stored_of ys ≡ domain_set name after (made (stored_of xs))) × (are_right ys ≡ are_right xs)) × HaveEnds xs ys in
    let all = asked-then (IsReplacedPosting name made before after due) way old c.found.new.store new asked.0 replaced
    (λ e it. put-posting name made days before after due old.content new.content (asked.1 (replaced.clean e)).0 (asked.1 (replaced.clean e)).1 it
    (λ d is. subst (λ (o : Option Domain). IfSome o (λ (x : Domain). due ≡ capped (due_at (rules_with days) x))) is c.due_of-due.ensures)) in
    record { made = alters {A = Unit {0}} (Ok tt) way _ old new all (λ it. it.0); ends = λ clean. (all.content clean).1 }
