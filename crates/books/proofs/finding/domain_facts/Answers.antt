use Rattle.std.proofs.Common.{Option, option_map, ap, ◌∙◌, List, ℕ}
use Rattle.std.specs.FinMap.{get}
use Rattle.facts.specs.Facts.{domain_facts_of, lookups}
use Rattle.model.specs.View.{domain_sight}
use Rattle.states.proofs.CallLemmas.{finds-on}
use Rattle.books.proofs.finding.domain_facts.Goals as goal

pub returns : goal.returns
returns g c =
    let p = c.args.policy.now in
    let r = c.args.caller in
    let x = c.args.command.now in
    let name = c.args.name.now in
    let start = g.R.Records.kept c.args.records.now in
    let looked = g.R.Records.kept c.domain_seen.new.records in
    let after = g.R.Records.kept c.domain_facts_of.new.records in
    let found = lookups p r x start.content.registry in
    finds-on c.domain_facts_of.result start looked after
    (domain_facts_of (lookups p r x looked.content.registry) x name c.in_ok-seen.seen) (domain_facts_of found x name (found.domain name))
    c.in_ok-seen.ensures.0
    (λ e. (λ i. domain_facts_of (lookups p r x (c.in_ok-seen.ensures.0.content e i).registry) x name c.in_ok-seen.seen)
    ∙ ap (domain_facts_of found x name) (c.in_ok-seen.ensures.1 e ∙ ap (λ (secret : Option (List ℕ)). option_map (domain_sight p r start.content.registry secret) (get start.content.registry.domains name)) c.presented-presented.ensures))
    c.domain_facts_of.ensures
