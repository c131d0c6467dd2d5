use Rattle.std.proofs.{Common.{rules, ◌≡◌}, lemmas.List.Sorted.answers_always}
use Rattle.statements.specs.Tables.{place}
use Rattle.statements.proofs.TimeLemmas.{sorted_lines}
use Rattle.statements.proofs.in_time.by_moment.Goals as goal

pub returns : goal.returns
returns c =
    sorted_lines c.args.lines.now c.in_ok-sorted.sorted.items c.sort_by_key.new.self.items c.in_ok-sorted.ensures c.sort_by_key.ensures.permutation
    (c.in_ok-sort_by_key.ensures.sorted place (answers_always _ (λ a r. r ≡ place a.0.now) _ (λ f a r f' called. search rules)))
