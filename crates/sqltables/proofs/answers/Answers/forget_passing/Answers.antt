use Rattle.std.proofs.{Common.{ap, rules, ◌∙◌}, lemmas.Fn.filter_same}
use Rattle.sqltables.proofs.{Words.{Answer, lasting, lasts}, AnswerLemmas.few-left}
use Rattle.sqltables.proofs.answers.Answers.forget_passing.Goals as goal

pub invariant_of-self : goal.invariant_of-self
invariant_of-self c =
    few-left (λ (it : Answer). lasts it.tree) c.self.inside.items.items c.retain.new.self.items (filter_same _ _ _ (λ x b f' k. search rules) _ _ c.retain.ensures.filtered) c.self.invariant

pub returns : goal.returns
returns c = filter_same _ _ _ (λ x b f' k. search rules) _ _ c.retain.ensures.filtered ∙ ap lasting c.self.view_is
