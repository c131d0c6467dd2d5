use Rattle.std.proofs.{Common.{◌==◌, not, sym, subst, rules}, lemmas.Fn.filter_same}
use Rattle.sqltables.proofs.{Words.{All, Answer, IsRight}, AnswerLemmas.{few-left, rights-after}}
use Rattle.sqltables.proofs.answers.Answers.forget_of.Goals as goal

pub invariant_of-self : goal.invariant_of-self
invariant_of-self c =
    few-left (λ (it : Answer). not (it.tree == c.args.tree)) c.self.inside.items.items c.retain.new.self.items (filter_same _ _ _ (λ x b f' k. search rules) _ _ c.retain.ensures.filtered) c.self.invariant

pub returns : goal.returns
returns c old new others right =
    rights-after c.args.tree old new others c.self.inside.items.items c.retain.new.self.items (filter_same _ _ _ (λ x b f' k. search rules) _ _ c.retain.ensures.filtered) (subst (All (IsRight old)) (sym c.self.view_is) right)
