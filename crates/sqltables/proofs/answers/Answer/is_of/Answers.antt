use Rattle.std.proofs.{Common.{refl, sym, ◌∙◌}, lemmas.Slice.Eq.slice_eq-Decides}
use Rattle.std.specs.Cmp.{unsigned_Decides}
use Rattle.sqltables.proofs.AnswerLemmas.{same_bound}
use Rattle.sqltables.proofs.answers.Answer.is_of.Goals as goal

pub returns : goal.returns
returns c same = (
  sym c.as_slice.ensures.value ∙ (slice_eq-Decides unsigned_Decides c.as_slice.result.now c.as_bytes.result.now c.eq.result c.eq.ensures).0 same ∙ c.as_bytes.ensures.value,
  same_bound c.args.self.now.params c.args.params.now (c.if-not-are_same.ensures refl),
)
