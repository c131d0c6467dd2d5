use Rattle.std.proofs.Common.{refl, ◌∙◌}
use Rattle.model.specs.Lapse.{lapsed}
use Rattle.isolation.specs.Public.{public_part}
use Rattle.runs.proofs.laws.look_ups_make_runs.Goals as goal

pub returns : goal.returns
returns g c = record {
  look_ups = λ p find lapses moment before after found public is. (
    public_part p (lapsed p moment before),
    record { answered = refl; left = is.left },
    is.answer_is ∙ public.1 (lapsed p moment before),
  );
  inspections = λ p find lapses moment before after found is.
      (lapsed p moment before, record { answered = refl; left = is.left }, is.answer_is);
}
