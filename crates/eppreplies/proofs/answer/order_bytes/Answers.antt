use Rattle.std.proofs.{Common.{ap, ◌∙◌}, lemmas.Result.IfOk-weaker}
use Rattle.serde_json.specs.Written.{compact_text, has_float}
use Rattle.eppreplies.proofs.Floats.{answer_plain}
use Rattle.eppreplies.proofs.answer.order_bytes.Goals as goal

pub returns : goal.returns
returns c =
    let value = c.in_ok-answer_value.ensures in
    IfOk-weaker c.to_vec.result _ _ (λ bytes h. h (ap has_float value ∙ answer_plain c.args.code c.args.done) ∙ ap compact_text value) c.to_vec.ensures.text
