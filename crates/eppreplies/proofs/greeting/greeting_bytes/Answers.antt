use Rattle.std.proofs.{Common.{ap, ◌∙◌}, lemmas.Result.IfOk-weaker}
use Rattle.serde_json.specs.Written.{compact_text, has_float}
use Rattle.eppreplies.proofs.Floats.{greeting_plain}
use Rattle.eppreplies.proofs.greeting.greeting_bytes.Goals as goal

pub returns : goal.returns
returns c =
    let value = c.in_ok-greeting_value.ensures in
    IfOk-weaker c.to_vec.result _ _ (λ bytes h. h (ap has_float value ∙ greeting_plain c.args.date) ∙ ap compact_text value) c.to_vec.ensures.text
