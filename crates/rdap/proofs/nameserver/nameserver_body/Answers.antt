use Rattle.std.proofs.{Common.{ap, ◌∙◌}, lemmas.Result.IfOk-weaker}
use Rattle.serde_json.specs.Written.{compact_text, has_float}
use Rattle.rdap.proofs.Plain.{nameserver_plain}
use Rattle.rdap.proofs.nameserver.nameserver_body.Goals as goal

pub returns : goal.returns
returns c =
    let value = c.in_ok-nameserver_value.ensures in
    IfOk-weaker c.to_vec.result _ _ (λ bytes h. h (ap has_float value ∙ nameserver_plain c.args.name.now c.args.face.now) ∙ ap compact_text value) c.to_vec.ensures.text
