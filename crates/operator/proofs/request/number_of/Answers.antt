use Rattle.std.proofs.lemmas.{Fmt.IsAscii-from_digits, Str.IsUtf8-from_ascii}
use Rattle.operator.proofs.request.number_of.Goals as goal

pub returns-in_default : goal.returns-in_default
returns-in_default c = λ numeral. c.in_default.ensures.cases.0 (IsUtf8-from_ascii c.args.digits.now (IsAscii-from_digits c.args.digits.now numeral.0.1))
