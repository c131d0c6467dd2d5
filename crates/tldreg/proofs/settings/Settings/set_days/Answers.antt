use Rattle.std.proofs.lemmas.Result.{err_from_is_err_and}
use Rattle.tldreg.proofs.settings.Settings.set_days.Goals as goal

pub returns-in_err-number_of : goal.returns-in_err-number_of
returns-in_err-number_of c =
    let gave = err_from_is_err_and c.from_residual.result c.from_residual.ensures.1 in
    rw (gave.1, gave.2) (c.in_err-number_of.ensures.0, λ settings says. c.in_err-number_of.ensures.1 says.0 says.1)
