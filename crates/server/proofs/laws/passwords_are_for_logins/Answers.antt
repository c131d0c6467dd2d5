use Rattle.server.proofs.SessionRunLemmas.{passwords-are-for-logins}
use Rattle.server.proofs.laws.passwords_are_for_logins.Goals as goal

pub returns : goal.returns
returns c = passwords-are-for-logins
