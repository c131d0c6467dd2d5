use Rattle.eppwire.proofs.LoginLemmas.{isolated_logins}
use Rattle.eppwire.proofs.laws.logins_are_isolated.Goals as goal

pub returns : goal.returns
returns c = isolated_logins
