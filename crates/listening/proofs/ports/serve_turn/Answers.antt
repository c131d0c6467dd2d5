use Rattle.listening.specs.Ports.{office, public}
use Rattle.listening.proofs.ports.serve_turn.Goals as goal

pub returns-in-Public-clause-served : goal.returns-in-Public-clause-served
returns-in-Public-clause-served g c =
    let served = c.serve_public.ensures.served in
    (public served.0, served.1)

pub returns-in-Office-clause-served : goal.returns-in-Office-clause-served
returns-in-Office-clause-served g c =
    let served = c.serve_office.ensures.served in
    (office served.0, (served.1, c.serve_office.ensures.follows))
