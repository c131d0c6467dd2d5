use Rattle.takeover.proofs.program.migrate_on.Goals as goal

pub returns-clause-tried : goal.returns-clause-tried
returns-clause-tried g c = (_, _, c.in-Ok.ensures.adopted, c.in-Ok-adopt.ensures.adopted, c.take_over-exit.ensures)
