use Rattle.takeover.proofs.program.take_over.Goals as goal

pub returns : goal.returns
returns g c = (c.migrate.result, c.migrate.ensures, c.exit_after.ensures)
