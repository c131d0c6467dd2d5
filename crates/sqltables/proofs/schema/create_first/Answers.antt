use Rattle.sqltables.proofs.{Words.{first_registry, no_schema}, SchemaLemmas.first_creation_defines}
use Rattle.sqltables.proofs.schema.create_first.Goals as goal

pub returns : goal.returns
returns g c none is_open inside clean = c.define.ensures.does no_schema first_registry first_creation_defines (record { is = none; empty = tt }) is_open inside clean
