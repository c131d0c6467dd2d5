use Rattle.sqltables.proofs.{Words.{no_schema, registry, state}, SchemaLemmas.{creation_defines, made_empty}}
use Rattle.sqltables.proofs.schema.create.Goals as goal

pub returns-clause-makes : goal.returns-clause-makes
returns-clause-makes g c none is_open inside clean = c.define.ensures.does no_schema registry creation_defines (record { is = none; empty = tt }) is_open inside clean

pub returns-clause-empty : goal.returns-clause-empty
returns-clause-empty g c none is_open inside clean =
    made_empty _ c.define.result (state g.S.Store c.define.new.conn).now (c.define.ensures.does no_schema registry creation_defines (record { is = none; empty = tt }) is_open inside clean).made
