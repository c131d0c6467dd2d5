use Rattle.std.proofs.Common.{ap, [], ◌∷◌}
use Rattle.sqlite_value.specs.declared.value.Value.{Value}
use Rattle.sqltables.proofs.WritingLemmas.{alters-by, bound-then, update_hosts_sponsor}
use Rattle.sqltables.proofs.store.RowStore.update_hosts_sponsor.Goals as goal

pub write-requires-clause-means : goal.write-requires-clause-means
write-requires-clause-means g c = (_, alters-by (bound-then c.to_sql.ensures (ap (λ (v : Value). v ∷ []) c.maybe_number.ensures)) (update_hosts_sponsor c.args.above.now c.args.sponsor))

pub returns : goal.returns
returns g c = c.write.ensures _ (alters-by (bound-then c.to_sql.ensures (ap (λ (v : Value). v ∷ []) c.maybe_number.ensures)) (update_hosts_sponsor c.args.above.now c.args.sponsor))
