use Rattle.std.proofs.Common.{Some, refl, subst}
use Rattle.sqlobjects.proofs.Words.{hosts, hosts_to, insert_by, IsHostFound, IsHostRow, IsRowTaken, reads-on, then-made}
use Rattle.sqlobjects.proofs.host_names.take_row.Goals as goal

pub returns : goal.returns
returns g c =
    let old = c.args.store.now in
    let from = c.args.from.now in
    let host = c.args.host.now in
    let found = c.in_ok-found.found in
    let row = c.in_ok-row.row in
    let free = c.in_ok-check_free.ensures {u = tt} in
    let there = c.in_ok-found.ensures in
    let again = c.in_ok-row.ensures in
    let both = reads-on old c.check_free.new.store c.row_to_rename.new.store free.0 there.0 in
    then-made (hosts_to (λ rows. insert_by hosts.key rows row)) (IsRowTaken from host row) old c.row_again.new.store c.put_host.new.self
    (reads-on old c.row_to_rename.new.store c.row_again.new.store both again.0) (c.in_ok-put_host.ensures {u = tt})
    (λ clean. record {
      free = free.1 (there.0.clean (again.0.clean clean));
      found = found;
      was = subst (λ xs. IsHostFound xs from (Some found)) (free.0.content (there.0.clean (again.0.clean clean))) (there.1 (again.0.clean clean));
      is = subst (λ xs. IsHostRow xs found.id host row) (both.content (again.0.clean clean)) (again.1 clean);
      content = refl;
    })
