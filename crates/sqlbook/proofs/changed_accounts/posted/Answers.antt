use Rattle.lifecycle.specs.Changes.{all_changed}
use Rattle.sqlbook.proofs.PostingLemmas.{found-now, now-unwritten, then-posted}
use Rattle.sqlbook.proofs.changed_accounts.posted.Goals as goal

pub posted-requires-clause-there : goal.posted-requires-clause-there
posted-requires-clause-there g c = found-now c.args.posts.registrar c.in_ok-row.row c.open_account.new.store c.found_row.new.store c.in_ok-row.ensures.row c.in_ok-row.ensures.place

pub returns : goal.returns
returns g c =
    let r = c.args.posts.registrar in
    let f = all_changed c.args.policy.now c.args.posts.changes.items in
    let days = c.in_ok-days.days in
    let row = c.in_ok-row.row in
    let changed = c.in_ok-row-2.row in
    let a = c.args.store.now in
    let b = c.days.new.store in
    let d = c.open_account.new.store in
    let e = c.found_row.new.store in
    let n = c.posted.new.store in
    let asked = c.in_ok-days.ensures.found in
    let opened = c.in_ok-open_account.ensures {u = tt} in
    let found = c.in_ok-row.ensures.row in
    let place = c.in_ok-row.ensures.place in
    let posted = c.in_ok-row-2.ensures {u = tt} in (
      then-posted days r f row changed a b d e n asked opened found place posted c.show_consistent.ensures c.show_consistent-2.ensures c.show_consistent-3.ensures,
      now-unwritten days r f row changed a b d e n asked opened found place posted,
    )
