use Rattle.std.proofs.Common.{◌≡◌, ◌∙◌, ◌++◌, ◌∷◌, [], ℕ, BTreeMap, List, sym, ap}
use Rattle.std.specs.{BTreeMap.insert_entry, Cmp.Lexicographic.slice_cmp, Ordering.nat_cmp}
use Rattle.accounts.specs.{declared.line.Line.Line}
use Rattle.accounts.proofs.GroupLaws.{insert-bag, insert-grouped, push-err, push-grouped, push-ok}
use Rattle.accounts.proofs.groups.put.Goals as goal

pub returns-in-Some-clause-grouped : goal.returns-in-Some-clause-grouped
returns-in-Some-clause-grouped c =
    let after = c.get_mut.follows.holds c.push.new.self in
    push-grouped c.key_of-key.result c.args.groups.now.entries (c.get_mut.follows.lender c.push.new.self).entries c.in-Some.group.now c.push.new.self c.requires c.in-Some.ensures.value after.0
    c.args.line c.push.result after.4 (sym c.key_of-key.ensures) c.push.ensures.ok c.push.ensures.err

pub returns-in-Some-clause-ok : goal.returns-in-Some-clause-ok
returns-in-Some-clause-ok c =
    let after = c.get_mut.follows.holds c.push.new.self in
    push-ok c.key_of-key.result c.args.groups.now.entries (c.get_mut.follows.lender c.push.new.self).entries c.in-Some.group.now c.push.new.self c.requires c.in-Some.ensures.value after.0
    c.args.line c.push.result c.push.ensures.ok

pub returns-in-Some-clause-err : goal.returns-in-Some-clause-err
returns-in-Some-clause-err c =
    let after = c.get_mut.follows.holds c.push.new.self in
    push-err c.key_of-key.result c.args.groups.now.entries (c.get_mut.follows.lender c.push.new.self).entries c.in-Some.group.now c.push.new.self c.requires c.in-Some.ensures.value after.0
    c.args.line c.push.result c.push.ensures.err

inserted_entries : (c : goal.Joined-branch-3) → c.insert.new.self.entries ≡ insert_entry (slice_cmp nat_cmp) c.args.groups.now.entries c.key_of-key.result c.push-2.new.self
inserted_entries c = c.in_ok-insert.ensures.entries ∙ ap (λ (groups : BTreeMap (List ℕ) (List Line)). insert_entry (slice_cmp nat_cmp) groups.entries c.key_of-key.result c.push-2.new.self) c.get_mut.follows.holds-at-none

alone : (c : goal.Joined-branch-3) → c.push-2.new.self ≡ c.args.line ∷ []
alone c = c.in_ok-push.ensures.ok ∙ ap (λ (ls : List Line). ls ++ c.args.line ∷ []) c.new-group.ensures

pub returns-clause-grouped : goal.returns-clause-grouped
returns-clause-grouped c =
    insert-grouped c.key_of-key.result c.args.line c.args.groups.now.entries c.insert.new.self.entries c.push-2.new.self (inserted_entries c) (alone c)
    c.requires c.in_ok-insert.ensures.ordered (sym c.key_of-key.ensures)

pub returns-clause-ok : goal.returns-clause-ok
returns-clause-ok c =
    insert-bag c.key_of-key.result c.args.line c.args.groups.now.entries c.insert.new.self.entries c.push-2.new.self (inserted_entries c) (alone c) c.in_default.ensures.value
