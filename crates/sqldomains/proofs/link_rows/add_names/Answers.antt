use Rattle.std.proofs.Common.{◌+◌, [], ◌∷◌, subst, take}
use Rattle.sqldomains.proofs.{Words.{AreNamesAdded, HasChanged, stood, take_all, then-became}, LinkRowLemmas.{next-named, none-named}}
use Rattle.sqldomains.proofs.link_rows.add_names.Goals as goal

pub loop-name-init : goal.loop-name-init
loop-name-init g c = stood (AreNamesAdded c.args.domain.now.id c.args.domain.now.due c.args.role []) c.args.store.now c.requires (none-named c.args.domain.now.id c.args.domain.now.due c.args.role c.args.store.now.content)

pub loop-name-preserved : goal.loop-name-preserved
loop-name-preserved g c =
    let id = c.args.domain.now.id in
    let due = c.args.domain.now.due in
    let role = c.args.role in
    let names = c.args.names.now in
    let i = c.loop-name.name-index in
    let name = c.name-item.result in
    let old = c.args.store.now in
    let middle = c.loop-name.store in
    let new = c.add_name.new.store in
    then-became (AreNamesAdded id due role (take i names)) (AreNamesAdded id due role (name ∷ [])) (AreNamesAdded id due role (take (i + 1) names)) old middle new
    c.loop-name.invariant (c.in_ok-add_name.ensures {u = tt})
    (λ clean one two. next-named id due role names i name old.content middle.content new.content c.loop-name-test.true c.name-item.is one two)

pub returns : goal.returns
returns g c =
    subst (λ names. HasChanged (AreNamesAdded c.args.domain.now.id c.args.domain.now.due c.args.role names) c.args.store.now c.loop-name.store) (take_all c.loop-name.name-index c.args.names.now c.loop-name-test.false) c.loop-name.invariant
