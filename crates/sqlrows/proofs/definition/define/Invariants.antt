use Rattle.std.proofs.Common.{◌≡◌, true, map, drop, IsTrue}
use Rattle.sqlrows.proofs.Words.{DefinesAll, ForgetsNoFault, HasCleanDisk, IsBlank, LeavesOnly, Schema, state, StaysOpen}
use Rattle.sqlrows.proofs.definition.define.Given as goal

-- what the texts so far left is what those to come begin from
abbrev pub invariant-texts : goal.invariant-texts
invariant-texts g l =
    let old = state g.S.Store l.fn.conn in
    let now = state g.S.Store l.conn in
    ForgetsNoFault old now × (HasCleanDisk now → IsTrue now.is_open → IsTrue old.is_open) × ((from to : Schema) → DefinesAll from (map (λ t. t.now) l.texts) to → IsBlank from old.now → IsTrue old.is_open → old.in_transaction ≡ true → HasCleanDisk now
    → ((next : Schema) × DefinesAll next (map (λ t. t.now) (drop l.text-index l.texts)) to × IsBlank next now.now) × StaysOpen old now × LeavesOnly old now (λ _. ⊥))
