use Rattle.std.proofs.Common.{[], sym, subst, ◌∙◌}
use Rattle.sqlite.specs.Held.{state}
use Rattle.oldrows.specs.{inner.Stored.{FindsOld, old_leaves, as_found}, Stored.{Answers, IsRead, OldState}}
use Rattle.oldrows.proofs.AskingLemmas.{asked, kept, reads-stood, stood-left, stood-shown}
use Rattle.oldrows.proofs.reading.OldRows.ask.Goals as goal

pub invariant_of-self-2 : goal.invariant_of-self-2
invariant_of-self-2 g c =
    let is_there = c.self.inside.is_there in
    let old = state g.S.Store c.self.inside.conn in
    let new = state g.S.Store c.query_all.new.self in
    kept c.args.sql.now [] is_there old new c.query_all.ensures.survives c.self.invariant.0 c.if-not-self.false c.requires.plain (old_leaves (state g.S.Store) c.self.inside.seen.items) (subst Answers (sym c.self.view_is) c.requires.answers)
    (stood-shown c.args.sql.now [] is_there old new c.query_all.ensures.survives c.self.invariant.0 c.if-not-self.false c.requires.plain _ c.in-Ok.ensures.ok) c.self.invariant.1

pub invariant_of-self : goal.invariant_of-self
invariant_of-self g c =
    let is_there = c.self.inside.is_there in
    let old = state g.S.Store c.self.inside.conn in
    let new = state g.S.Store c.query_all.new.self in
    kept c.args.sql.now [] is_there old new c.query_all.ensures.survives c.self.invariant.0 c.if-not-self.false c.requires.plain (old_leaves (state g.S.Store) c.self.inside.seen.items) (subst Answers (sym c.self.view_is) c.requires.answers)
    (stood-left c.args.sql.now [] is_there old new c.query_all.ensures.survives c.self.invariant.0 c.if-not-self.false c.requires.plain c.in-Err.error c.in-Err.ensures.err) c.self.invariant.1

pub returns : goal.returns
returns g c f asks =
    let is_there = c.self.inside.is_there in
    let new = state g.S.Store c.query_all.new.self in
    let leaves = old_leaves (state g.S.Store) c.self.inside.seen.items in
    let it = asked g.R.Record.shown c.args.sql.now is_there (state g.S.Store c.self.inside.conn) new leaves c.query_all.ensures.survives c.self.invariant.0 c.if-not-self.false f asks _ c.in-Ok.ensures.ok c.read_all.result
    (λ xs e. c.read_all.ensures xs (c.deref.ensures.value ∙ e)) in
    subst (λ (s : OldState). FindsOld c.read_all.result (f s.content) s (as_found is_there new leaves)) c.self.view_is it

pub returns-in-Err : goal.returns-in-Err
returns-in-Err g c f asks =
    let is_there = c.self.inside.is_there in
    let old = state g.S.Store c.self.inside.conn in
    let new = state g.S.Store c.query_all.new.self in
    let leaves = old_leaves (state g.S.Store) c.self.inside.seen.items in
    subst (λ (s : OldState). IsRead s (as_found is_there new leaves)) c.self.view_is
    (reads-stood is_there old new _ c.query_all.ensures.survives c.self.invariant.0 (stood-left c.args.sql.now [] is_there old new c.query_all.ensures.survives c.self.invariant.0 c.if-not-self.false c.requires.plain c.in-Err.error c.in-Err.ensures.err) leaves)
