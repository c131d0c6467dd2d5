use Rattle.std.proofs.Common.{refl}
use Rattle.mapbook.specs.Plain.{content_of}
use Rattle.mapbook.proofs.EditLemmas.{undone_all-made, undone_all-unmade}
use Rattle.mapbook.proofs.plain.Plain.keep_inverse.Goals as goal

pub returns-clause-ok : goal.returns-clause-ok
returns-clause-ok c =
    let us = c.args.self.now.undo in
    let vs = c.push.new.self in
    let inverse = c.in_ok-inverse.inverse in
    let held = content_of c.args.self.now.content in
    record {
      made = undone_all-made us vs inverse c.args.edit.now held _ c.in_ok-push.ensures.ok c.in_ok-inverse.ensures refl;
      unmade = undone_all-unmade us vs inverse held c.in_ok-push.ensures.ok;
    }
