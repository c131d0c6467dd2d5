use Rattle.std.proofs.Common.{◌∙◌, refl, subst, sym}
use Rattle.mapbook.proofs.{Words.{leaves-refl, Makes, plain_records, Stored}, RenameLemmas.held-open}
use Rattle.books.proofs.RenameLemmas.{renamed-nowhere, renamed-there}
use Rattle.mapbook.proofs.plain.Plain.rename.Goals as goal

pub returns : goal.returns
returns c =
    let s = plain_records c.args.self.now in
    subst (λ (held : Stored). Makes c.move_host.result held s (plain_records c.move_host.new.self))
    (renamed-there c.args.from c.args.host s.content (held-open c.args.self.now c.args.from c.args.host.name c.requires ∙ sym c.may_rename.ensures ∙ c.if-not-may_rename.false))
    c.move_host.ensures

-- where there is no such host, or another has the name
pub returns-then-not-may_rename : goal.returns-then-not-may_rename
returns-then-not-may_rename c =
    let s = plain_records c.args.self.now in
    record {
      clean = λ e. e;
      before = λ e. refl;
      opened = c.requires;
      content = λ e. renamed-nowhere c.args.from c.args.host s.content (held-open c.args.self.now c.args.from c.args.host.name c.requires ∙ sym c.may_rename.ensures ∙ c.if-not-may_rename.true);
      answers = λ was. was;
      leaves = leaves-refl s;
    }
