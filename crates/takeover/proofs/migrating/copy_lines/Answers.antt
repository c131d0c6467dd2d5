use Rattle.std.proofs.Common.{ap, ◌∙◌}
use Rattle.oldrows.proofs.CopyLemmas.{copied-so}
use Rattle.oldrows.specs.inner.Copies.{put_rows}
use Rattle.sqltables.specs.{Content.Content, inner.Content.lines_to, Line.lines}
use Rattle.takeover.specs.Migrating.{lines_with_ends}
use Rattle.takeover.proofs.migrating.copy_lines.Goals as goal

pub returns : goal.returns
returns g c =
    let days = c.args.days.now in
    let asked = c.in_ok-rows.ensures {u = tt} in
    copied-so c.put_all.result (λ rows. lines_to (put_rows lines.key rows)) c.as_slice.result.now (λ (xs : Content). lines_with_ends days xs.lines) c.args.from.now c.all.new.from c.args.to.now c.put_all.new.to
    asked.0 (λ e. c.as_slice.ensures ∙ c.in_ok-ended.ensures {u = tt} ∙ ap (lines_with_ends days) (asked.1 e)) c.put_all.ensures
