use Rattle.std.proofs.Common.{◌≡◌, Ok, refl, sym, ◌∙◌}
use Rattle.books.specs.Tables.{host_renamed_if_there}
use Rattle.sqlbook.proofs.{Words.{are_right, asked-stood, asked-then, Content, IsRowRenamed, stored_of}, MeaningLemmas.alters}
use Rattle.sqlbook.proofs.RenamingLemmas.{row-renamed}
use Rattle.books.proofs.RenameLemmas.{renamed-nowhere, renamed-there}
use Rattle.sqlbook.proofs.renaming.rename_host.Goals as goal

pub returns : goal.returns
returns g c =
    let from = c.args.from.now in
    let host = c.args.host.now in
    let old = c.args.store.now in
    let new = c.rename_row.new.store in
    let asked = c.in_ok-may_rename.ensures {u = tt} in
    let made = c.in_ok-rename_row.ensures {u = tt} in
    let way = λ (xs ys : Content). (stored_of ys ≡ host_renamed_if_there from host (stored_of xs)) × (are_right ys ≡ are_right xs) in
    alters {A = Unit {0}} (Ok tt) way _ old new
    (asked-then (IsRowRenamed from host) way old c.may_rename.new.store new asked.0 made
    (λ e it.
    let both = row-renamed from host old.content new.content it in
    (both.0 ∙ renamed-there from host (stored_of old.content) (sym (asked.1 (made.clean e)) ∙ c.if-not-branch.false), both.1)))
    (λ it. it)

-- where there is no such host, or another has the name
pub returns-then-not-branch : goal.returns-then-not-branch
returns-then-not-branch g c =
    let from = c.args.from.now in
    let host = c.args.host.now in
    let old = c.args.store.now in
    let new = c.may_rename.new.store in
    let asked = c.in_ok-may_rename.ensures {u = tt} in
    let way = λ (xs ys : Content). (stored_of ys ≡ host_renamed_if_there from host (stored_of xs)) × (are_right ys ≡ are_right xs) in
    alters {A = Unit {0}} (Ok tt) way _ old new
    (asked-stood way old new asked.0 c.requires (λ e. (renamed-nowhere from host (stored_of old.content) (sym (asked.1 e) ∙ c.if-not-branch.true), refl))) (λ it. it)
