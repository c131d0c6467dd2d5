use Rattle.std.proofs.{Common.{rules, filter, ap, ◌∙◌}, lemmas.Fn.filter_same}
use Rattle.sqlcolumns.specs.Numbers.{moment_column}
use Rattle.sqltables.specs.Contact.{contact_within_due}
use Rattle.sqlderived.proofs.near.contacts_until.Goals as goal

pub returns : goal.returns
returns c =
    let test = contact_within_due (moment_column c.args.moment) in
    c.from_vec.ensures ∙ filter_same _ test _ (λ x b f called. search rules) _ _ c.retain.ensures.filtered ∙ ap (filter test) c.into_vec-rows.ensures
