use Rattle.std.proofs.Common.{◌≡◌, None, refl, ap, subst, ◌∙◌}
use Rattle.sqlobjects.proofs.Words.{Content, contacts_to, delete_where, HasChanged, IsContactPut, IsTransferCleared, rows_of, Transferable}
use Rattle.sqlobjects.proofs.{ContactLemmas.{none-dropped, one-dropped}, StepLemmas.{asked-became, asked-stood, made}}
use Rattle.sqltables.specs.Contact.{contact_with_id}
use Rattle.sqlobjects.specs.declared.transfers.Transferable.TheVariants as transferable
use Rattle.sqlobjects.proofs.contact_changes.drop_contact.Goals as goal

pub returns-in_default : goal.returns-in_default
returns-in_default g c =
    let old = c.args.store.now in
    let asked = c.in_ok-row.ensures {u = tt} in
    asked-stood (IsContactPut c.args.name None) old c.row_named.new.store asked.0 c.requires (λ clean. none-dropped old.content c.args.name (c.show_consistent.ensures (asked.0.clean clean)) (asked.1 clean ∙ ap rows_of c.in_default.is))

pub returns : goal.returns
returns g c =
    let old = c.args.store.now in
    let middle = c.clear_transfer.new.store in
    let new = c.remove_contacts_by_id.new.self in
    let row = c.in-Some.row in
    let asked = c.in_ok-row.ensures {u = tt} in
    let without : Content → Content = contacts_to (delete_where (contact_with_id c.number_of.result)) in
    asked-became (IsTransferCleared (transferable.Contact row.id)) (λ m e. e ≡ without m) (IsContactPut c.args.name None) old c.row_named.new.store middle new
    asked.0 (subst (λ (it : Transferable). HasChanged (IsTransferCleared it) c.row_named.new.store middle) c.of_contact.ensures (c.in_ok-clear_transfer.ensures {u = tt})) (made (λ m e. e ≡ without m) without middle new (c.in_ok-remove_contacts_by_id.ensures {u = tt}) refl)
    (λ begun there between clean cleared gone.
    one-dropped old.content middle.content c.args.name row (c.show_consistent.ensures begun) (asked.1 there ∙ ap rows_of c.in-Some.is) cleared new.content
    (gone ∙ ap (λ id. contacts_to (delete_where (contact_with_id id)) middle.content) c.number_of.ensures) (c.show_consistent-2.ensures clean))
