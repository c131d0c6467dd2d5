use Rattle.std.proofs.Common.{◌≡◌, true, [], filter, Some, subst}
use Rattle.sqlobjects.proofs.Words.{Content, HasChanged, is_transfer_of, IsContactPut, IsPlacedAt, IsTransferPut, named_contacts, Transferable}
use Rattle.sqlobjects.proofs.{ContactLemmas.contact-put, StepLemmas.asked-became}
use Rattle.sqlobjects.specs.declared.transfers.Transferable.TheVariants as transferable
use Rattle.sqlobjects.proofs.contact_changes.put.Goals as goal

pub returns : goal.returns
returns g c =
    let old = c.args.store.now in
    let middle = c.place_row.new.store in
    let new = c.put_last_transfer.new.store in
    let contact = c.args.contact.now in
    let found = c.in_ok-found.found in
    let bare = c.in_ok-bare.bare in
    let row = c.in_ok-row.row in
    let is_new = c.is_none-is_new.result in
    let asked = c.in_ok-found.ensures {u = tt} in
    let put : (it : Transferable) → Content → Content → Type 0 = λ it m e. (is_new ≡ true → filter (is_transfer_of it) m.transfers ≡ []) → IsTransferPut it contact.transfer m e in
    asked-became (IsPlacedAt named_contacts found bare row) (put (transferable.Contact row.id)) (IsContactPut contact.name (Some contact)) old c.row_named.new.store middle new
    asked.0 (c.in_ok-row.ensures {u = tt}) (subst (λ (it : Transferable). HasChanged (put it) middle new) c.of_contact.ensures (c.in_ok-put_last_transfer.ensures {u = tt}))
    (λ begun there between clean placed last.
    contact-put old.content middle.content new.content contact found bare row is_new (c.show_consistent.ensures begun) (c.show_consistent-2.ensures between) (c.show_consistent-3.ensures clean)
    (c.is_contact.ensures.0 c.if-not-is_contact.false) (c.in_ok-bare.ensures {u = tt}) (asked.1 there) c.is_none-is_new.ensures placed last)
