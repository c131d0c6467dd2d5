-- To lapse a contact on is to lapse it at once.
use Rattle.std.proofs.Common.{◌≡◌, ℕ, ◌≤◌, Option, Some, None, Result, Ok, Err, refl, sym, ap, ◌∙◌}
use Rattle.std.proofs.lemmas.Option.{same_Some}
use Rattle.std.specs.Result.{IfOk}
use Rattle.objects.specs.declared.{contact.Contact.Contact, transfer.Transfer.Transfer}
use Rattle.lifecycle.specs.declared.lapsed.Lapsed.{Lapsed}
use Rattle.lifecycle.specs.Lapse.{IsContactLapseOf, ◌>>=◌, contact_completed, contact_moved, due_by, lapse_contact}
use Rattle.lifecycle.proofs.LapseLaws.{stays_due}

on-by : (t u : ℕ) (c : Contact) (o : Option Transfer) → due_by t c.transfer ≡ o → t ≤ u → (contact_completed o c >>= lapse_contact u) ≡ lapse_contact u c
on-by t u c None e le = refl
on-by t u c (Some x) e le = ap (λ o. contact_completed o c) (sym (stays_due t u c.transfer x le e))

after-by : (t : ℕ) (c b : Contact) (o : Option Transfer) → due_by t c.transfer ≡ o → (contact_completed o c).object ≡ Some b → due_by t b.transfer ≡ None
after-by t c b None e found = ap (λ (a : Contact). due_by t a.transfer) (sym (same_Some c b found)) ∙ e
after-by t c b (Some x) e found = ap (λ (a : Contact). due_by t a.transfer) (sym (same_Some (contact_moved x c) b found))

pub is_contact_lapse : (t : ℕ) (c : Contact) (l : Lapsed Contact) → l ≡ lapse_contact t c → IsContactLapseOf t c l
is_contact_lapse t c l e = record {
  value = e;
  on = λ u le. ap (λ (m : Lapsed Contact). m >>= lapse_contact u) e ∙ on-by t u c (due_by t c.transfer) refl le;
  due_after = λ b found. after-by t c b (due_by t c.transfer) refl (ap (λ (m : Lapsed Contact). m.object) (sym e) ∙ found);
}

pub contact-result : {E : Type 0} (t : ℕ) (c : Contact) (r : Result (Lapsed Contact) E) → IfOk r (λ l. l ≡ lapse_contact t c) → IfOk r (λ l. IsContactLapseOf t c l)
contact-result t c (Ok l) e = is_contact_lapse t c l e
contact-result t c (Err x) e = e
