-- What one call after another finds due is what is due at the beginning.
use Rattle.std.proofs.Common.{◌≡◌, Bool, true, Some, Result, Ok, Err, subst}
use Rattle.sqlderived.proofs.Words.{Content, days_of_rows, dues_are_right, FindsIfRight, FindsSome, IsConsistent, PolicyRules, Reads, reads-on}
use Rattle.sqlderived.proofs.Words.{StateOf, stays-on}
use Rattle.sqlcolumns.specs.Steps.{◌>>=◌}
use Rattle.states.specs.declared.fault.BookFault.{BookFault}

-- what is found where the days of the rows are these
pub with-days : {A : Type 0} (r : Result A BookFault) (s a t : StateOf Content) (p : PolicyRules) (Q P : Content → A → Type 0)
    → Reads s a × (a.is_clean ≡ true → days_of_rows s.content ≡ Some p.days) → (a.is_clean ≡ true → IsConsistent a.content)
    → ((xs : Content) (it : A) → IsConsistent xs → days_of_rows xs ≡ Some p.days → dues_are_right xs ≡ true → Q xs it → P xs it)
    → FindsSome r (Q a.content) a t → FindsSome r (λ it. dues_are_right s.content ≡ true → P s.content it) s t
with-days (Err fault) s a t p Q P days consistent gives met = stays-on s a t days.0 met
with-days (Ok it) s a t p Q P days consistent gives met = (
  reads-on s a t days.0 met.0,
  λ clean right.
      let start = met.0.clean clean in
      let same = days.0.content start in
      gives s.content it (subst IsConsistent same (consistent start)) (days.1 start) right (subst (λ (xs : Content). Q xs it) same (met.1 clean)),
)

pub if-right : {A : Type 0} (r : Result A BookFault) (right : Bool) (value : A) (s t : StateOf Content) → FindsSome r (λ it. right ≡ true → it ≡ value) s t → FindsIfRight r right value s t
if-right (Err fault) right value s t met = met
if-right (Ok it) right value s t met = met
