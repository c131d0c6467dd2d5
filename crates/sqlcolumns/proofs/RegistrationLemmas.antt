-- What contacts and domains have in common is read back from its columns.
use Rattle.std.proofs.{Common.{arith, ◌≡◌, Some, sym, ap, ◌∙◌}, lemmas.Bool.Decides.nat_tests}
use Rattle.objects.specs.declared.roid.ObjectKind.{ObjectKind}
use Rattle.sqlcolumns.specs.declared.registration.{Registration.Registration, RegistrationColumns.RegistrationColumns}
use Rattle.sqlcolumns.specs.{Registrations.{IsRegistration, columns_with, registration_columns, registration_in}, Roids.roid_columns}
use Rattle.sqlcolumns.proofs.{ReadLemmas.{same_some, step}}
use Rattle.sqlcolumns.proofs.RoidLemmas.{roid_back}

pub registration_back : (kind : ObjectKind) (r : Registration) (columns : RegistrationColumns) → IsRegistration r → registration_columns kind r ≡ Some columns → registration_in kind columns ≡ Some r
registration_back kind r columns is e =
    let roid = step (roid_columns kind r.roid) (λ x. Some (columns_with r x)) columns e in
    let same = same_some (columns_with r roid.given) columns roid.rest in
    sym (ap (registration_in kind) same)
    ∙ grind (arith, nat_tests, is, roid_back kind r.roid roid.given is.roid roid.is)
