-- A domain is read back from its row, its links and its transfer.
use Rattle.std.proofs.{Common.{arith, ◌≡◌, ℕ, ℤ, Option, Some, None, IfSome, refl, sym, ap, ◌∙◌}, lemmas.Bool.Decides.nat_tests}
use Rattle.objects.specs.declared.{domain.{Deletion.Deletion, Domain.Domain, Links.Links}, transfer.Transfer.Transfer}
use Rattle.objects.specs.declared.roid.ObjectKind.TheVariants as kinds
use Rattle.sqltables.specs.declared.domain.DomainRow.{DomainRow}
use Rattle.sqlcolumns.specs.declared.domain.DeletionColumns.{DeletionColumns}
use Rattle.sqlcolumns.specs.inner.Domains.{IsStorableDeletion, IsDomain, deletion_columns, domain_registration, domain_row_with, row_of_domain}
use Rattle.sqlcolumns.specs.{Domains.{deletion_in, domain_of_columns, domain_registration_columns, domain_with}, Numbers.years_in_column}
use Rattle.sqlcolumns.specs.{Registrations.{registration_columns, registration_in}, Steps.◌>>=◌, Texts.statuses_in}
use Rattle.sqlcolumns.proofs.{NumberLemmas.{maybe_moment_back, moment_back}, ReadLemmas.{same_some, step}}
use Rattle.sqlcolumns.proofs.{RegistrationLemmas.registration_back, TextLemmas.statuses_back}

-- ---- deletions

abbrev read_deletion : DeletionColumns → Option (Option Deletion)
read_deletion columns = deletion_in columns.deleted columns.restore_requested

pub deletion_back : (d : Option Deletion) → IfSome d IsStorableDeletion → read_deletion (deletion_columns d) ≡ Some d
deletion_back None is = refl
deletion_back (Some d) is =
    λ i. moment_back d.deleted is.deleted i >>= (λ m.
    maybe_moment_back d.restore_requested is.restore_requested i >>= (λ r.
    Some (Some (record { deleted = m; restore_requested = r }))))

-- ---- domains

-- what was written is read back
pub domain_back : (id registrant : ℤ) (due : ℕ) (d : Domain) (row : DomainRow) → IsDomain d → row_of_domain id registrant due d ≡ Some row → domain_of_columns row d.links d.transfer ≡ Some d
domain_back id registrant due d row is e =
    let columns = step (registration_columns kinds.Domain (domain_registration d)) (λ x. Some (domain_row_with id registrant due d x (deletion_columns d.deletion))) row e in
    let written : DomainRow = domain_row_with id registrant due d columns.given (deletion_columns d.deletion) in
    let read = registration_back kinds.Domain (domain_registration d) columns.given is.registration columns.is in
    let same = same_some written row columns.rest in
    sym (ap (λ (x : DomainRow). domain_of_columns x d.links d.transfer) same)
    ∙ grind (arith, nat_tests, is.years, read, statuses_back d.statuses, deletion_back d.deletion is.deletion)

-- what is read was deleted as its row says
pub deletion_reads : (row : DomainRow) (links : Links) (transfer : Option Transfer) (d : Domain) → domain_of_columns row links transfer ≡ Some d → deletion_in row.deleted row.restore_requested ≡ Some d.deletion
deletion_reads row links transfer d e =
    let r = step (registration_in kinds.Domain (domain_registration_columns row)) _ d e in
    let y = step (years_in_column row.years) _ d r.rest in
    let s = step (statuses_in row.statuses) _ d y.rest in
    let x = step (deletion_in row.deleted row.restore_requested) _ d s.rest in
    x.is ∙ λ i. Some ((same_some (domain_with row r.given y.given s.given x.given links transfer) d x.rest i).deletion)
