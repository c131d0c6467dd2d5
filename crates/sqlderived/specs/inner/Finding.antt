-- What is due, read row by row.
use Rattle.std.specs.Prelude.{◌≡◌, ℕ, ℤ, pos, negsuc, nat_lt, if◌then◌else◌, List, [], ◌∷◌, filter, Option, Some, option_map}
use Rattle.sqlcolumns.specs.Numbers.{moment_column}
use Rattle.sqlcolumns.specs.Steps.{◌>>=◌}
use Rattle.objects.specs.declared.contact.Contact.{Contact}
use Rattle.objects.specs.declared.domain.Domain.{Domain}
use Rattle.model.specs.Registry.{Registry, blank}
use Rattle.policy.specs.Rules.{PolicyRules}
use Rattle.lifecycle.specs.declared.due_object.Due.{Due}
use Rattle.lifecycle.specs.DueObjects.{contact_due, domain_due, due_then, with_due}
use Rattle.lifecycle.specs.Periods.{passed}
use Rattle.objects.specs.declared.roid.ObjectKind.TheVariants as kinds
use Rattle.sqltables.specs.Contact as contact_table
use Rattle.sqltables.specs.declared.contact.ContactRow.{ContactRow}
use Rattle.sqltables.specs.Content.{Content}
use Rattle.sqltables.specs.Domain as domain_table
use Rattle.sqltables.specs.declared.domain.DomainRow.{DomainRow}
use Rattle.sqldomains.specs.Domains.{domain_read, domains_of}
use Rattle.sqlobjects.specs.Objects.{contact_read, contacts_of}

-- the contacts and domains that rows mean, as a registry that has nothing else
abbrev pub objects_in : Content → Registry
objects_in xs = record blank { contacts = contacts_of xs; domains = domains_of xs }

-- with what a row shows to be due, if it reads
abbrev pub with_row : List Due → Option (Option Due) → Option (List Due)
with_row found read = option_map (λ due. with_due due found) read

-- with what is due of these rows, if each reads
abbrev pub with_rows : {R : Type 0} → (R → Option (Option Due)) → List Due → List R
    → Option (List Due)
with_rows read found [] = Some found
with_rows read found (row ∷ rows) = do
  found ← with_row found (read row)
  with_rows read found rows

-- the contact of a row, if it is due by a moment
abbrev pub contact_due_in_row : ℕ → Content → ContactRow → Option (Option Due)
contact_due_in_row t xs row = option_map (λ (c : Contact). contact_due t (c.name, c)) (contact_read xs row)

-- the same of a domain
abbrev pub domain_due_in_row : PolicyRules → ℕ → Content → DomainRow → Option (Option Due)
domain_due_in_row p t xs row = option_map (λ (d : Domain). domain_due p t (d.name, d)) (domain_read xs row)

-- The same by the column. At the last moment it may stand for a later one: then the domain is read.
abbrev pub due_by_column : PolicyRules → ℕ → Content → DomainRow → ℤ → Option (Option Due)
due_by_column p t xs row (pos n) = if nat_lt n 7_258_118_399 then Some (due_then kinds.Domain row.name (passed t n)) else domain_due_in_row p t xs row
due_by_column p t xs row (negsuc n) = domain_due_in_row p t xs row

abbrev pub domain_due_shown : PolicyRules → ℕ → Content → DomainRow → Option (Option Due)
domain_due_shown p t xs row = due_by_column p t xs row row.due

-- the rows whose column is no later than a moment
abbrev pub contacts_until : ℕ → Content → List ContactRow
contacts_until t xs = contact_table.contacts_by_due (filter (contact_table.contact_within_due (moment_column t)) xs.contacts)

abbrev pub domains_until : ℕ → Content → List DomainRow
domains_until t xs = domain_table.domains_by_due (filter (domain_table.domain_within_due (moment_column t)) xs.domains)

-- this is what is due of these rows, if each reads
pub record AreDue (p : PolicyRules) (t : ℕ) (xs : Content) (contacts : List ContactRow) (domains : List DomainRow) (due : List Due) : Type 0 where
  pub found : List Due
  pub first : with_rows (contact_due_in_row t xs) [] contacts ≡ Some found
  pub second : with_rows (domain_due_shown p t xs) found domains ≡ Some due
