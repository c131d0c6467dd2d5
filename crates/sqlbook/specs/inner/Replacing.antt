-- One domain in the place of another, over rows.
use Rattle.std.specs.Prelude.{◌≡◌, ℕ, Bool, true, IfSome, List, Option, Some, None}
use Rattle.std.specs.FinMap.{get}
use Rattle.sqlite_rules.specs.Lists.{Has}
use Rattle.objects.specs.declared.domain.Domain.{Domain}
use Rattle.policy.specs.declared.schedule.Schedule.{Schedule}
use Rattle.sqltables.specs.Content.{Content}
use Rattle.sqltables.specs.declared.domain.DomainRow.{DomainRow}
use Rattle.sqldomains.specs.inner.Changes.{IsDomainPut, sponsor_in}
use Rattle.sqldomains.specs.Domains.{domains_of}
use Rattle.sqlderived.specs.inner.Recounts.{IsRecounted}
use Rattle.sqlobjects.specs.Sponsors.{IsSponsorSetBelow}
use Rattle.sqlterms.specs.Terms.{days_of_rows}

-- no other days were put down
abbrev pub IsUnderDays : Schedule → Content → Type 0
IsUnderDays days xs = IfSome (days_of_rows xs) (λ d. d ≡ days)

-- this domain, or none, is under a name, and its row is right
pub record IsCheckedDomain (name : List ℕ) (right : Content → DomainRow → Bool) (xs : Content) (domain : Option Domain) : Type 0 where
  pub domain_is : get (domains_of xs) name ≡ domain
  pub right_is : (row : DomainRow) → Has xs.domains row → row.name ≡ name → right xs row ≡ true

-- the moment goes with a domain
abbrev pub due_with : Option Domain → ℕ → Option ℕ
due_with None due = None
due_with (Some domain) due = Some due

-- the hosts below take their sponsor, the registrars' domains are counted anew, and then the one is put in the place
-- of the other
pub record IsReplaced (name : List ℕ) (before after : Option Domain) (due : ℕ) (old new : Content) : Type 0 where
  pub moved : Content
  pub followed : IsSponsorSetBelow name (sponsor_in after) old moved
  pub mid : Content
  pub counted : IsRecounted before after moved mid
  pub put : IsDomainPut name after (due_with after due) mid new
