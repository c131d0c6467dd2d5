-- What a registrar sees of a registry.
use Rattle.std.specs.Prelude.{ℕ, List, Option, None}
use Rattle.std.specs.Cmp.Lexicographic.{slice_cmp}
use Rattle.std.specs.FinMap.{FinMap}
use Rattle.std.specs.Ordering.{nat_cmp}
use Rattle.accounts.specs.declared.account.Account.{Account}
use Rattle.basis.specs.Maps.{map_values}
use Rattle.objects.specs.declared.contact.Contact.{Contact}
use Rattle.objects.specs.declared.contact.ContactFace.{ContactFace}
use Rattle.objects.specs.declared.domain.Domain.{Domain}
use Rattle.objects.specs.declared.domain.DomainFace.{DomainFace}
use Rattle.objects.specs.declared.domain.FullDomain.{FullDomain}
use Rattle.objects.specs.declared.host.Host.{Host}
use Rattle.objects.specs.declared.sight.Seen.{Seen}
use Rattle.objects.specs.Sight.{contact_as, domain_as}
use Rattle.policy.specs.Rules.{PolicyRules}
use Rattle.protocol.specs.declared.command.Command.{Command}
use Rattle.protocol.specs.Requests.{presented, presented_contact}
use Rattle.model.specs.Registry.{Registry, account_of}
use Rattle.model.specs.Standing.{standing_of}

-- The clock, the registrar's account in full, and its sight of each object. Hosts have no hidden
-- fields; a domain's subordinate hosts, and what is linked, are read off the names that all see.
pub record View : Type 0 where
  pub clock : ℕ
  pub account : Account
  pub contacts : FinMap (slice_cmp nat_cmp) (Seen Contact ContactFace)
  pub hosts : FinMap (slice_cmp nat_cmp) Host
  pub domains : FinMap (slice_cmp nat_cmp) (Seen FullDomain DomainFace)

-- the secrets that are presented, for contacts and for domains
pub record Secrets : Type 0 where
  pub contacts : List ℕ → Option (List ℕ)
  pub domains : List ℕ → Option (List ℕ)

-- the sight of a domain, by one who presents a secret
abbrev pub domain_sight : PolicyRules → ℕ → Registry → Option (List ℕ) → Domain
    → Seen FullDomain DomainFace
domain_sight p r s presented d = domain_as r presented (standing_of p s d) d

-- what a registrar that presents these secrets sees
abbrev pub view_with : PolicyRules → Secrets → ℕ → Registry → View
view_with p secrets r s = record {
  clock = s.clock;
  account = account_of r s;
  contacts = map_values (λ name. contact_as r (secrets.contacts name)) s.contacts;
  hosts = s.hosts;
  domains = map_values (λ name. domain_sight p r s (secrets.domains name)) s.domains;
}

-- the secrets of a command: info of a contact or a domain may present one, and so may a transfer
abbrev pub secrets_of : Command → Secrets
secrets_of c = record { contacts = presented_contact c; domains = presented c }

-- what a registrar sees with a command
abbrev pub view_for : PolicyRules → ℕ → Command → Registry → View
view_for p r c s = view_with p (secrets_of c) r s

-- what a registrar sees
abbrev pub view : PolicyRules → ℕ → Registry → View
view p r s = view_with p (record { contacts = λ name. None; domains = λ name. None }) r s
