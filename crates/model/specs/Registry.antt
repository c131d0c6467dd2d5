-- The registry as plain maps.
use Rattle.std.specs.Prelude.{ℕ, unwrap_or}
use Rattle.std.specs.Ordering.{nat_cmp}
use Rattle.std.specs.Cmp.Lexicographic.{slice_cmp}
use Rattle.std.specs.FinMap.{FinMap, empty, get}
use Rattle.objects.specs.declared.contact.Contact.{Contact}
use Rattle.objects.specs.declared.host.Host.{Host}
use Rattle.objects.specs.declared.domain.Domain.{Domain}
use Rattle.accounts.specs.declared.account.Account.{Account}
use Rattle.accounts.specs.Account.{empty_account}

-- Contacts, hosts and domains by canonical name, accounts by the place of their registrar, and the
-- latest moment that was seen.
pub record Registry : Type 0 where
  pub contacts : FinMap (slice_cmp nat_cmp) Contact
  pub hosts : FinMap (slice_cmp nat_cmp) Host
  pub domains : FinMap (slice_cmp nat_cmp) Domain
  pub accounts : FinMap nat_cmp Account
  pub clock : ℕ

-- a registrar's account
abbrev pub account_of : ℕ → Registry → Account
account_of r s = unwrap_or (get s.accounts r) empty_account

-- a registry that was never opened: nothing in it, at the first moment
abbrev pub blank : Registry
blank = record { contacts = empty; hosts = empty; domains = empty; accounts = empty; clock = 946_684_800 }
