-- What is left of a registry without what is hidden in some objects, and without the deposits of others.
use Rattle.std.specs.Prelude.{◌≡◌, ℕ, Bool, not, ◌&&◌, ◌==◌, if◌then◌else◌, [], None, Option, filter}
use Rattle.accounts.specs.declared.account.Account.{Account}
use Rattle.accounts.specs.declared.line.Line.{Line}
use Rattle.accounts.specs.declared.line.LineKind.TheVariants as kinds
use Rattle.accounts.specs.Lines.{is_kind}
use Rattle.basis.specs.Maps.{map_values}
use Rattle.model.specs.Registry.{Registry}
use Rattle.objects.specs.declared.contact.Contact.{Contact}
use Rattle.objects.specs.declared.contact.Postal.{Postal}
use Rattle.objects.specs.declared.domain.Domain.{Domain}
use Rattle.objects.specs.declared.roid.Roid.{Roid}
use Rattle.objects.specs.declared.transfer.Transfer.{Transfer}
use Rattle.objects.specs.Sight.{is_party}

-- a set of objects, by their identifiers (RFC 5730, 2.8)
abbrev pub Objects : Type 0
Objects = Roid → Bool

-- an object of the set that the registrar doesn't sponsor, and that no pending transfer brings to it
abbrev pub is_redacted : ℕ → Objects → Roid → ℕ → Option Transfer → Bool
is_redacted r touched roid sponsor transfer = touched roid && not (is_party r sponsor transfer)

-- the blank in place of what is left out
abbrev pub blank_if : {A : Type 0} → Bool → A → A → A
blank_if out blank x = if out then blank else x

abbrev pub no_postal : Postal
no_postal = record { name = []; org = None; street = []; city = []; sp = None; pc = None; cc = [] }

-- without its secret and its data (RFC 5733, 2.4 to 2.8)
abbrev pub redacted_contact : ℕ → Objects → Contact → Contact
redacted_contact r touched c = record c {
  secret = blank_if (is_redacted r touched c.roid c.sponsor c.transfer) [] c.secret;
  postal = blank_if (is_redacted r touched c.roid c.sponsor c.transfer) no_postal c.postal;
  voice = blank_if (is_redacted r touched c.roid c.sponsor c.transfer) None c.voice;
  mail = blank_if (is_redacted r touched c.roid c.sponsor c.transfer) [] c.mail;
}

-- without its secret (RFC 5731, 2.6)
abbrev pub redacted_domain : ℕ → Objects → Domain → Domain
redacted_domain r touched d =
    record d { secret = blank_if (is_redacted r touched d.roid d.sponsor d.transfer) [] d.secret }

abbrev pub is_charge : Line → Bool
is_charge l = not (is_kind l.kind kinds.Deposit)

abbrev pub without_deposits : Account → Account
without_deposits a = record a { lines = filter is_charge a.lines }

-- the registrar's own account in full, and another's without its deposits
abbrev pub redacted_account : ℕ → ℕ → Account → Account
redacted_account r q a = if q == r then a else without_deposits a

abbrev pub redacted : ℕ → Objects → Registry → Registry
redacted r touched s = record s {
  contacts = map_values (λ name. redacted_contact r touched) s.contacts;
  domains = map_values (λ name. redacted_domain r touched) s.domains;
  accounts = map_values (redacted_account r) s.accounts;
}

-- Two registries are one but for that.
abbrev pub AreOne : ℕ → Objects → Registry → Registry → Type 0
AreOne r touched s t = redacted r touched s ≡ redacted r touched t
