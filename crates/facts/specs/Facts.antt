-- The facts of a registry that bear on a command of a registrar.
use Rattle.std.specs.Prelude.{ℕ, Bool, false, ◌&&◌, nat_le, ℤ, pos, List, [], map, filter, length, Option, Some, None, option_map, option_and_then, is_some, find, if◌then◌else◌}
use Rattle.std.specs.FinMap.{get, keys, values}
use Rattle.std.specs.List.{list_any, slice_get}
use Rattle.std.specs.Str.{bytes_eq}
use Rattle.accounts.specs.declared.account.Account.{Account}
use Rattle.accounts.specs.declared.message.Message.{Message}
use Rattle.accounts.specs.Lines.{balance}
use Rattle.accounts.specs.Messages.{message_id}
use Rattle.lifecycle.specs.declared.refund.GivenBack.{GivenBack}
use Rattle.lifecycle.specs.Refunds.{given_back, nothing, refund_at}
use Rattle.names.specs.RequestedName.{name_of}
use Rattle.names.specs.Zone.{ZoneRules, last_two_of, superordinate_of}
use Rattle.objects.specs.declared.contact.Contact.{Contact}
use Rattle.objects.specs.declared.contact.ContactFace.{ContactFace}
use Rattle.objects.specs.declared.domain.Domain.{Domain}
use Rattle.objects.specs.declared.domain.DomainFace.{DomainFace}
use Rattle.objects.specs.declared.domain.FullDomain.{FullDomain}
use Rattle.objects.specs.declared.host.Host.{Host}
use Rattle.objects.specs.declared.sight.Seen.{Seen}
use Rattle.objects.specs.declared.sight.Seen.TheVariants.{Full, TransferParty, Public}
use Rattle.objects.specs.Hosts.{is_below}
use Rattle.objects.specs.Links.{names_contact, names_host}
use Rattle.objects.specs.Sight.{contact_as, is_party}
use Rattle.policy.specs.Rules.{PolicyRules}
use Rattle.protocol.specs.declared.command.Command.{Command}
use Rattle.facts.specs.declared.facts.AccountFacts.{AccountFacts}
use Rattle.facts.specs.declared.facts.ContactFacts.{ContactFacts}
use Rattle.facts.specs.declared.facts.DomainFacts.{DomainFacts}
use Rattle.facts.specs.declared.facts.HostFacts.{HostFacts}
use Rattle.facts.specs.declared.facts.OldestMessage.{OldestMessage}
use Rattle.facts.specs.declared.facts.QueueFacts.{QueueFacts}
use Rattle.facts.specs.declared.facts.Superordinate.{Superordinate}
use Rattle.facts.specs.declared.facts.Facts.{Facts}
use Rattle.model.specs.Registry.{Registry, account_of}
use Rattle.model.specs.View.{domain_sight}
use Rattle.protocol.specs.Requests.{adds_a_held_domain, asked, contacts_asked, domains_asked, hosts_asked, new_host_asked, presented, presented_contact, reads_associations, reads_balance, reads_oldest_message, reads_refund, references_fail}

-- ---- what is found in a registry

-- the hosts below a domain
abbrev pub subordinate : Registry → List ℕ → List (List ℕ)
subordinate s domain = filter (is_below domain) (keys s.hosts)

-- a contact or host is linked where some domain names it
abbrev pub is_linked_contact : Registry → List ℕ → Bool
is_linked_contact s name = list_any (λ d. names_contact name d.links) (values s.domains)

abbrev pub is_linked_host : Registry → List ℕ → Bool
is_linked_host s name = list_any (λ d. names_host name d.links) (values s.domains)

-- how many domains a registrar sponsors, or gets by a pending transfer
abbrev pub held : ℕ → Registry → ℕ
held r s = length (filter (λ d. is_party r d.sponsor d.transfer) (values s.domains))

-- of a domain, what its hosts depend on
abbrev pub superordinate_of_domain : Domain → Superordinate
superordinate_of_domain d = record { sponsor = d.sponsor; is_deleted = is_some d.deletion }

-- what is found at names, by one who sees only that
pub record Lookups : Type 0 where
  pub account : Account
  pub contact : List ℕ → Option (Seen Contact ContactFace)
  pub domain : List ℕ → Option (Seen FullDomain DomainFace)
  pub host : List ℕ → Option Host
  pub superordinate : List ℕ → Option Superordinate
  pub has_contact : List ℕ → Bool
  pub has_host : List ℕ → Bool
  pub contact_is_linked : List ℕ → Bool
  pub host_is_linked : List ℕ → Bool
  pub hosts_below : List ℕ → List (List ℕ)
  pub domains_held : ℕ
  pub given_back : Domain → GivenBack

-- what a registrar finds in a registry with a command
abbrev pub lookups : PolicyRules → ℕ → Command → Registry → Lookups
lookups p r c s = record {
  account = account_of r s;
  contact = λ name. option_map (contact_as r (presented_contact c name)) (get s.contacts name);
  domain = λ name. option_map (domain_sight p r s (presented c name)) (get s.domains name);
  host = λ name. get s.hosts name;
  superordinate = λ name. option_map superordinate_of_domain (get s.domains name);
  has_contact = λ name. is_some (get s.contacts name);
  has_host = λ name. is_some (get s.hosts name);
  contact_is_linked = is_linked_contact s;
  host_is_linked = is_linked_host s;
  hosts_below = subordinate s;
  domains_held = held r s;
  given_back = λ d. given_back p (refund_at s.clock d) (account_of r s).lines;
}

-- ---- the facts

-- what the account has, where the command has to know it
abbrev pub balance_asked : Command → Account → ℤ
balance_asked c a = if asked false reads_balance c then balance a.lines else pos 0

abbrev pub account_facts : Command → Account → AccountFacts
account_facts c a = record { commands = a.commands; serial = a.serial; balance = balance_asked c a }

-- the message that a poll shows (RFC 5730, 2.9.2.3)
abbrev pub oldest_message : Message → OldestMessage
oldest_message m = record { id = message_id m; message = m }

abbrev pub queue_known : List Message → QueueFacts
queue_known queue =
    record { oldest = option_map oldest_message (slice_get queue 0); waiting = length queue }

abbrev pub no_queue : QueueFacts
no_queue = record { oldest = None; waiting = 0 }

-- what waits for the account, where the command has to know it
abbrev pub queue_asked : Command → Account → QueueFacts
queue_asked c a = if asked false reads_oldest_message c then queue_known a.queue else no_queue

abbrev pub contact_facts : Lookups → Command → List ℕ → ContactFacts
contact_facts found c name = record {
  name = name;
  seen = found.contact name;
  linked = asked false reads_associations c && found.contact_is_linked name;
}

-- what the account of the one who sees a domain in full gets back for it
abbrev pub back_for : Lookups → Option (Seen FullDomain DomainFace) → GivenBack
back_for found None = nothing
back_for found (Some (Full known)) = found.given_back known.domain
back_for found (Some (TransferParty face t)) = nothing
back_for found (Some (Public face)) = nothing

-- where the command has to know it
abbrev pub back_asked : Lookups → Command → Option (Seen FullDomain DomainFace) → GivenBack
back_asked found c seen = if asked false reads_refund c then back_for found seen else nothing

-- the facts of a domain's name at which this is seen, or nothing; the hosts below it where the command has to know them
abbrev pub domain_facts_of : Lookups → Command → List ℕ → Option (Seen FullDomain DomainFace)
    → DomainFacts
domain_facts_of found c name seen = record {
  name = name;
  seen = seen;
  subordinate = if asked false reads_associations c && is_some seen then found.hosts_below name else [];
  given_back = back_asked found c seen;
}

abbrev pub domain_facts : Lookups → Command → List ℕ → DomainFacts
domain_facts found c name = domain_facts_of found c name (found.domain name)

abbrev pub host_facts : Lookups → Command → List ℕ → HostFacts
host_facts found c name = record {
  name = name;
  host = found.host name;
  superordinate = option_and_then found.superordinate (last_two_of name);
  linked = asked false reads_associations c && found.host_is_linked name;
}

-- the facts of a command, by what is found
abbrev pub facts_by : Lookups → Command → Facts
facts_by found c = record {
  account = account_facts c found.account;
  queue = queue_asked c found.account;
  contacts = map (contact_facts found c) (asked [] contacts_asked c);
  domains = map (λ name. domain_facts found c (name_of name)) (asked [] domains_asked c);
  hosts = map (λ name. host_facts found c (name_of name)) (asked [] hosts_asked c);
  at_new_name =
      option_map (λ name. host_facts found c (name_of name)) (asked None new_host_asked c);
  reference_missing = asked false (references_fail found.has_contact found.has_host) c;
  holding_limit_reached = asked false adds_a_held_domain c && nat_le 1_000_000 found.domains_held;
}

-- the facts for a registrar's command
abbrev pub facts : PolicyRules → ℕ → Command → Registry → Facts
facts p r c s = facts_by (lookups p r c s) c

-- ---- what facts say

abbrev pub contact_at : Facts → List ℕ → Option ContactFacts
contact_at f name = find (λ known. bytes_eq known.name name) f.contacts

abbrev pub domain_at : Facts → List ℕ → Option DomainFacts
domain_at f name = find (λ known. bytes_eq known.name name) f.domains

abbrev pub host_at : Facts → List ℕ → Option HostFacts
host_at f name = find (λ known. bytes_eq known.name name) f.hosts

-- what is seen at a name
abbrev pub contact_seen : Facts → List ℕ → Option (Seen Contact ContactFace)
contact_seen f name = option_and_then (λ known. known.seen) (contact_at f name)

abbrev pub domain_seen : Facts → List ℕ → Option (Seen FullDomain DomainFace)
domain_seen f name = option_and_then (λ known. known.seen) (domain_at f name)

abbrev pub host_seen : Facts → List ℕ → Option Host
host_seen f name = option_and_then (λ known. known.host) (host_at f name)

-- the host that has the new name already
abbrev pub new_name_seen : Facts → Option Host
new_name_seen f = option_and_then (λ known. known.host) f.at_new_name

abbrev pub or_else : {A : Type 0} → Option A → Option A → Option A
or_else (Some x) other = Some x
or_else None other = other

-- ---- the sponsor of a host (RFC 5732, 1.1)

-- the name lies in the zone
abbrev pub is_inside : ZoneRules → List ℕ → Bool
is_inside zone name = is_some (superordinate_of zone name)

-- of one in the zone, its superordinate domain's; of another, the registrar that created it or last
-- renamed it
abbrev pub host_sponsor : ZoneRules → HostFacts → Host → Option ℕ
host_sponsor zone known h = if is_inside zone known.name then option_map (λ above. above.sponsor) known.superordinate else h.external_sponsor
