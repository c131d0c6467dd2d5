-- The changes of a registry.
use Rattle.std.specs.Prelude.{◌&&◌, ℕ, Bool, List, [], Option, Some, filter, not, fold, is_some, max, if◌then◌else◌}
use Rattle.std.specs.FinMap.{FinMap, get, insert, remove}
use Rattle.std.specs.Ordering.{nat_cmp}
use Rattle.std.specs.Cmp.Lexicographic.{slice_cmp}
use Rattle.std.specs.Str.{bytes_eq}
use Rattle.accounts.specs.declared.account.Account.{Account}
use Rattle.accounts.specs.declared.entries.Posting.{Posting}
use Rattle.lifecycle.specs.declared.change.AccountChange.TheVariants.{Lapse}
use Rattle.lifecycle.specs.Changes.{changed as account_changed}
use Rattle.policy.specs.Rules.{PolicyRules}
use Rattle.basis.specs.Bag.{add, precedes}
use Rattle.basis.specs.Maps.{map_values}
use Rattle.objects.specs.declared.domain.Domain.{Domain}
use Rattle.objects.specs.declared.domain.Links.{Links}
use Rattle.objects.specs.declared.host.Host.{Host}
use Rattle.objects.specs.declared.sight.Seen.{Seen}
use Rattle.objects.specs.declared.sight.Seen.TheVariants.{Full}
use Rattle.objects.specs.Links.{has_name}
use Rattle.decisions.specs.declared.change.Change.{Change}
use Rattle.decisions.specs.declared.change.Change.TheVariants.{MoveClock, OpenAccount, PutContact, DropContact, PutDomain, DropDomain, PutHost, DropHost, RenameHost, LapseContact, LapseDomain, Post}
use Rattle.model.specs.Lapse.{put_or_drop}
use Rattle.model.specs.Registry.{Registry, account_of}

-- one registrar's account is changed
abbrev pub with_account : ℕ → (Account → Account) → Registry → Registry
with_account r f s = record s { accounts = insert s.accounts r (f (account_of r s)) }

abbrev pub itself : Account → Account
itself account = account

-- among a domain's hosts, one has its new name
abbrev pub renamed : List ℕ → List ℕ → List (List ℕ) → List (List ℕ)
renamed old new hosts = if has_name hosts old then add (precedes (slice_cmp nat_cmp)) new (filter (λ host. not (bytes_eq host old)) hosts) else hosts

abbrev pub links_with_host_renamed : List ℕ → List ℕ → Links → Links
links_with_host_renamed old new links = record links { hosts = renamed old new links.hosts }

abbrev pub with_host_renamed : List ℕ → List ℕ → Domain → Domain
with_host_renamed old new d = record d { links = links_with_host_renamed old new d.links }

-- there is a host of the one name, and none of the other
abbrev pub may_rename : FinMap (slice_cmp nat_cmp) Host → List ℕ → List ℕ → Bool
may_rename hosts old new = is_some (get hosts old) && not (is_some (get hosts new))

-- a host under a new name, which every domain that named it has in the old one's place
abbrev pub host_renamed : List ℕ → Host → Registry → Registry
host_renamed old h s = record s {
  hosts = insert (remove s.hosts old) h.name h;
  domains = map_values (λ name. with_host_renamed old h.name) s.domains;
}

-- One change. The clock moves and nothing else: what lapses is a list of changes of its own. An
-- account that is opened and was there stays as it is.
abbrev pub changed : PolicyRules → Change → Registry → Registry
changed p (MoveClock t) s = record s { clock = max t s.clock }
changed p (OpenAccount r) s = with_account r itself s
changed p (PutContact c) s = record s { contacts = insert s.contacts c.name c }
changed p (DropContact name) s = record s { contacts = remove s.contacts name }
changed p (PutDomain d) s = record s { domains = insert s.domains d.name d }
changed p (DropDomain name) s = record s { domains = remove s.domains name }
changed p (PutHost h) s = record s { hosts = insert s.hosts h.name h }
changed p (DropHost name) s = record s { hosts = remove s.hosts name }
changed p (RenameHost old h) s = if may_rename s.hosts old h.name then host_renamed old h s else s
changed p (LapseContact name left) s = record s { contacts = put_or_drop s.contacts name left }
changed p (LapseDomain name left) s = record s { domains = put_or_drop s.domains name left }
changed p (Post r what) s = with_account r (account_changed p what) s

-- what a lapse posts into an account
abbrev pub posting_change : Posting → Change
posting_change it = Post it.registrar (Lapse it.what)

-- changes, one after another
abbrev pub changed_all : PolicyRules → List Change → Registry → Registry
changed_all p changes s = fold (λ s change. changed p change s) s changes

-- what an object makes change that is seen in full; else nothing changes
abbrev pub in_full : {O F : Type 0} → (O → List Change) → Option (Seen O F) → List Change
in_full changes (Some (Full o)) = changes o
in_full changes _ = []
