-- A stored registry with another value at one key.
use Rattle.std.specs.Prelude.{ℕ, if◌then◌else◌, List, Option, Some, None}
use Rattle.std.specs.Cmp.Lexicographic.{slice_cmp}
use Rattle.std.specs.FinMap.{FinMap}
use Rattle.std.specs.Ordering.{nat_cmp}
use Rattle.accounts.specs.declared.account.Account.{Account}
use Rattle.lifecycle.specs.Changes.{all_changed}
use Rattle.policy.specs.Rules.{PolicyRules}
use Rattle.objects.specs.declared.contact.Contact.{Contact}
use Rattle.objects.specs.declared.domain.Domain.{Domain}
use Rattle.objects.specs.declared.host.Host.{Host}
use Rattle.decisions.specs.Changes.{host_renamed as registry_renamed, may_rename, with_account}
use Rattle.books.specs.Book.{Stored}
use Rattle.books.specs.Ledgers.{entry_set}
use Rattle.books.specs.declared.records.Posts.{Posts}
use Rattle.model.specs.Lapse.{put_or_drop}

abbrev pub clock_set : ℕ → Stored → Stored
clock_set t s = record s { registry = record s.registry { clock = t } }

-- ---- accounts

abbrev pub with_accounts : FinMap nat_cmp Account → Stored → Stored
with_accounts accounts s = record s { registry = record s.registry { accounts = accounts } }

-- a registrar's account is changed; what was never opened is opened
abbrev pub posted_to : ℕ → (Account → Account) → Stored → Stored
posted_to r f s = record s { registry = with_account r f s.registry }

-- a registrar's account after its posts; what was never opened is opened
abbrev pub posted_all : PolicyRules → Posts → Stored → Stored
posted_all p posts s = posted_to posts.registrar (all_changed p posts.changes.items) s

-- the same where there are posts
abbrev pub maybe_posted : PolicyRules → Option Posts → Stored → Stored
maybe_posted p None s = s
maybe_posted p (Some posts) s = posted_all p posts s

-- ---- objects: the name has this one, or none

abbrev pub contact_set : List ℕ → Option Contact → Stored → Stored
contact_set name value s =
    record s { registry = record s.registry { contacts = entry_set s.registry.contacts name value } }

abbrev pub host_set : List ℕ → Option Host → Stored → Stored
host_set name value s =
    record s { registry = record s.registry { hosts = entry_set s.registry.hosts name value } }

abbrev pub with_domains : FinMap (slice_cmp nat_cmp) Domain → Stored → Stored
with_domains domains s = record s { registry = record s.registry { domains = domains } }

abbrev pub domain_set : List ℕ → Option Domain → Stored → Stored
domain_set name value s = with_domains (entry_set s.registry.domains name value) s

-- what time left under a name
abbrev pub contact_left : List ℕ → Option Contact → Stored → Stored
contact_left name left s = record s { registry = record s.registry { contacts = put_or_drop s.registry.contacts name left } }

abbrev pub domain_left : List ℕ → Option Domain → Stored → Stored
domain_left name left s = with_domains (put_or_drop s.registry.domains name left) s

-- a host goes to its new name
abbrev pub host_moved : List ℕ → Host → Stored → Stored
host_moved from host s = record s { registry = registry_renamed from host s.registry }

-- the same where there is such a host, and no other has that name
abbrev pub host_renamed_if_there : List ℕ → Host → Stored → Stored
host_renamed_if_there from host s =
    record s { registry = if may_rename s.registry.hosts from host.name then registry_renamed from host s.registry else s.registry }
