-- What may be due of that which concerns a registrar and some names, as it is found by indexes.
use Rattle.std.specs.Prelude.{◌≡◌, ℕ, ◌==◌, Bool, not, ◌||◌, length, take, List, [], ◌++◌, filter, Option, Some, None}
use Rattle.std.specs.List.{flat_map}
use Rattle.std.specs.Option.{option_map_or}
use Rattle.sqlcolumns.specs.Numbers.{moment_column, registrar_column}
use Rattle.concerns.specs.Concerns.{concerned}
use Rattle.concerns.specs.declared.given.Names.{Names}
use Rattle.model.specs.Lapse.{Choice}
use Rattle.policy.specs.Rules.{PolicyRules}
use Rattle.lifecycle.specs.declared.due_object.Due.{Due}
use Rattle.concerns.specs.DueFor.{due_for, is_picked}
use Rattle.sqltables.specs.Contact as contact_table
use Rattle.sqltables.specs.declared.contact.ContactRow.{ContactRow}
use Rattle.sqltables.specs.Content.{Content}
use Rattle.sqltables.specs.Domain as domain_table
use Rattle.sqltables.specs.declared.domain.DomainRow.{DomainRow}
use Rattle.sqltables.specs.declared.host.HostRow.{HostRow}
use Rattle.sqltables.specs.Link as link_table
use Rattle.sqltables.specs.declared.link.LinkRow.{LinkRow}
use Rattle.sqltables.specs.Transfer as transfer_table
use Rattle.sqltables.specs.declared.transfer.TransferRow.{TransferRow}
use Rattle.sqlobjects.specs.inner.Stages.{NamedTable, named_contacts, named_domains, named_hosts, rows_named}
use Rattle.sqlderived.specs.inner.Finding.{contacts_until, domains_until, objects_in}

-- ---- whether anything is due at all

abbrev pub is_any : {R : Type 0} → List R → Bool
is_any rows = not (length rows == 0)

abbrev pub is_behind : ℕ → Content → Bool
is_behind t xs = is_any (take 1 (contacts_until t xs)) || is_any (take 1 (domains_until t xs))

-- ---- what is concerned

abbrev pub concerned_in : Option ℕ → Names → Content → Choice
concerned_in r g xs = concerned r g (objects_in xs)

-- of this the same is concerned as of all that is due by a moment
abbrev pub HasAllNear : PolicyRules → Option ℕ → Names → ℕ → Content → List Due → Type 0
HasAllNear p r g t xs due =
    filter (is_picked (concerned_in r g xs)) due ≡ due_for p r g t (objects_in xs)

-- ---- by the registrar

abbrev pub contacts_sponsored : Option ℕ → ℕ → Content → List ContactRow
contacts_sponsored r t xs = option_map_or (λ q. filter (contact_table.contact_of_sponsor_within (registrar_column q) (moment_column t)) xs.contacts) r []

abbrev pub domains_sponsored : Option ℕ → ℕ → Content → List DomainRow
domains_sponsored r t xs = option_map_or (λ q. filter (domain_table.domain_of_sponsor_within (registrar_column q) (moment_column t)) xs.domains) r []

-- the transfers that are pending, which it asked for or which take something away from it
abbrev pub pending_of : Option ℕ → Content → List TransferRow
pending_of None xs = []
pending_of (Some r) xs = filter (transfer_table.transfer_pending_by (registrar_column r)) xs.transfers ++ filter (transfer_table.transfer_pending_from (registrar_column r)) xs.transfers

abbrev pub contact_of_transfer : Content → TransferRow → List ContactRow
contact_of_transfer xs row = option_map_or (λ id. filter (contact_table.contact_with_id id) xs.contacts) row.contact []

abbrev pub domain_of_transfer : Content → TransferRow → List DomainRow
domain_of_transfer xs row = option_map_or (λ id. filter (domain_table.domain_with_id id) xs.domains) row.domain []

-- ---- by names

abbrev pub each_named : {R : Type 0} → NamedTable R → Content → List (List ℕ) → List R
each_named table xs names = flat_map (λ name. rows_named table name xs) names

-- the domains with the identifier of one, that one among them
abbrev pub domains_alike : Content → DomainRow → List DomainRow
domains_alike xs row = filter (domain_table.domain_with_roid row.creator row.serial) xs.domains

-- the domain to which a link belongs
abbrev pub domain_of_link : Content → LinkRow → List DomainRow
domain_of_link xs row = filter (domain_table.domain_with_id row.domain) xs.domains

-- the domains that may be due, and name the contact of a row
abbrev pub domains_to_contact : ℕ → Content → ContactRow → List DomainRow
domains_to_contact t xs row =
    filter (domain_table.domain_of_registrant_within row.id (moment_column t)) xs.domains
    ++ flat_map (domain_of_link xs) (filter (link_table.link_of_contact_within row.id (moment_column t)) xs.links)

abbrev pub domains_to_host : ℕ → Content → HostRow → List DomainRow
domains_to_host t xs row = flat_map (domain_of_link xs) (filter (link_table.link_of_host_within row.id (moment_column t)) xs.links)

abbrev pub domains_by_names : Names → ℕ → Content → List DomainRow
domains_by_names g t xs =
    flat_map (domains_alike xs) (each_named named_domains xs g.domains)
    ++ (flat_map (domains_to_contact t xs) (each_named named_contacts xs g.contacts)
    ++ flat_map (domains_to_host t xs) (each_named named_hosts xs g.hosts))

-- ---- all of them

-- where these transfers are pending
abbrev pub contacts_led : Option ℕ → List TransferRow → Names → ℕ → Content
    → List ContactRow
contacts_led r pending g t xs =
    contacts_sponsored r t xs
    ++ (flat_map (contact_of_transfer xs) pending
    ++ each_named named_contacts xs g.contacts)

abbrev pub domains_led : Option ℕ → List TransferRow → Names → ℕ → Content
    → List DomainRow
domains_led r pending g t xs =
    domains_sponsored r t xs
    ++ (flat_map (domain_of_transfer xs) pending
    ++ domains_by_names g t xs)

-- of these, those that may be due: no other is read
abbrev pub contacts_near : Option ℕ → Names → ℕ → Content → List ContactRow
contacts_near r g t xs = filter (contact_table.contact_within_due (moment_column t)) (contacts_led r (pending_of r xs) g t xs)

abbrev pub domains_near : Option ℕ → Names → ℕ → Content → List DomainRow
domains_near r g t xs = filter (domain_table.domain_within_due (moment_column t)) (domains_led r (pending_of r xs) g t xs)
