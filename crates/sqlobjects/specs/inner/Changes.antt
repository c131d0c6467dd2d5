-- What calls make of contacts and hosts.
use Rattle.std.specs.Prelude.{◌≡◌, ℕ, ℤ, true, if◌then◌else◌, List, filter, Option, Some, None, option_map}
use Rattle.std.specs.Cmp.Lexicographic.{slice_cmp}
use Rattle.std.specs.FinMap.{FinMap, insert, remove}
use Rattle.std.specs.Ordering.{nat_cmp}
use Rattle.std.specs.Str.{bytes_eq}
use Rattle.sqlite_rules.specs.Lists.{Has}
use Rattle.objects.specs.declared.contact.Contact.{Contact}
use Rattle.objects.specs.declared.host.Host.{Host}
use Rattle.sqltables.specs.Content.{Content}
use Rattle.sqltables.specs.declared.host.HostRow.{HostRow}
use Rattle.sqltables.specs.Transfer.{transfer_with_domain}
use Rattle.sqltables.specs.inner.Consistent.{IsConsistent}
use Rattle.sqlobjects.specs.Objects.{contacts_of, hosts_of}
use Rattle.sqlobjects.specs.Sponsors.{is_sponsor_right, sponsors_are_right}
use Rattle.sqlobjects.specs.inner.Stages.{AreOtherNamesKept}
use Rattle.sqlobjects.specs.Changes.{contact_name_by_number, host_name_by_number}

-- under a name is this, or nothing
abbrev pub with_named : {X : Type 0} → FinMap (slice_cmp nat_cmp) X → List ℕ → Option X
    → FinMap (slice_cmp nat_cmp) X
with_named m k None = remove m k
with_named m k (Some x) = insert m k x

-- Under a name is this contact, or none. No other contact is changed, no host, no domain's
-- transfer and no row of another table, and a number leads to no other name than before.
pub record IsContactPut (name : List ℕ) (value : Option Contact) (old new : Content) : Type 0 where
  pub contacts : contacts_of new ≡ with_named (contacts_of old) name value
  pub hosts : hosts_of new ≡ hosts_of old
  pub metas : new.metas ≡ old.metas
  pub days : new.days ≡ old.days
  pub accounts : new.accounts ≡ old.accounts
  pub domains : new.domains ≡ old.domains
  pub host_rows : new.hosts ≡ old.hosts
  pub addresses : new.addresses ≡ old.addresses
  pub links : new.links ≡ old.links
  pub lines : new.lines ≡ old.lines
  pub messages : new.messages ≡ old.messages
  pub transfers : (id : ℤ) → filter (transfer_with_domain id) new.transfers ≡ filter (transfer_with_domain id) old.transfers
  pub names : (id : ℤ) (n m : List ℕ) → contact_name_by_number old id ≡ Some n → contact_name_by_number new id ≡ Some m
      → n ≡ m
  pub consistent : IsConsistent old × IsConsistent new

-- The same of a host. No contact is changed, no other host's row, and no row of another table but those
-- of addresses. The row of the name, if there was one, had the sponsor that it was to have, and so has
-- that which is there now.
pub record IsHostPut (name : List ℕ) (value : Option Host) (old new : Content) : Type 0 where
  pub hosts : hosts_of new ≡ with_named (hosts_of old) name value
  pub contacts : contacts_of new ≡ contacts_of old
  pub metas : new.metas ≡ old.metas
  pub days : new.days ≡ old.days
  pub accounts : new.accounts ≡ old.accounts
  pub contact_rows : new.contacts ≡ old.contacts
  pub domains : new.domains ≡ old.domains
  pub links : new.links ≡ old.links
  pub lines : new.lines ≡ old.lines
  pub messages : new.messages ≡ old.messages
  pub transfers : new.transfers ≡ old.transfers
  pub others : AreOtherNamesKept (λ (r : HostRow). r.name) name old.hosts new.hosts
  pub sponsor_was : (row : HostRow) → Has old.hosts row → row.name ≡ name
      → is_sponsor_right old row ≡ true
  pub sponsor_is : (row : HostRow) → Has new.hosts row → row.name ≡ name
      → is_sponsor_right new row ≡ true
  pub names : (id : ℤ) (n m : List ℕ) → host_name_by_number old id ≡ Some n → host_name_by_number new id ≡ Some m
      → n ≡ m
  pub consistent : IsConsistent old × IsConsistent new

-- a name, or in place of the one the other
abbrev pub new_name : List ℕ → List ℕ → List ℕ → List ℕ
new_name from to name = if bytes_eq name from then to else name

-- The row of the host of one name is that of this host, whose name no row had, under the number that it
-- has: what leads to the one leads to the other from then on. No contact is changed, no other host, and no
-- row of another table but those of addresses, and the sponsors of hosts are as right as they were.
pub record IsRowRenamed (from : List ℕ) (h : Host) (old new : Content) : Type 0 where
  pub hosts : hosts_of new ≡ with_named (with_named (hosts_of old) from None) h.name (Some h)
  pub contacts : contacts_of new ≡ contacts_of old
  pub metas : new.metas ≡ old.metas
  pub days : new.days ≡ old.days
  pub accounts : new.accounts ≡ old.accounts
  pub contact_rows : new.contacts ≡ old.contacts
  pub domains : new.domains ≡ old.domains
  pub links : new.links ≡ old.links
  pub lines : new.lines ≡ old.lines
  pub messages : new.messages ≡ old.messages
  pub transfers : new.transfers ≡ old.transfers
  pub names : (id : ℤ) → host_name_by_number new id ≡ option_map (new_name from h.name) (host_name_by_number old id)
  pub apart : from ≡ h.name → ⊥
  pub free : (id : ℤ) → host_name_by_number old id ≡ Some h.name → ⊥
  pub sponsors : sponsors_are_right new ≡ sponsors_are_right old
  pub consistent : IsConsistent old × IsConsistent new
