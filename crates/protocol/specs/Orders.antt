-- The object that an order of the operator names.
use Rattle.std.specs.Prelude.{ℕ, List, Option, Some, None, Result, Ok, Err}
use Rattle.names.specs.declared.fault.NameFault.{NameFault}
use Rattle.names.specs.Names.{domain_of, host_of}
use Rattle.names.specs.Zone.{ZoneRules}
use Rattle.objects.specs.declared.roid.ObjectKind.{ObjectKind}
use Rattle.objects.specs.declared.roid.ObjectKind.TheVariants.{Contact, Domain, Host}
use Rattle.protocol.specs.declared.order.StatusOrder.{StatusOrder}

abbrev pub if_read : Result (List ℕ) NameFault → Option (List ℕ)
if_read (Ok name) = Some name
if_read (Err fault) = None

-- the name that a text means, if it reads as one of an object of this kind
abbrev pub named_by : ZoneRules → ObjectKind → List ℕ → Option (List ℕ)
named_by zone Contact text = Some text
named_by zone Domain text = if_read (domain_of zone text)
named_by zone Host text = if_read (host_of zone text)

abbrev pub name_ordered : ZoneRules → StatusOrder → Option (List ℕ)
name_ordered zone o = named_by zone o.kind o.name
