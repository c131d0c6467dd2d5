-- The objects of a registry, whatever their kind.
use Rattle.std.specs.Prelude.{ℕ, List, Option, option_and_then, option_map}
use Rattle.std.specs.FinMap.{get}
use Rattle.names.specs.Zone.{ZoneRules}
use Rattle.objects.specs.declared.roid.ObjectKind.{ObjectKind}
use Rattle.objects.specs.declared.roid.ObjectKind.TheVariants as kinds
use Rattle.objects.specs.declared.status.Status.{Status}
use Rattle.protocol.specs.declared.order.StatusOrder.{StatusOrder}
use Rattle.protocol.specs.Orders.{name_ordered}
use Rattle.model.specs.declared.object.Object.{Object}
use Rattle.model.specs.declared.object.Object.TheVariants as objects
use Rattle.model.specs.Registry.{Registry}

-- the object of a kind under a name
abbrev pub object_at : Registry → ObjectKind → List ℕ → Option Object
object_at s kinds.Contact name = option_map objects.Contact (get s.contacts name)
object_at s kinds.Domain name = option_map objects.Domain (get s.domains name)
object_at s kinds.Host name = option_map objects.Host (get s.hosts name)

-- the object that an order names
abbrev pub object_ordered : ZoneRules → StatusOrder → Registry → Option Object
object_ordered zone o s = option_and_then (object_at s o.kind) (name_ordered zone o)

-- the statuses that are set on an object
abbrev pub statuses_of : Object → List Status
statuses_of (objects.Contact c) = c.statuses
statuses_of (objects.Domain d) = d.statuses
statuses_of (objects.Host h) = h.statuses
