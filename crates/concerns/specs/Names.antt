-- What a command names: what it acts on, and all that it gives or takes away (RFC 5730, 2.9).
use Rattle.std.specs.Prelude.{ℕ, List, [], ◌∷◌, ◌++◌, Option, Some, None}
use Rattle.std.specs.List.{filter_map}
use Rattle.names.specs.Zone.{last_two_of}
use Rattle.objects.specs.declared.roid.ObjectKind.{ObjectKind}
use Rattle.objects.specs.declared.roid.ObjectKind.TheVariants as kinds
use Rattle.protocol.specs.declared.command.Command.{Command}
use Rattle.protocol.specs.Requests.{Asks, asked, asks_of}
use Rattle.concerns.specs.declared.given.Names.{Names}

abbrev pub listed : {A : Type 0} → Option A → List A
listed None = []
listed (Some x) = x ∷ []

abbrev pub contacts_in : Asks → List (List ℕ)
contacts_in a = ((((a.contacts ++ listed a.registrant) ++ a.adds.admin) ++ a.adds.tech) ++ a.removes.admin) ++ a.removes.tech

abbrev pub hosts_in : Asks → List (List ℕ)
hosts_in a = ((a.hosts ++ listed a.new_host) ++ a.adds.hosts) ++ a.removes.hosts

-- the superordinate domains of hosts (RFC 5732, 1)
abbrev pub superordinates : List (List ℕ) → List (List ℕ)
superordinates hosts = filter_map last_two_of hosts

-- what it asks for, and the superordinate domains of its hosts
abbrev pub named_in : Asks → Names
named_in a = record { contacts = contacts_in a; domains = a.domains ++ superordinates (hosts_in a); hosts = hosts_in a }

abbrev pub no_names : Names
no_names = record { contacts = []; domains = []; hosts = [] }

-- an ill-formed command names nothing; another does also where it is refused
abbrev pub named_by : Command → Names
named_by c = asked no_names (λ q. named_in (asks_of q)) c

-- what an info of an object names
abbrev pub named_of : ObjectKind → List ℕ → Names
named_of kinds.Contact name = record { contacts = name ∷ []; domains = []; hosts = [] }
named_of kinds.Domain name = record { contacts = []; domains = name ∷ []; hosts = [] }
named_of kinds.Host name = record { contacts = []; domains = superordinates (name ∷ []); hosts = name ∷ [] }
