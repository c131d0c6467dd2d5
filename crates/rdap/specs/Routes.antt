-- The routes of requests (RFC 9082, 3.1), as a router keeps them: in the order of their paths.
use Rattle.std.specs.Prelude.{ℕ, ◌+◌, List, [], ◌∷◌, ◌++◌, Some, codes, length, unwrap_or}
use Rattle.matchit.specs.Params.{named, walk}
use Rattle.matchit.specs.Router.{RouteOf}
use Rattle.matchit.specs.Rows.{RowsOf, param_token}
use Rattle.rdap.specs.Requests.{entity_at}
use Rattle.rdap.specs.declared.request.Request.{Request}
use Rattle.rdap.specs.declared.request.Request.TheVariants as requests
use Rattle.rdap.specs.declared.routes.Kind.{Kind}
use Rattle.rdap.specs.declared.routes.Kind.TheVariants.{Domain, Nameserver, Entity, Help}

-- the row of a path that is asked for as it is
abbrev pub fixed_route : List ℕ → Kind → List ℕ × RouteOf Kind
fixed_route path kind = (path, record { pattern = path; text = path; names = []; value = kind })

-- the row of all segments below a folder: the segment is called `name`
abbrev pub below : List ℕ → Kind → List ℕ × RouteOf Kind
below folder kind = (
  folder ++ param_token ∷ [],
  record {
    pattern = folder ++ param_token ∷ [];
    text = folder ++ codes "{name}";
    names = (length folder + 1, length folder + 5) ∷ [];
    value = kind;
  },
)

abbrev pub routes : RowsOf (RouteOf Kind)
routes =
    below (codes "/domain/") Domain
    ∷ below (codes "/entity/") Entity
    ∷ fixed_route (codes "/help") Help
    ∷ below (codes "/nameserver/") Nameserver
    ∷ []

-- what is asked for by a kind and a name
abbrev pub request_for : Kind → List ℕ → Request
request_for Domain name = requests.Domain name
request_for Nameserver name = requests.Nameserver name
request_for Entity name = entity_at (Some name)
request_for Help name = requests.Help

-- the segment of a path that a route calls `name`
abbrev pub name_of : RouteOf Kind → List ℕ → List ℕ
name_of route path = unwrap_or (named (codes "name") (walk route.pattern route.text path route.names 0 0)) []
