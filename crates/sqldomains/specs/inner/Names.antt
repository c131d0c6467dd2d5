-- What rows give under names, and the names of hosts.
use Rattle.std.specs.Prelude.{ℕ, ◌==◌, nat_lt, Bool, count_by, List, [], ◌∷◌, filter, Option, Some, None, if◌then◌else◌, is_some, option_map}
use Rattle.std.specs.Cmp.Lexicographic.{slice_cmp}
use Rattle.std.specs.FinMap.{FinMap, get, insert, keys}
use Rattle.std.specs.Ordering.{nat_cmp}
use Rattle.objects.specs.Hosts.{is_below}
use Rattle.sqlcolumns.specs.Above.{above}
use Rattle.sqlcolumns.specs.Steps.{◌>>=◌}
use Rattle.sqltables.specs.Content.{Content}
use Rattle.sqltables.specs.Host.{host_with_above}
use Rattle.sqltables.specs.declared.host.HostRow.{HostRow}
use Rattle.sqlobjects.specs.Objects.{hosts_of}

-- ---- read row by row

-- things under names, in the order of their bytes
abbrev pub Named : Type 0 → Type 0
Named V = FinMap (slice_cmp nat_cmp) V

-- with what a row gives under a name, if it gives something
abbrev pub with_one : {V : Type 0} → Named V → Option (List ℕ × V) → Option (Named V)
with_one m o = option_map (λ e. insert m e.0 e.1) o

-- with what these rows give, if each gives something
abbrev pub with_read : {R V : Type 0} → (R → Option (List ℕ × V)) → Named V → List R → Option (Named V)
with_read read m [] = Some m
with_read read m (row ∷ rows) = do
  m ← with_one m (read row)
  with_read read m rows

-- ---- hosts

-- the hosts below a domain
abbrev pub hosts_below : List ℕ → Content → List (List ℕ)
hosts_below domain xs = filter (is_below domain) (keys (hosts_of xs))

abbrev pub is_dotted : List ℕ → Bool
is_dotted name = nat_lt 0 (count_by (λ b. b == 46) name)

-- the rows of all hosts that can be below a domain: these have its last two labels above them, if it has two
abbrev pub rows_around : List ℕ → Content → List HostRow
rows_around domain xs = if is_dotted domain then filter (host_with_above (above domain)) xs.hosts else xs.hosts

-- the name, if a host has it, and nothing besides
abbrev pub host_standing : Content → List ℕ → Option (List ℕ × Unit {0})
host_standing xs name = if is_some (get (hosts_of xs) name) then Some (name, tt) else None

-- with a name that a host has to have, and with several
abbrev pub with_host : Content → Named (Unit {0}) → List ℕ → Option (Named (Unit {0}))
with_host xs names name = with_one names (host_standing xs name)

abbrev pub with_hosts : Content → Named (Unit {0}) → List (List ℕ) → Option (Named (Unit {0}))
with_hosts xs = with_read (host_standing xs)
