-- A host's new name in ordered maps: in one domain after another.
use Rattle.std.specs.Prelude.{ℕ, List, map, filter, fold, Option, Some, None}
use Rattle.std.specs.Cmp.Lexicographic.{slice_cmp}
use Rattle.std.specs.FinMap.{FinMap, entries, get, insert}
use Rattle.std.specs.Ordering.{nat_cmp}
use Rattle.model.specs.Registry.{Registry}
use Rattle.objects.specs.Links.{names_host}
use Rattle.decisions.specs.Changes.{with_host_renamed}
use Rattle.books.specs.Book.{Stored}
use Rattle.books.specs.Tables.{with_domains}

-- the domains that name a host, by name
abbrev pub domains_naming : List ℕ → Registry → List (List ℕ)
domains_naming host s = map (λ e. e.0) (filter (λ e. names_host host e.1.links) (entries s.domains))

-- a value, where there is one, is another
abbrev pub amended_entry : {X : Type 0} → (X → X) → FinMap (slice_cmp nat_cmp) X → List ℕ → Option X
    → FinMap (slice_cmp nat_cmp) X
amended_entry f m name None = m
amended_entry f m name (Some x) = insert m name (f x)

-- one domain names a host by its new name
abbrev pub host_renamed_at : List ℕ → List ℕ → List ℕ → Stored → Stored
host_renamed_at old new name s = with_domains (amended_entry (with_host_renamed old new) s.registry.domains name (get s.registry.domains name)) s

-- domains name a host by its new name, one after another
abbrev pub host_renamed_in : List ℕ → List ℕ → List (List ℕ) → Stored → Stored
host_renamed_in old new names s = fold (λ s name. host_renamed_at old new name s) s names
