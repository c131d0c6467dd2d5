use Rattle.std.proofs.Common.{◌≡◌, ℕ, ◌++◌, List, filter, map}
use Rattle.mapbook.proofs.Words.{Domain, domains_naming}
use Rattle.objects.specs.Links.{names_host}
use Rattle.mapbook.specs.Plain.{registry_in}
use Rattle.mapbook.proofs.content.Content.domains_naming.Given as goal

-- the names found, and those of what is left
abbrev pub invariant-loop-name : goal.invariant-loop-name
invariant-loop-name l =
    l.names ++ map (λ (e : List ℕ × Domain). e.0) (filter (λ (e : List ℕ × Domain). names_host l.host e.1.links) l.name-iterator) ≡ domains_naming l.host (registry_in l.self)
