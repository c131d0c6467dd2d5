use Rattle.std.proofs.Common.{◌≡◌, ◌++◌, filter}
use Rattle.objects.specs.Hosts.{is_below}
use Rattle.mapbook.specs.Plain.{registry_in}
use Rattle.facts.specs.Facts.{subordinate}
use Rattle.mapbook.proofs.content.Content.subordinate.Given as goal

abbrev pub invariant-loop-name : goal.invariant-loop-name
invariant-loop-name l = l.names ++ filter (is_below l.domain) l.name-iterator ≡ subordinate (registry_in l.self) l.domain
