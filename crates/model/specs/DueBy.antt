-- All objects of a registry that are due by a moment, in the order in which they lapse.
use Rattle.std.specs.Prelude.{ℕ, List, []}
use Rattle.std.specs.FinMap.{entries}
use Rattle.lifecycle.specs.DueObjects.{contact_due, domain_due, found_due}
use Rattle.lifecycle.specs.declared.due_object.Due.{Due}
use Rattle.model.specs.Registry.{Registry}
use Rattle.policy.specs.Rules.{PolicyRules}

abbrev pub due_by : PolicyRules → ℕ → Registry → List Due
due_by p t s = found_due (domain_due p t) (found_due (contact_due t) [] (entries s.contacts)) (entries s.domains)
