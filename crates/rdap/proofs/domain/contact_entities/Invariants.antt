use Rattle.std.proofs.Common.{◌≡◌, map, take}
use Rattle.serde_json.specs.View.{view}
use Rattle.rdap.specs.Bodies.{contact_entity}
use Rattle.rdap.proofs.domain.contact_entities.Given as goal

abbrev pub invariant-loop-contact : goal.invariant-loop-contact
invariant-loop-contact l = map view l.list.items ≡ map (contact_entity l.links) (take l.contact-index l.contacts)
