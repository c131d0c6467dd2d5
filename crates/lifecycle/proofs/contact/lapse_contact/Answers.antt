use Rattle.lifecycle.proofs.ContactLaws.{contact-result}
use Rattle.lifecycle.proofs.contact.lapse_contact.Goals as goal

pub returns : goal.returns
returns c = contact-result c.args.moment c.args.contact.now _ c.lapse_any.ensures
