use Rattle.server.proofs.PublicLemmas.{public_parts, public_texts}
use Rattle.server.proofs.laws.public_texts_agree.Goals as goal

pub returns : goal.returns
returns c = record { texts = public_texts; parts = public_parts }
