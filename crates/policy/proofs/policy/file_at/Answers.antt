use Rattle.policy.proofs.TextLemmas.{is_label-reads}
use Rattle.policy.proofs.policy.file_at.Goals as goal

pub new-requires : goal.new-requires
new-requires c = is_label-reads c.in_ok-label.label c.in_ok-label.ensures.fits
