use Rattle.std.proofs.Common.{◌≡◌, map}
use Rattle.objects.specs.StatusTexts.{status_text}
use Rattle.sqlcolumns.proofs.texts.named.Given as goal

abbrev pub invariant-loop-word : goal.invariant-loop-word
invariant-loop-word l = map status_text l.statuses.items ≡ map (λ w. w.now) l.yielded
