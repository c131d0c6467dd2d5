use Rattle.std.proofs.{Common.{ℕ, ap, take, ◌∙◌}, lemmas.List.take_min}
use Rattle.rdap.specs.Heads.{most_bytes}
use Rattle.rdap.proofs.head.front_of.Goals as goal

pub returns : goal.returns
returns c = ap (λ (n : ℕ). take n c.args.bytes.now) c.min.ensures ∙ take_min most_bytes c.args.bytes.now
