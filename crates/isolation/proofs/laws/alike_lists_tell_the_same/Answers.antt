use Rattle.isolation.proofs.RunLemmas.{alike-lists-show-the-same, alike-lists-tell-the-same, calls-are-steps-of-two}
use Rattle.isolation.proofs.laws.alike_lists_tell_the_same.Goals as goal

pub returns : goal.returns
returns c = record {
  calls = calls-are-steps-of-two;
  lists = alike-lists-tell-the-same;
  public = alike-lists-show-the-same;
}
