use Rattle.runs.proofs.PrivacyLemmas.{alike-runs-show-the-same, alike-runs-tell-the-same}
use Rattle.runs.proofs.laws.alike_runs_tell_the_same.Goals as goal

pub returns : goal.returns
returns c = record { answers = alike-runs-tell-the-same; public = alike-runs-show-the-same }
