use Rattle.server.proofs.AlikeSessionLemmas.{sessions-are-alike, sessions-are-sent-the-same, sessions-tell-the-same}
use Rattle.server.proofs.SessionRunLemmas.{sessions-are-answered, sessions-are-runs}
use Rattle.server.proofs.laws.sessions_are_runs.Goals as goal

pub returns : goal.returns
returns c = record {
  answered = sessions-are-answered;
  runs = sessions-are-runs;
  same = sessions-are-sent-the-same;
  alike = sessions-are-alike;
  hidden = sessions-tell-the-same;
}
