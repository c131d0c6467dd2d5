use Rattle.runs.proofs.CrashLemmas.{crashes-leave-runs, crashes-left-runs, events-go-on}
use Rattle.runs.proofs.crashes.crashes_leave_runs.Goals as goal

pub returns : goal.returns
returns c = record { leave = crashes-leave-runs; left = crashes-left-runs; go_on = events-go-on }
