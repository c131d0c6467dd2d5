use Rattle.std.proofs.Common.{refl}
use Rattle.model.specs.Lapse.{lapsed}
use Rattle.registry.specs.{Crashes.Makes, Faces.IsLookUp}
use Rattle.runs.specs.Crashes.{asking}
use Rattle.isolation.specs.{Public.public_part, Runs.{inspected, inspection, look_up, shown}}
use Rattle.runs.proofs.CrashLemmas.{carried-out, stepped}
use Rattle.runs.proofs.crashes.look_ups_are_events.Goals as goal

pub returns : goal.returns
returns g c = record {
  look_ups = λ p find lapses moment result old new public step done.
      carried-out p (asking p moment look_up) (Makes (IsLookUp p find lapses moment)) result old new
      (λ before after under it. (under, ((shown (public_part p (lapsed p moment before.registry)), record { answered = refl; left = it.0.1.left }), it.1)))
      (stepped (IsLookUp p find lapses moment) result old new step done.terms) done;
  inspections = λ p find lapses moment result old new step done.
      carried-out p (asking p moment inspection) (Makes (IsLookUp p find lapses moment)) result old new
      (λ before after under it. (under, ((inspected (lapsed p moment before.registry), record { answered = refl; left = it.0.1.left }), it.1)))
      (stepped (IsLookUp p find lapses moment) result old new step done.terms) done;
}
