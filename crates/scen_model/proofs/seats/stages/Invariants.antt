use Rattle.std.proofs.Common.{◌≡◌, length}
use Rattle.scen_model.specs.Gathered.{AreStages}
use Rattle.scen_model.proofs.seats.stages.Given as goal

abbrev pub invariant-loop-column : goal.invariant-loop-column
invariant-loop-column l = record {
  long : length l.stages.items ≡ l.column-index;
  stages : AreStages l.columns l.stages.items;
}
