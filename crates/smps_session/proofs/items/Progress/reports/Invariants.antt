use Rattle.std.proofs.Common.{◌≡◌, length}
use Rattle.scen_defs.specs.Program.{content}
use Rattle.edit_defs.specs.Limits.{counts}
use Rattle.smps_session.proofs.ToldLemmas.{HasCome}
use Rattle.nested_method.specs.Stands.{HasFewNodes, StandsOn, StandsCleared}
use Rattle.smps_session.proofs.items.Progress.reports.Given as goal

abbrev pub invariant-loop-rest : goal.invariant-loop-rest
invariant-loop-rest g l = record {
  counted : l.self.counted ≡ counts (content l.program).nodes;
  stands : StandsOn (content l.program) l.budget l.self.method;
  cleared : HasFewNodes (content l.program) → StandsCleared l.self.method;
  come : HasCome l.budget l.stated (content l.fn.program) l.items l.rest (content l.program)
      l.self.method l.self.number l.tolds.items;
}

abbrev pub decreases-loop-rest : goal.decreases-loop-rest
decreases-loop-rest g l = length l.rest
