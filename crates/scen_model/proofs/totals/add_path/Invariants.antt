use Rattle.std.proofs.Common.{drop}
use Rattle.scen_model.specs.Gathered.{everywhere}
use Rattle.scen_model.proofs.Gathers.{Same, path_walk}
use Rattle.scen_model.proofs.totals.add_path.Given as goal

abbrev pub invariant-loop-index : goal.invariant-loop-index
invariant-loop-index l = Same everywhere (path_walk l.probability) l.sums (drop l.index l.path) l.initial.sums l.path
