use Rattle.std.proofs.Common.{◌≡◌, drop}
use Rattle.scen_defs.specs.Program.{content}
use Rattle.scen_nodes.specs.Derived.{all_fit}
use Rattle.scen_nodes.proofs.fitting.all_fit.Given as goal

abbrev pub invariant-loop-value : goal.invariant-loop-value
invariant-loop-value l = all_fit (content l.program) l.of_rows (drop l.value-index l.values) ≡ all_fit (content l.program) l.of_rows l.values
