use Rattle.std.proofs.Common.{◌≡◌, ◌-◌, ◌++◌, length, get_or}
use Rattle.rationals.specs.Rational.{zero_ℚ}
use Rattle.rationals.specs.Passes.{then_value}
use Rattle.scen_defs.specs.Program.{content, nodes_content}
use Rattle.value_programs.specs.Mean.{mean_nodes}
use Rattle.value_programs.proofs.means.mean_nodes.Given as goal

abbrev pub invariant-loop-stage : goal.invariant-loop-stage
invariant-loop-stage l =
    then_value (λ rest. nodes_content l.nodes.items ++ rest) (mean_nodes (content l.program) (λ n. get_or l.tree.chances.totals n zero_ℚ) l.stage (length l.program.periods.items - l.stage))
    ≡ mean_nodes (content l.program) (λ n. get_or l.tree.chances.totals n zero_ℚ) 0 (length l.program.periods.items)
