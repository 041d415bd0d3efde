use Rattle.std.proofs.Common.{◌≡◌, ◌≤◌, ◌++◌, drop, get_or}
use Rattle.rationals.specs.Rational.{zero_ℚ}
use Rattle.rationals.specs.Passes.{then_value}
use Rattle.scen_defs.specs.Program.{nodes_content}
use Rattle.value_programs.specs.Mean.{mean_rows}
use Rattle.value_programs.proofs.means.mean_rows.Given as goal

abbrev pub invariant-loop-number : goal.invariant-loop-number
invariant-loop-number l = (l.place ≤ l.number)
    × (then_value (λ rest. l.all.items ++ rest) (mean_rows (nodes_content l.nodes) (λ n. get_or l.tree.chances.totals n zero_ℚ) l.over l.stage l.number l.place (drop l.number l.rows))
    ≡ mean_rows (nodes_content l.nodes) (λ n. get_or l.tree.chances.totals n zero_ℚ) l.over l.stage 0 0 l.rows)
