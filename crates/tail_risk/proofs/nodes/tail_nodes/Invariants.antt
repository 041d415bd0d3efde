use Rattle.std.proofs.Common.{◌≡◌, ◌++◌, ◌-◌, length}
use Rattle.rationals.specs.Passes.{then_value}
use Rattle.scen_defs.specs.Program.{content, nodes_content}
use Rattle.tail_risk.specs.TailWalk.{nodes_walk}
use Rattle.tail_risk.proofs.nodes.tail_nodes.Given as goal

abbrev pub invariant-loop-number : goal.invariant-loop-number
invariant-loop-number l = then_value (λ rest. nodes_content l.nodes.items ++ rest) (nodes_walk (content l.program) l.rates l.number (length l.program.nodes.items - l.number))
    ≡ nodes_walk (content l.program) l.rates 0 (length l.program.nodes.items)
