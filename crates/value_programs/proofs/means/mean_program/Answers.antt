use Rattle.std.proofs.Common.{ℕ, List, sym, subst}
use Rattle.scen_defs.specs.Program.{content, nodes_content}
use Rattle.scen_defs.specs.Valid.{IsProgram}
use Rattle.value_programs.specs.Line.{in_line}
use Rattle.value_programs.proofs.MeanKeeps.{mean_keeps}
use Rattle.value_programs.proofs.means.mean_program.Goals as goal

pub in_line-requires : goal.in_line-requires
in_line-requires c = subst (λ (name : List ℕ). IsProgram (in_line (content c.args.program.now) name (nodes_content c.in_ok-nodes.nodes.items))) (sym c.in_ok-name.ensures)
    (mean_keeps (content c.args.program.now) c.args.tree.now (nodes_content c.in_ok-nodes.nodes.items) c.args.program.now.keeps c.requires c.in_ok-nodes.ensures)
