use Rattle.std.proofs.Common.{List, Option, ap, sym, subst, ◌∙◌}
use Rattle.scen_defs.specs.Program.{Node, Program, content, nodes_content, scenarios_content}
use Rattle.scen_defs.specs.Valid.{IsProgram}
use Rattle.scen_defs.proofs.Contents.{nodes_append}
use Rattle.edit_apply.proofs.apply_add.extend.Goals as goal

pub invariant_of-program-2 : goal.invariant_of-program-2
invariant_of-program-2 c = record {
  keeps = subst (λ (ns : List (Option Node)). let q : Program = record (content c.args.program.now) { nodes = ns; scenarios = scenarios_content c.args.scenarios.items } in IsProgram q)
      (sym (ap nodes_content c.in_ok-append.ensures.items ∙ nodes_append c.args.program.now.nodes.items c.args.nodes.items)) c.requires;
}
