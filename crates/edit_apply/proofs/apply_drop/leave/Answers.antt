use Rattle.std.proofs.Common.{◌≡◌, Bool, List, Option, ap₂, sym, subst, ◌∙◌, arith}
use Rattle.scen_defs.specs.declared.program.Node.{Node as NodeOf}
use Rattle.scen_defs.specs.Program.{Node, Program, content, nodes_content, scenarios_content}
use Rattle.scen_defs.specs.Valid.{IsProgram}
use Rattle.edit_apply.specs.Kept.{kept_from}
use Rattle.edit_apply.proofs.Keeping.{put_back}
use Rattle.edit_apply.proofs.apply_drop.leave.Goals as goal

pub invariant_of-program : goal.invariant_of-program
invariant_of-program c =
    let p : Program = record (content c.args.program.now) { scenarios = scenarios_content c.args.left.scenarios.items } in
    let is : nodes_content c.keep.new.nodes ≡ kept_from c.args.left.marks.items 0 (content c.args.program.now).nodes =
    c.keep.ensures ∙ ap₂ (λ (ms : List Bool) (ns : List (Option NodeOf)). kept_from ms 0 (nodes_content ns)) c.deref.ensures.value c.deref_mut.ensures.value in
    record {
      keeps = put_back p c.args.program.now.nodes.len c.keep.new.nodes c.args.program.now.nodes.items (omega arith) (omega arith)
          (subst (λ (ns : List (Option Node)). let q : Program = record p { nodes = ns } in IsProgram q) (sym is) c.requires);
    }
