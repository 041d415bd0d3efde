-- The copy is the program, and has no items.
use Rattle.std.proofs.Common.{◌≡◌, ◌∙◌, ap₂, sym, subst, ◌≤◌, false, List, Option, length, arith}
use Rattle.scen_defs.specs.declared.program.Node.{Node as NodeOf}
use Rattle.scen_defs.specs.Program.{Program, content, nodes_content}
use Rattle.edit_defs.specs.declared.edit.Item.{Item}
use Rattle.edit_defs.specs.Limits.{counts}
use Rattle.edit_script.specs.Script.{Stand}
use Rattle.edit_script.proofs.Copies.{is_copy}
use Rattle.edit_script.proofs.Leading.{leads_start}
use Rattle.edit_script.proofs.draft.Draft.start.Goals as goal

pub returns-clause-stand : goal.returns-clause-stand
returns-clause-stand c =
    let is : content c.in_ok-program.program ≡ content c.args.program.now = c.in_ok-program.ensures ∙ is_copy (content c.args.program.now) in
    ap₂ (λ (p : Program) (items : List Item). (let s : Stand = record { commands = 0; program = p; items = items; work = 0; reported = false } in s)) is c.new.ensures.items

pub returns-clause-good : goal.returns-clause-good
returns-clause-good c =
    record {
      counted = subst (λ (nodes : List (Option NodeOf)). c.in_ok-counted.counted ≡ counts (nodes_content nodes)) c.deref.ensures.value c.in_ok-counted.ensures;
      commands = omega arith;
      tables = c.in_ok-tables.ensures;
      items = subst (λ (items : List Item). length items ≤ 0) (sym c.new.ensures.items) (omega arith);
      work = omega arith;
    }

pub returns-clause-leads : goal.returns-clause-leads
returns-clause-leads c =
    let is : content c.in_ok-program.program ≡ content c.args.program.now = c.in_ok-program.ensures ∙ is_copy (content c.args.program.now) in
    leads_start (content c.args.program.now) (content c.in_ok-program.program) c.new.result.items c.new.ensures.items is
