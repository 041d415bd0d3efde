-- The edit is allowed.
use Rattle.std.proofs.Common.{◌≤◌, List, length, sym, subst, arith}
use Rattle.std.proofs.lemmas.Grind.{common_steps}
use Rattle.scen_defs.specs.Program.{content}
use Rattle.edit_defs.specs.declared.edit.Item.{Item}
use Rattle.edit_script.specs.Drafts.{Leads}
use Rattle.edit_script.specs.Script.{edit_item}
use Rattle.edit_script.proofs.Leading.{leads_edit, nodes_length, one_more}
use Rattle.edit_script.proofs.TableLemmas.{still_tables}
use Rattle.edit_script.proofs.draft.Draft.change.Goals as goal

pub returns-clause-good : goal.returns-clause-good
returns-clause-good c =
    let old = c.args.self.now in
    record {
      counted = c.in-Ok.ensures.counted;
      tables = still_tables (content old.program) (content c.apply_near.new.program) c.args.edit old.tables c.note.new.self c.requires.good.tables c.in-Ok.ensures.ok c.in_ok-note.ensures.columns c.in_ok-note.ensures.rows;
      commands = omega (arith, c.requires.few);
      items = one_more old.items.items c.push.new.self.items (edit_item old.work c.args.edit) old.commands c.in_ok-push.ensures.items c.requires.good.items;
      work = omega arith;
    }

pub returns-clause-leads : goal.returns-clause-leads
returns-clause-leads c =
    let old = c.args.self.now in
    let places : length (content old.program).nodes ≤ 1000000 = grind (arith, common_steps, nodes_length old.program.nodes.items, c.len.ensures, c.if-len-gt-MOST_PLACES.false) in
    λ start l. subst (λ (items : List Item). Leads start items (content c.apply_near.new.program)) (sym c.in_ok-push.ensures.items)
    (leads_edit start (content old.program) (content c.apply_near.new.program) old.items.items old.work c.args.edit places c.requires.asks c.in-Ok.ensures.cause c.in-Ok.ensures.ok l)
