use Rattle.std.proofs.Common.{ap, List, ◌∙◌, arith}
use Rattle.smps_words.specs.declared.entry.Entry.TheVariants.{Rhs}
use Rattle.scen_defs.specs.declared.program.Row.{Row}
use Rattle.scen_defs.specs.Valid.{row_at}
use Rattle.scen_defs.specs.Program.{content, nodes_content}
use Rattle.edit_defs.specs.Intervals.{right_side}
use Rattle.edit_entries.specs.InPlace.{with_row_ends}
use Rattle.edit_apply.proofs.Homes.{lives_there}
use Rattle.edit_entries.proofs.OneRow.{once_right}
use Rattle.edit_apply.proofs.Keeping.{change_keeps, put_back}
use Rattle.edit_apply.proofs.sets.set_right_side.Goals as goal

pub set_ends-requires-clause-live : goal.set_ends-requires-clause-live
set_ends-requires-clause-live c = lives_there (content c.args.program.now) c.args.scenario.now (Rhs c.args.row) c.args.place (nodes_content c.deref_mut.result.now) c.args.program.now.keeps c.requires.applies c.requires.place (ap nodes_content c.deref_mut.ensures.value)

pub set_ends-requires-clause-once : goal.set_ends-requires-clause-once
set_ends-requires-clause-once c = once_right (content c.args.program.now) c.args.scenario.now c.args.row c.args.place (nodes_content c.deref_mut.result.now) c.args.program.now.keeps c.requires.applies c.requires.place (ap nodes_content c.deref_mut.ensures.value)

pub invariant_of-program : goal.invariant_of-program
invariant_of-program c = record {
  keeps = put_back (content c.args.program.now) c.args.program.now.nodes.len c.set_ends.new.nodes c.args.program.now.nodes.items (omega arith) (omega arith)
      (change_keeps (content c.args.program.now) c.args.scenario.now (Rhs c.args.row) c.args.value c.args.place (with_row_ends c.args.row c.in_ok-ends.ends) (nodes_content c.deref_mut.result.now) (nodes_content c.set_ends.new.nodes)
      c.args.program.now.keeps c.requires.applies c.requires.place
      (ap (with_row_ends c.args.row) (c.in_ok-ends.ensures.ends ∙ ap (λ (rows : List Row). right_side (row_at rows c.args.row) c.args.value) c.deref.ensures.value))
      (ap nodes_content c.deref_mut.ensures.value) c.set_ends.ensures);
}
