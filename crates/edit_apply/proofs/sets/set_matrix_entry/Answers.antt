use Rattle.std.proofs.Common.{ap, refl, arith}
use Rattle.smps_words.specs.declared.entry.Entry.TheVariants.{Matrix}
use Rattle.scen_defs.specs.Program.{content, nodes_content}
use Rattle.edit_entries.specs.InPlace.{with_row_entry}
use Rattle.edit_apply.proofs.Homes.{lives_there}
use Rattle.edit_entries.proofs.OneRow.{once_there}
use Rattle.edit_apply.proofs.Keeping.{change_or_not_keeps, put_back}
use Rattle.edit_apply.proofs.sets.set_matrix_entry.Goals as goal

pub set_matrix-requires-clause-live : goal.set_matrix-requires-clause-live
set_matrix-requires-clause-live c = lives_there (content c.args.program.now) c.args.scenario.now (Matrix c.args.row c.args.column) c.args.place (nodes_content c.deref_mut.result.now) c.args.program.now.keeps c.requires.applies c.requires.place (ap nodes_content c.deref_mut.ensures.value)

pub set_matrix-requires-clause-once : goal.set_matrix-requires-clause-once
set_matrix-requires-clause-once c = once_there (content c.args.program.now) c.args.scenario.now c.args.row c.args.column c.args.place (nodes_content c.deref_mut.result.now) c.args.program.now.keeps c.requires.applies c.requires.place (ap nodes_content c.deref_mut.ensures.value)

pub invariant_of-program : goal.invariant_of-program
invariant_of-program c = record {
  keeps = put_back (content c.args.program.now) c.args.program.now.nodes.len c.set_matrix.new.nodes c.args.program.now.nodes.items (omega arith) (omega arith)
      (change_or_not_keeps c.set_matrix.result (content c.args.program.now) c.args.scenario.now (Matrix c.args.row c.args.column) c.args.value c.args.place (with_row_entry c.args.row c.args.column c.args.value) (nodes_content c.deref_mut.result.now) (nodes_content c.set_matrix.new.nodes)
      c.args.program.now.keeps c.requires.applies c.requires.place refl (ap nodes_content c.deref_mut.ensures.value) c.set_matrix.ensures.ok c.set_matrix.ensures.err);
}
