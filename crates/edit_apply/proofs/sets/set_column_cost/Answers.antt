use Rattle.std.proofs.Common.{ap, refl, arith}
use Rattle.smps_words.specs.declared.entry.Entry.TheVariants.{Cost}
use Rattle.scen_defs.specs.Program.{content, nodes_content}
use Rattle.edit_entries.specs.InPlace.{with_cost}
use Rattle.edit_apply.proofs.Homes.{lives_there}
use Rattle.edit_apply.proofs.Keeping.{change_or_not_keeps, put_back}
use Rattle.edit_apply.proofs.sets.set_column_cost.Goals as goal

pub set_cost-requires : goal.set_cost-requires
set_cost-requires c = lives_there (content c.args.program.now) c.args.scenario.now (Cost c.args.column) c.args.place (nodes_content c.deref_mut.result.now) c.args.program.now.keeps c.requires.applies c.requires.place (ap nodes_content c.deref_mut.ensures.value)

pub invariant_of-program : goal.invariant_of-program
invariant_of-program c = record {
  keeps = put_back (content c.args.program.now) c.args.program.now.nodes.len c.set_cost.new.nodes c.args.program.now.nodes.items (omega arith) (omega arith)
      (change_or_not_keeps c.set_cost.result (content c.args.program.now) c.args.scenario.now (Cost c.args.column) c.args.value c.args.place (with_cost c.args.column c.args.value) (nodes_content c.deref_mut.result.now) (nodes_content c.set_cost.new.nodes)
      c.args.program.now.keeps c.requires.applies c.requires.place refl (ap nodes_content c.deref_mut.ensures.value) c.set_cost.ensures.ok c.set_cost.ensures.err);
}
