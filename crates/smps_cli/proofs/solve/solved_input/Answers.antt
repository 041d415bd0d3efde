use Rattle.scen_defs.specs.Program.{content}
use Rattle.input_files.specs.Unfetched.{texts_view}
use Rattle.range_laws.proofs.Widths.{meant_have_widths}
use Rattle.smps_cli.proofs.Few.{few_nodes}
use Rattle.smps_cli.proofs.OnTrees.{on_tree}
use Rattle.smps_cli.proofs.solve.solved_input.Goals as goal

pub returns : goal.returns
returns g c = record {
  program = content c.args.input.now.program;
  means = c.requires.means;
  few = few_nodes (texts_view c.args.texts.now) (content c.args.input.now.program) c.requires.means;
  tree = on_tree (texts_view c.args.texts.now) (content c.args.input.now.program) c.requires.means;
  widths = meant_have_widths (texts_view c.args.texts.now) (content c.args.input.now.program) c.requires.means;
  items = c.args.input.now.script.items.items;
  script = c.requires.script;
  short = c.requires.few;
  tolds = c.in_ok-tolds.tolds.items;
  told = c.in_ok-tolds.ensures;
  text = c.told.ensures.text;
  ends = c.told.ensures.ends;
}
