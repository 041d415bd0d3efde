use Rattle.std.proofs.Common.{subst}
use Rattle.scen_defs.specs.Program.{content}
use Rattle.input_files.specs.Fetched.{Texts}
use Rattle.program_files.specs.Meant.{MeansProgram}
use Rattle.input_files.specs.Unfetched.{texts_view}
use Rattle.range_laws.proofs.Widths.{meant_have_widths}
use Rattle.smps_cli.proofs.Few.{few_nodes}
use Rattle.smps_cli.proofs.make.solved.Goals as goal

pub returns : goal.returns
returns g c = record {
  program = c.args.program;
  means = subst (λ (texts : Texts). MeansProgram texts (content c.args.program)) c.requires.texts c.requires.means;
  widths = meant_have_widths (texts_view c.args.texts.now) (content c.args.program) c.requires.means;
  report = c.in_ok-answered.answered.report;
  truth = c.in_ok-answered.ensures.truth;
  counts = c.in_ok-answered.ensures.counts;
  comes = c.in_ok-answered.ensures.comes (few_nodes (texts_view c.args.texts.now) (content c.args.program) c.requires.means);
  text = c.reported.ensures.text;
  told = c.reported.ensures.told;
}
