use Rattle.std.proofs.Common.{rules}
use Rattle.scen_defs.specs.Program.{content}
use Rattle.input_files.specs.Unfetched.{texts_view}
use Rattle.smps_cli.proofs.Few.{few_nodes}
use Rattle.smps_cli.proofs.value.measured_within.Goals as goal

pub measure-requires : goal.measure-requires
measure-requires g c = (search rules, few_nodes (texts_view c.args.texts.now) (content c.args.program.now) c.requires)
