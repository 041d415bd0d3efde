use Rattle.std.proofs.Common.{ap, refl}
use Rattle.scen_defs.specs.Program.{content}
use Rattle.report_text.specs.Shown.{program_text}
use Rattle.smps_cli.proofs.show.edited.Goals as goal

pub returns : goal.returns
returns c = record {
  program = content c.args.input.program;
  means = c.requires.means;
  items = c.args.input.script.items.items;
  script = c.requires.script;
  text = ap program_text c.in_ok-apply_all.ensures.after;
  done = refl;
}
