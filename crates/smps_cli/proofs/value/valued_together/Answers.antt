use Rattle.scen_defs.specs.Program.{content}
use Rattle.std.proofs.Common.{◌∙◌, sym}
use Rattle.input_files.specs.Unfetched.{texts_view}
use Rattle.smps_cli.specs.Found.{found_text}
use Rattle.smps_cli.proofs.MeasureLemmas.{prints_by_none}
use Rattle.smps_cli.proofs.value.valued_together.Goals as goal

pub returns-else-leaves_open : goal.returns-else-leaves_open
returns-else-leaves_open g c = prints_by_none (texts_view c.args.texts.now) (content c.args.program.now) c.requires.means c.in_ok-measures.measures
    c.measured.result.status (found_text c.measured.result.found) c.measured.ensures.text c.measured.ensures.ends
    c.args.budget c.without_solves-none.result c.without_solves-none.ensures c.requires.none (sym c.leaves_open.ensures ∙ c.if-leaves_open.false) c.in_ok-measures.ensures
