use Rattle.scen_defs.specs.Program.{content}
use Rattle.input_files.specs.Unfetched.{texts_view}
use Rattle.smps_cli.specs.Found.{found_text}
use Rattle.smps_cli.proofs.MeasureLemmas.{prints_by_words}
use Rattle.smps_cli.proofs.value.valued_by_method.Goals as goal

pub returns : goal.returns
returns g c = prints_by_words (texts_view c.args.texts.now) (content c.args.program.now) c.requires c.in_ok-measures.measures
    c.measured.result.status (found_text c.measured.result.found) c.measured.ensures.text c.measured.ensures.ends c.args.budget c.in_ok-measures.ensures
