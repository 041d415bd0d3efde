use Rattle.input_files.specs.Unfetched.{texts_view}
use Rattle.smps_cli.proofs.EndLemmas.{program_refuses}
use Rattle.smps_cli.proofs.input.read_input.Goals as goal

pub returns-in-Err-clause-refused : goal.returns-in-Err-clause-refused
returns-in-Err-clause-refused c = program_refuses (texts_view c.args.texts.now) c.in-Err.unread c.in-Err.ensures
