use Rattle.program_files.proofs.MeaningLemmas.{texts_mean_one_program}
use Rattle.program_files.proofs.laws.texts_mean_one_program.Goals as goal

pub returns : goal.returns
returns c = texts_mean_one_program
