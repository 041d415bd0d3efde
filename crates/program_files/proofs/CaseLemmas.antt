-- What is read of a stoch file is what its lines mean.
use Rattle.std.proofs.Common.{ℕ, List, Some, Ok, Err, sym}
use Rattle.std.specs.Prelude.{Result}
use Rattle.refusals.specs.declared.cause.ReadFail.{ReadFail}
use Rattle.refusals.specs.declared.cause.ReadFail.TheVariants as fail
use Rattle.core_defs.specs.declared.program.Core.{Core}
use Rattle.time_defs.specs.Means.{Stages}
use Rattle.stoch_defs.specs.declared.stoch.Stoch.{Stoch}
use Rattle.stoch_defs.specs.Random.{stoch_content}
use Rattle.stoch_defs.proofs.Texts.{laws}
use Rattle.stoch_laws.proofs.Meaning.{law}
use Rattle.smps_stoch.specs.View.{MeansOrRefused as ReadsCases}
use Rattle.program_files.specs.Views.{GivesRandom}

pub gives_cases : (core : Core) (p : Stages) (text : List ℕ) (result : Result Stoch ReadFail) → ReadsCases core p text result → GivesRandom core p (Some text) result
gives_cases core p text (Ok stoch) h = (h, law core p text (stoch_content stoch) (sym (laws.one core p text (Ok (stoch_content stoch)) h)))
gives_cases core p text (Err fail.Memory) h = tt
gives_cases core p text (Err (fail.Refused refusal)) h = h
