-- The program that the texts of a core, a time and a stoch file mean together.
use Rattle.std.specs.Prelude.{◌≡◌, ◌≤◌, ℕ, false, List, [], ◌∷◌, length, replicate, Option, Some, None, IfSome, Ok}
use Rattle.smps_words.specs.Line.{reading_of}
use Rattle.core_defs.specs.Means.{TextMeans}
use Rattle.core_defs.specs.Fault.{IsCoreFile}
use Rattle.core_defs.specs.declared.program.Core.{Core}
use Rattle.time_defs.specs.Means.{Stages, Means}
use Rattle.time_defs.specs.Laws.{IsTimeReading}
use Rattle.stoch_defs.specs.Random.{Random}
use Rattle.stoch_defs.specs.Random.Random.{Blocks}
use Rattle.stoch_defs.specs.File.{IsStochReading}
use Rattle.stoch_defs.specs.Means.{meant}
use Rattle.build_defs.specs.Built.{built, exceeds}
use Rattle.scen_defs.specs.Program.{Program}
use Rattle.input_files.specs.Fetched.{Texts, file_limit}

-- None of the texts is too long.
pub record AreWithin (texts : Texts) : Type 0 where
  pub core : length texts.core ≤ file_limit
  pub time : IfSome texts.time (λ text. length text ≤ file_limit)
  pub stoch : IfSome texts.stoch (λ text. length text ≤ file_limit)
  pub edits : IfSome texts.edits (λ text. length text ≤ file_limit)
  pub report : IfSome texts.report (λ text. length text ≤ file_limit)
  pub basis : IfSome texts.basis (λ text. length text ≤ file_limit)
  pub measures : IfSome texts.measures (λ text. length text ≤ file_limit)

-- No line is at fault and no section is missing, and the text means this core.
pub record MeansCore (text : List ℕ) (core : Core) : Type 0 where
  pub read : IsCoreFile (reading_of 0 text).lines
  pub means : TextMeans text core

-- one period P1 with all rows and columns
abbrev pub single_stages : Core → Stages
single_stages core = record {
  names = (80 ∷ 49 ∷ []) ∷ [];
  columns = replicate (length core.columns.items) 0;
  rows =
      replicate (length core.rows.items) 0;
}

-- These are the periods: those that the time file's lines mean, or a single one.
abbrev pub MeansPeriods : Core → Option (List ℕ) → Stages → Type 0
MeansPeriods core None p = p ≡ single_stages core
MeansPeriods core (Some text) p = IsTimeReading core text (Ok p) × Means core (reading_of 0 text).lines p

-- These are the cases: those that the stoch file's lines mean, taken together, which is read to its end; or none.
abbrev pub MeansRandom : Core → Stages → Option (List ℕ) → Random → Type 0
MeansRandom core p None random = random ≡ Blocks []
MeansRandom core p (Some text) random = IsStochReading core p text (Ok random) × (random ≡ meant core p (reading_of 0 text).lines)

-- The texts mean this program.
pub record MeansProgram (texts : Texts) (program : Program) : Type 0 where
  pub core : Core
  pub core_means : MeansCore texts.core core
  pub periods : Stages
  pub periods_mean : MeansPeriods core texts.time periods
  pub random : Random
  pub random_means : MeansRandom core periods texts.stoch random
  -- it is within the limits, and the one that these parts mean
  pub within : exceeds core periods random ≡ false
  pub built_is : built core periods random ≡ Ok program
