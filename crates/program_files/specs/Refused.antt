-- Why the texts of three files mean no program.
use Rattle.std.specs.Prelude.{◌≡◌, ◌⊎◌, ℕ, true, false, List, Option, Some, None, Err}
use Rattle.smps_words.specs.Line.{reading_of}
use Rattle.rationals.specs.Passes.{Operation}
use Rattle.refusals.specs.declared.cause.Cause.TheVariants.{ScenarioLimit, Passes}
use Rattle.refusals.specs.declared.cause.Refusal.{Refusal}
use Rattle.reader_defs.specs.Reader.{IsFault}
use Rattle.core_defs.specs.Fault.{core_file, IsCoreFile}
use Rattle.core_defs.specs.declared.program.Core.{Core}
use Rattle.time_defs.specs.Means.{Stages}
use Rattle.time_defs.specs.Laws.{IsTimeReading}
use Rattle.stoch_defs.specs.Random.{Random}
use Rattle.stoch_defs.specs.File.{IsStochReading}
use Rattle.build_defs.specs.Built.{built, exceeds}
use Rattle.input_files.specs.declared.kind.FileKind.{FileKind}
use Rattle.input_files.specs.declared.kind.FileKind.TheVariants as kind
use Rattle.input_files.specs.Fetched.{Texts}
use Rattle.program_files.specs.Meant.{MeansCore, MeansPeriods, MeansRandom}

-- The core file has this fault; no core is known.
pub record RefusesCore (texts : Texts) (file : FileKind) (refusal : Refusal) (known : Option Core) : Type 0 where
  pub file_is : file ≡ kind.Core
  pub known_is : known ≡ None
  pub not_read : IsCoreFile (reading_of 0 texts.core).lines → ⊥
  pub fault : IsFault core_file (reading_of 0 texts.core).lines (reading_of 0 texts.core).end_line refusal

-- The time file has this fault.
pub record RefusesTime (texts : Texts) (file : FileKind) (refusal : Refusal) (known : Option Core) : Type 0 where
  pub file_is : file ≡ kind.Time
  pub core : Core
  pub known_is : known ≡ Some core
  pub core_means : MeansCore texts.core core
  pub text : List ℕ
  pub text_is : texts.time ≡ Some text
  pub fault : IsTimeReading core text (Err refusal)

-- The stoch file has this fault.
pub record RefusesStoch (texts : Texts) (file : FileKind) (refusal : Refusal) (known : Option Core) : Type 0 where
  pub file_is : file ≡ kind.Stoch
  pub core : Core
  pub known_is : known ≡ Some core
  pub core_means : MeansCore texts.core core
  pub periods : Stages
  pub periods_mean : MeansPeriods core texts.time periods
  pub text : List ℕ
  pub text_is : texts.stoch ≡ Some text
  pub fault : IsStochReading core periods text (Err refusal)

-- a program that isn't built is refused in the stoch file, or in the core file where there is none
abbrev pub build_file : Option (List ℕ) → FileKind
build_file None = kind.Core
build_file (Some text) = kind.Stoch

-- A limit is exceeded, or an operation passes 128 bits: the first one.
abbrev pub IsUnbuilt : Core → Stages → Random → Refusal → Type 0
IsUnbuilt core p random refusal = ((exceeds core p random ≡ true) × (refusal ≡ record { line = 0; cause = ScenarioLimit }))
    ⊎ ((exceeds core p random ≡ false) × ((operation : Operation) × (built core p random ≡ Err operation)
    × (refusal ≡ record { line = 0; cause = Passes operation })))

-- All three are read, and the program isn't built.
pub record RefusesBuild (texts : Texts) (file : FileKind) (refusal : Refusal) (known : Option Core) : Type 0 where
  pub file_is : file ≡ build_file texts.stoch
  pub core : Core
  pub known_is : known ≡ Some core
  pub core_means : MeansCore texts.core core
  pub periods : Stages
  pub periods_mean : MeansPeriods core texts.time periods
  pub random : Random
  pub random_means : MeansRandom core periods texts.stoch random
  pub fault : IsUnbuilt core periods random refusal

-- The first fault of the texts: that of the core, of the time, of the stoch file, or of building.
abbrev pub RefusesProgram : Texts → FileKind → Refusal → Option Core → Type 0
RefusesProgram texts file refusal known = RefusesCore texts file refusal known ⊎ RefusesTime texts file refusal known
    ⊎ RefusesStoch texts file refusal known ⊎ RefusesBuild texts file refusal known
