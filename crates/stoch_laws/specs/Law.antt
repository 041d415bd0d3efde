-- What reading a stoch file gives is what its lines mean, taken together.
use Rattle.std.specs.Prelude.{◌≡◌, ℕ, List, Ok}
use Rattle.smps_words.specs.Line.{reading_of}
use Rattle.core_defs.specs.declared.program.Core.{Core}
use Rattle.time_defs.specs.Means.{Stages}
use Rattle.stoch_defs.specs.File.{read_random}
use Rattle.stoch_defs.specs.Means.{meant}
use Rattle.stoch_defs.specs.Random.{Random}

-- A text that is read as a stoch file gives the blocks or scenarios that its lines mean.
abbrev pub StochMeaningLaw : Type 0
StochMeaningLaw =
    (core : Core) (p : Stages) (text : List ℕ) (x : Random) →
    read_random core p text ≡ Ok x → x ≡ meant core p (reading_of 0 text).lines
