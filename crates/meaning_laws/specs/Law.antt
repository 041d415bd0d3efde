-- Cores with the same parts mean the same with all further files.
use Rattle.std.specs.Prelude.{◌≡◌, ℕ, false, List, [], ◌∷◌, length, replicate}
use Rattle.smps_words.specs.Line.{TextLine}
use Rattle.core_defs.specs.declared.program.Core.{Core}
use Rattle.core_defs.specs.Laws.{AreSame}
use Rattle.core_defs.specs.Fault.{IsCoreFile}
use Rattle.core_defs.specs.Means.{Means}
use Rattle.time_defs.specs.Means.{Stages}
use Rattle.time_defs.specs.Step.{read_lines}
use Rattle.stoch_defs.specs.Random.{Random}
use Rattle.stoch_defs.specs.Random.Random.{Blocks}
use Rattle.stoch_defs.specs.File.{read_random}
use Rattle.build_defs.specs.Built.{built, exceeds}

pub record SameCoresMeanTheSame : Type 0 where
  -- a time file is read alike
  pub time : (one other : Core) → AreSame one other → (text : List ℕ) → read_lines one text ≡ read_lines other text
  -- and a stoch file
  pub stoch : (one other : Core) → AreSame one other → (p : Stages) (text : List ℕ)
      → read_random one p text ≡ read_random other p text
  -- the same is built, or the same operation passes
  pub built_alike : (one other : Core) → AreSame one other → (p : Stages) (random : Random)
      → built one p random ≡ built other p random
  -- and the same limits hold
  pub within_alike : (one other : Core) → AreSame one other → (p : Stages) (random : Random)
      → exceeds one p random ≡ exceeds other p random

-- The core that a core file means, with all rows and columns in one period and no cases, exceeds no limit.
abbrev pub CoreFilesDontExceed : Type 0
CoreFilesDontExceed = (lines : List TextLine) (core : Core) → IsCoreFile lines → Means lines core
    → exceeds core (record {
      names = (80 ∷ 49 ∷ []) ∷ [];
      columns = replicate (length core.columns.items) 0;
      rows = replicate (length core.rows.items) 0;
    }) (Blocks []) ≡ false
