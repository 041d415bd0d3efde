-- What is read of a time file and of a stoch file is what building requires.
use Rattle.std.proofs.Common.{sym, ℕ, List, Ok}
use Rattle.smps_words.specs.Line.{reading_of}
use Rattle.core_defs.specs.declared.program.Core.{Core}
use Rattle.time_defs.specs.Means.{Stages, Means}
use Rattle.time_defs.specs.Periods.{ArePeriods}
use Rattle.time_defs.specs.Laws.{IsTimeReading}
use Rattle.time_defs.proofs.Texts as time_texts
use Rattle.stoch_defs.specs.Random.{Random}
use Rattle.stoch_defs.specs.File.{IsStochReading}
use Rattle.stoch_defs.proofs.Texts as stoch_texts
use Rattle.scen_defs.specs.Lists.{Each}
use Rattle.smps_words.specs.Field.{IsField}
use Rattle.tree_build.specs.Law.{IsStaged, AreCases}
use Rattle.tree_build.proofs.Cases.{read_cases_hold}
use Rattle.tree_build.proofs.Fields.{read_periods_are_named}

pub read_staged : (core : Core) (text : List ℕ) (p : Stages) → Means core (reading_of 0 text).lines p → IsStaged core p
read_staged core text p means = record { rows = means.all_rows; columns = means.all_columns; triangle = means.triangle }

pub read_periods : (core : Core) (text : List ℕ) (p : Stages) → IsTimeReading core text (Ok p) → ArePeriods p
read_periods core text p reading = time_texts.laws.periods core text p (sym (time_texts.laws.one core text (Ok p) reading))

pub read_names : (core : Core) (text : List ℕ) (p : Stages) → Means core (reading_of 0 text).lines p → Each IsField p.names
read_names = read_periods_are_named

pub read_cases : (core : Core) (p : Stages) (text : List ℕ) (random : Random) → IsStochReading core p text (Ok random) → AreCases p random
read_cases core p text random reading = read_cases_hold core p text random (sym (stoch_texts.laws.one core p text (Ok random) reading))
